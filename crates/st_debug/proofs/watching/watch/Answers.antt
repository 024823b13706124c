use Rattle.std.proofs.Common.{◌≡◌, refl, sym, ap, subst, ◌∙◌, arith, w32, to_z, of_z}
use Rattle.std.specs.Prelude.{ℤ, pos, ◌+ℤ◌, Some, option_map}
use Rattle.std.specs.Result.{result_ok}
use Rattle.std.proofs.lemmas.Int.{to_z-of_z}
use Rattle.st_model.specs.Values.{value}
use Rattle.st_model.specs.Table.{bounded_table}
use Rattle.st_model.specs.Steps.{byte_at}
use Rattle.st_model.specs.inside.Calls.{transition_of, itself}
use Rattle.st_frames.specs.inside.Shown.{shown}
use Rattle.st_debug.specs.Watched.{At}
use Rattle.st_debug.proofs.Fetched.{at_code, fetched}
use Rattle.st_debug.proofs.watching.watch.Goals as goal

pub returns-in-Ok : goal.returns-in-Ok
returns-in-Ok g c = λ w.
    let f = c.args.f.now in
    let s = shown (g.M.Memory.view c.args.m.now) f w in
    let read : to_z w32 (of_z w32 f.ip) ≡ f.ip = grind (arith, to_z-of_z) in
    let sum : to_z w32 (of_z w32 (f.ip +ℤ pos 1)) ≡ f.ip +ℤ pos 1 = grind (arith, to_z-of_z) in
    let ip = ap (λ (n : ℤ). to_z w32 (of_z w32 (n +ℤ pos 1))) read ∙ sum in
    let got = c.byte_at.ensures s refl in
    let byte = subst (λ x. (byte_at bounded_table x (to_z w32 (of_z w32 f.ip))).run s ≡ transition_of itself c.byte_at.result s) c.from.ensures got in
    let done = subst (λ i. (byte_at bounded_table (value f.method) i).run s ≡ transition_of itself c.byte_at.result s) read byte in
    (λ i. Some (record { active = value f.active; method = value f.method; place = ip i; code = c.in-Ok.code }))
    ∙ sym (fetched s c.byte_at.result done ∙ ap (λ r. option_map (at_code s) (result_ok r)) c.in-Ok.is)

pub returns-in-Err : goal.returns-in-Err
returns-in-Err g c = λ w.
    let f = c.args.f.now in
    let s = shown (g.M.Memory.view c.args.m.now) f w in
    let read : to_z w32 (of_z w32 f.ip) ≡ f.ip = grind (arith, to_z-of_z) in
    let got = c.byte_at.ensures s refl in
    let byte = subst (λ x. (byte_at bounded_table x (to_z w32 (of_z w32 f.ip))).run s ≡ transition_of itself c.byte_at.result s) c.from.ensures got in
    let done = subst (λ i. (byte_at bounded_table (value f.method) i).run s ≡ transition_of itself c.byte_at.result s) read byte in
    sym (fetched s c.byte_at.result done ∙ ap (λ r. option_map (at_code s) (result_ok r)) c.in-Err.is)

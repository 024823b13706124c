use Rattle.std.proofs.Common.{◌≡◌, ◌-◌, ◌∙◌, ap, arith, w32, to_z, of_z}
use Rattle.std.specs.Prelude.{ℤ, pos, ◌+ℤ◌}
use Rattle.std.proofs.lemmas.Int.{to_z-of_z}
use Rattle.st_model.specs.Text.{pointers_text}
use Rattle.st_call.proofs.Pushing.{push_then, push_begun, push_as}
use Rattle.st_call.proofs.state.push_registers.Goals as goal

pub returns-in_err-push : goal.returns-in_err-push
returns-in_err-push g c = push_begun _ c.from_residual.ensures.0 c.in_err-push.ensures

pub returns-in_err-push_values : goal.returns-in_err-push_values
returns-in_err-push_values g c = push_then c.in_ok-push.ensures (push_begun _ c.from_residual-in_err-push_values.ensures.0 c.in_err-push_values.ensures)

pub returns : goal.returns
returns g c =
    let f = c.args.f.now in
    let read : to_z w32 (of_z w32 f.ip) ≡ f.ip = grind (arith, to_z-of_z) in
    let sum : to_z w32 (of_z w32 (f.ip +ℤ pos 1)) ≡ f.ip +ℤ pos 1 = grind (arith, to_z-of_z) in
    let ip = ap (λ (n : ℤ). to_z w32 (of_z w32 (n +ℤ pos 1))) read ∙ sum in
    push_then c.in_ok-push.ensures
    (push_then c.in_ok-push_values.ensures (push_as c.push_pointers.ensures (ap (λ (n : ℤ). pointers_text n (f.sp - 5)) ip)))

use Rattle.std.proofs.Common.{rules, ◌≡◌, Err, refl, sym, subst}
use Rattle.std.specs.Prelude.{IfErr}
use Rattle.st_model.specs.Machine.{Died}
use Rattle.st_model.specs.Table.{table}
use Rattle.st_model.specs.Steps.{next_byte}
use Rattle.st_model.specs.Bytecodes.{step}
use Rattle.st_frames.specs.inside.Rows.{row_state, registers_in}
use Rattle.st_frames.specs.inside.Shown.{shown}
use Rattle.st_control.proofs.Suffices.{dies}
use Rattle.st_step.proofs.Stepped.{from_row}
use Rattle.st_at_once.specs.inside.AtOnce.{IsFetched, NamesSame}
use Rattle.st_at_once.proofs.InContext.{left_so, next_byte_stays}
use Rattle.st_machine.specs.inside.Cycling.{foreseen_step}
use Rattle.st_machine.proofs.Fetching.{fetch_dies, fetch_goes}
use Rattle.st_machine.proofs.Foreseeing.{dies_at_once}
use Rattle.st_machine.proofs.doing.fetch.Goals as goal

pub returns-in_err-byte-clause-dies : goal.returns-in_err-byte-clause-dies
returns-in_err-byte-clause-dies g c =
    let v = g.M.Memory.view c.args.near.now.memory.now in
    let f = c.args.f.now in
    let start = c.args.r.now in
    let w = start.world.now in
    let k = c.in_err-byte.field-0.0 in
    let e : c.from_residual.result ≡ Err k = search rules in
    subst (λ y. IfErr y (λ cause. foreseen_step (shown v f w) ≡ Died cause)) (sym e)
    (dies_at_once (shown v f w) k
    (dies v f w (g.met.M.Memory.whole c.args.near.now.memory.now) c.requires.ready k
    (from_row (step table) v f w start (Died k) c.requires.same refl (fetch_dies (row_state v.objects v.head start) k c.in_err-byte.ensures.does.does))))

pub returns-clause-fetched : goal.returns-clause-fetched
returns-clause-fetched g c =
    let v = g.M.Memory.view c.args.near.now.memory.now in
    let f = c.args.f.now in
    let start = c.args.r.now in
    let w = start.world.now in
    let r = c.next_byte.new.r in
    subst (λ y. IsFetched v f w y r) (sym c.decode.ensures.code)
    (from_row (step table) v f w start _ c.requires.same refl (fetch_goes (row_state v.objects v.head start) (row_state v.objects v.head r) c.in_ok-byte.byte c.in_ok-byte.ensures.does.does))

pub returns-clause-names : goal.returns-clause-names
unfolding row_state
returns-clause-names g c =
    let v = g.M.Memory.view c.args.near.now.memory.now in
    let start = c.args.r.now in
    let r = c.next_byte.new.r in
    subst (λ q. NamesSame q (registers_in r)) c.requires.same
    (left_so (next_byte table) (row_state v.objects v.head start) (row_state v.objects v.head r) c.in_ok-byte.byte next_byte_stays c.in_ok-byte.ensures.does.does).names

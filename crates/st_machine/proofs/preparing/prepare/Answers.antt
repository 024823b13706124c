use Rattle.std.proofs.Common.{sym, subst}
use Rattle.st_frames.specs.inside.Shown.{shown}
use Rattle.st_machine.specs.Prepared.{prepared, PreparedAs}
use Rattle.st_machine.proofs.Prepares.{prepared_by}
use Rattle.st_machine.proofs.preparing.prepare.Goals as goal

pub returns-clause-prepares : goal.returns-clause-prepares
returns-clause-prepares g c s h =
    let v = g.M.Memory.view c.args.m.now in
    let called = c.check_process_switch in
    let d = shown (g.M.Memory.view called.new.m) called.new.f called.new.w in
    subst (λ x. PreparedAs x d (prepared s)) (sym c.err.ensures.value)
    (prepared_by v c.args.f.now c.args.w.now (g.met.M.Memory.whole c.args.m.now) c.requires.ready s h called.result d called.ensures.does)

use Rattle.std.proofs.Common.{◌-◌, sym, subst}
use Rattle.st_session.specs.inside.Standing.{shown_by}
use Rattle.st_session.specs.inside.Stretches.{PushesStretch}
use Rattle.st_session.proofs.Watches.{stretch_is_watched}
use Rattle.st_session.proofs.watching.push_run_on.Goals as goal

pub returns-in-Nothing-clause-pushes : goal.returns-in-Nothing-clause-pushes
returns-in-Nothing-clause-pushes g c = λ s h.
    let called = c.push_stretch in
    rw c.in-Nothing.is (subst (λ r. PushesStretch g.H.Host called.new.machine.death (shown_by g.M.Memory.view called.new.machine) r c.args.host.now called.new.host c.args.out.now called.new.out called.result)
    (sym (stretch_is_watched (c.args.cycles - c.args.finished) c.args.finished s)) (called.ensures.pushes s h))

use Rattle.st_model.specs.Text.{state_text}
use Rattle.st_session.specs.inside.Standing.{shown_by}
use Rattle.st_session.proofs.Reported.{reported, unreported}
use Rattle.st_session.proofs.report.push_report.Goals as goal

pub returns-in_err-push_run : goal.returns-in_err-push_run
returns-in_err-push_run g c = λ s h.
    let new = c.push_run.new.machine in
    unreported state_text c.args.cycles s new.death (shown_by g.M.Memory.view new) c.from_residual.ensures.0 (c.in_err-push_run.ensures.pushes s h)

pub returns : goal.returns
returns g c = λ s h.
    let new = c.push_run.new.machine in
    reported state_text c.args.cycles s new.death (shown_by g.M.Memory.view new) (g.met.M.Memory.whole new.memory).places (c.in_ok-push_run.ensures.pushes s h) c.push_shown.ensures

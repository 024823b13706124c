use Rattle.std.proofs.Common.{ap}
use Rattle.st_session.specs.declared.making.Origin.TheVariants.{Kernel}
use Rattle.st_call.proofs.Pushing.{push_then, push_begun, push_as}
use Rattle.st_session.specs.Drills.{use_text}
use Rattle.st_session.specs.Makings.{contents_in, made_text}
use Rattle.st_session.specs.Reports.{run_text}
use Rattle.st_session.specs.inside.Standing.{shown_by}
use Rattle.st_session.proofs.Reported.{reported, unreported}
use Rattle.st_session.proofs.drilling.push_drill.Goals as goal

pub returns-in_err-push_made : goal.returns-in_err-push_made
returns-in_err-push_made g c = λ s h.
    push_begun (run_text use_text 1000000 s) c.from_residual.ensures.0
    (push_as c.in_err-push_made.ensures (ap (λ m. made_text Kernel (contents_in (g.M.Memory.view m))) c.memory.ensures))

pub returns-in_err-push_run : goal.returns-in_err-push_run
returns-in_err-push_run g c = λ s h.
    let new = c.push_run.new.machine in
    push_then (push_as c.in_ok-push_made.ensures (ap (λ m. made_text Kernel (contents_in (g.M.Memory.view m))) c.memory.ensures))
    (unreported use_text 1000000 s new.death (shown_by g.M.Memory.view new) c.from_residual-in_err-push_run.ensures.0 (c.in_err-push_run.ensures.pushes s h))

pub returns : goal.returns
returns g c = λ s h.
    let new = c.push_run.new.machine in
    push_then (push_as c.in_ok-push_made.ensures (ap (λ m. made_text Kernel (contents_in (g.M.Memory.view m))) c.memory.ensures))
    (reported use_text 1000000 s new.death (shown_by g.M.Memory.view new) (g.met.M.Memory.whole new.memory).places (c.in_ok-push_run.ensures.pushes s h) c.push_use.ensures)

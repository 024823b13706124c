use Rattle.st_model.specs.Births.{births}
use Rattle.st_model.specs.Events.{event}
use Rattle.st_session.specs.inside.Standing.{shown_by, StandsAt}
use Rattle.st_session.proofs.Lines.{came, full}
use Rattle.st_session.proofs.answering.push_event.Goals as goal

pub returns-in-Ok-clause-pushes : goal.returns-in-Ok-clause-pushes
returns-in-Ok-clause-pushes g c = λ s k h.
    let m = c.event.new.self in
    came g.H.Host (StandsAt g.M.Memory.view m) s k (shown_by g.M.Memory.view m) (event births c.args.e s) (c.in-Ok.ensures.comes s h) (λ t w. (c.in-Ok.ensures.alive, w)) c.push.ensures

pub returns-in-Err-clause-pushes : goal.returns-in-Err-clause-pushes
returns-in-Err-clause-pushes g c = λ s k h.
    let m = c.event.new.self in
    full g.H.Host (StandsAt g.M.Memory.view m) s k (shown_by g.M.Memory.view m) (event births c.args.e s) _ (c.in-Err.ensures.comes s h) (c.in-Err.ensures.alive, rw c.in-Err.ensures.full h) c.push-in-Err.ensures

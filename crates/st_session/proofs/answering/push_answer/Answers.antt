use Rattle.std.proofs.Common.{ap, sym, ◌∙◌}
use Rattle.st_model.specs.Text.{used_text}
use Rattle.st_model.specs.Machine.{State}
use Rattle.st_model.specs.Table.{Table}
use Rattle.st_model.specs.Show.{show}
use Rattle.st_model.proofs.Showing.{show_is}
use Rattle.st_call.proofs.Pushing.{push_as}
use Rattle.st_session.specs.Points.{alive}
use Rattle.st_call.specs.Replies.{machine_text}
use Rattle.st_session.specs.inside.Standing.{shown_by, StandsAt}
use Rattle.st_session.proofs.Stretches.{all_ok, course_replies}
use Rattle.st_session.proofs.answering.push_answer.Goals as goal

pub returns-in-State-clause-pushes : goal.returns-in-State-clause-pushes
returns-in-State-clause-pushes g c = λ s k h.
    let m = c.args.machine.now in
    let same = show_is (shown_by g.M.Memory.view m) s h (g.met.M.Memory.whole m.memory).places in
    rw c.in-State.is (course_replies g.H.Host (StandsAt g.M.Memory.view m) (machine_text (show s)) (alive s k) (push_as c.push_machine.ensures (ap machine_text (sym same))) (all_ok c.push_machine.result (c.requires.alive, h)))

pub returns-in-Used-clause-pushes : goal.returns-in-Used-clause-pushes
returns-in-Used-clause-pushes g c = λ s k h.
    let m = c.args.machine.now in
    let same = show_is (shown_by g.M.Memory.view m) s h (g.met.M.Memory.whole m.memory).places in
    rw c.in-Used.is (course_replies g.H.Host (StandsAt g.M.Memory.view m) (used_text (show s).memory) (alive s k)
    (push_as c.push_used.ensures (ap (λ x. used_text (g.M.Memory.view x).objects) c.memory.ensures ∙ ap (λ (x : State Table). used_text x.memory) (sym same)))
    (all_ok c.push_used.result (c.requires.alive, h)))

pub returns-in-Input-clause-pushes : goal.returns-in-Input-clause-pushes
returns-in-Input-clause-pushes g c = λ s k h. rw c.in-Input.is (c.push_event.ensures.pushes s k h)

pub returns-in-Mouse-clause-pushes : goal.returns-in-Mouse-clause-pushes
returns-in-Mouse-clause-pushes g c = λ s k h. rw c.in-Mouse.is (c.push_event-in-Mouse.ensures.pushes s k h)

pub returns-in-Clock-clause-pushes : goal.returns-in-Clock-clause-pushes
returns-in-Clock-clause-pushes g c = λ s k h. rw c.in-Clock.is (c.push_event-in-Clock.ensures.pushes s k h)

pub returns-in-Tick-clause-pushes : goal.returns-in-Tick-clause-pushes
returns-in-Tick-clause-pushes g c = λ s k h. rw c.in-Tick.is (c.push_event-in-Tick.ensures.pushes s k h)

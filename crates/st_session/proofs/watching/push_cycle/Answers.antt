use Rattle.std.proofs.Common.{◌+◌, ap, ◌∙◌}
use Rattle.st_model.specs.Values.{value}
use Rattle.st_machine.specs.inside.Runs.{death_of}
use Rattle.st_call.specs.inside.Saying.{said_in}
use Rattle.st_call.proofs.Pushing.{push_as}
use Rattle.st_session.specs.inside.Runs.{end_text}
use Rattle.st_session.specs.inside.Standing.{shown_by}
use Rattle.st_session.proofs.Seen.{goes_on, asks, says_bytes, bytes_unsaid, is_over, over_unsaid}
use Rattle.st_session.proofs.watching.push_cycle.Goals as goal

pub returns-in-Ran-clause-pushes : goal.returns-in-Ran-clause-pushes
returns-in-Ran-clause-pushes g c = λ s h.
    let new = c.run-end.new.self in
    let alive = c.requires.alive in
    let lives = c.run-end.ensures.death alive ∙ ap death_of c.in-Ran.is in
    goes_on {host = g.H.Host} c.args.finished (shown_by g.M.Memory.view new) c.run-end.result s (c.run-end.ensures.ends alive s h) new.death c.in-Ran.is lives (g.met.H.Host.only_now c.args.host.now)

pub returns-in-Snapshot-clause-pushes : goal.returns-in-Snapshot-clause-pushes
returns-in-Snapshot-clause-pushes g c = λ s h.
    let new = c.run-end.new.self in
    let alive = c.requires.alive in
    let lives = c.run-end.ensures.death alive ∙ ap death_of c.in-Snapshot.is in
    asks {host = g.H.Host} c.args.finished (shown_by g.M.Memory.view new) c.run-end.result s (c.run-end.ensures.ends alive s h) new.death _ c.in-Snapshot.is lives (g.met.H.Host.only_now c.args.host.now)

pub returns-in-Ok-clause-pushes : goal.returns-in-Ok-clause-pushes
returns-in-Ok-clause-pushes g c = λ s h.
    let new = c.run-end.new.self in
    let alive = c.requires.alive in
    let lives = c.run-end.ensures.death alive ∙ ap death_of c.in-Say.is in
    says_bytes {host = g.H.Host} c.args.finished (shown_by g.M.Memory.view new) c.run-end.result s (c.run-end.ensures.ends alive s h) new.death _ c.in-Say.object c.in-Say.is lives
    (push_as c.in-Ok.ensures.says (ap (λ m. said_in (g.M.Memory.view m).objects (value c.in-Say.object)) c.memory.ensures))

pub returns-in-Err-clause-pushes : goal.returns-in-Err-clause-pushes
returns-in-Err-clause-pushes g c = λ s h.
    let new = c.run-end.new.self in
    bytes_unsaid {host = g.H.Host} c.args.finished (shown_by g.M.Memory.view new) c.run-end.result s (c.run-end.ensures.ends c.requires.alive s h) new.death _ c.in-Say.object c.in-Say.is
    (push_as c.in-Err.ensures.says (ap (λ m. said_in (g.M.Memory.view m).objects (value c.in-Say.object)) c.memory.ensures))

pub returns-in-Ok-push_end-clause-pushes : goal.returns-in-Ok-push_end-clause-pushes
returns-in-Ok-push_end-clause-pushes g c = λ s h.
    let new = c.run-end.new.self in
    let e = c.run-end.result in
    let alive = c.requires.alive in
    is_over {host = g.H.Host} c.args.finished (shown_by g.M.Memory.view new) e s (c.run-end.ensures.ends alive s h) new.death c.in_default.not-Ran c.in_default.not-Snapshot c.in_default.not-Say (c.run-end.ensures.death alive)
    (push_as c.in-Ok-push_end.ensures (λ i. end_text (c.args.finished + c.finished-last.ensures i) e))

pub returns-in-Err-push_end-clause-pushes : goal.returns-in-Err-push_end-clause-pushes
returns-in-Err-push_end-clause-pushes g c = λ s h.
    let new = c.run-end.new.self in
    let e = c.run-end.result in
    over_unsaid {host = g.H.Host} c.args.finished (shown_by g.M.Memory.view new) e s (c.run-end.ensures.ends c.requires.alive s h) new.death c.in_default.not-Ran c.in_default.not-Snapshot c.in_default.not-Say
    (push_as c.in-Err-push_end.ensures (λ i. end_text (c.args.finished + c.finished-last.ensures i) e))

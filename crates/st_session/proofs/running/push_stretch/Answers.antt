use Rattle.std.proofs.Common.{◌+◌, sym, ap, subst, ◌∙◌, arith}
use Rattle.st_model.specs.Values.{value}
use Rattle.st_machine.specs.inside.Runs.{death_of}
use Rattle.st_call.specs.inside.Saying.{said_in}
use Rattle.st_call.proofs.Pushing.{push_as}
use Rattle.st_session.specs.inside.Runs.{end_text}
use Rattle.st_session.specs.inside.Standing.{shown_by}
use Rattle.st_session.proofs.Cycles.{SaidSoFar, none_so_far, ends_here, end_unsaid, stops_here, said_on, cut_short}
use Rattle.st_session.proofs.running.push_stretch.Goals as goal

pub cycles-init : goal.cycles-init
cycles-init g c = record {
  ready = c.requires.ready;
  alive = c.requires.alive;
  later = omega arith;
  few = c.requires.few;
  said = λ s h. none_so_far g.H.Host c.args.cycles c.args.finished s (shown_by g.M.Memory.view c.args.machine.now) c.args.host.now c.args.out.now (g.met.H.Host.only_now c.args.host.now) h;
}

pub returns-in-Snapshot-clause-pushes : goal.returns-in-Snapshot-clause-pushes
returns-in-Snapshot-clause-pushes g c = λ s h.
    let lives = c.run-end.ensures.death c.cycles.invariant.alive ∙ ap death_of c.in-Snapshot.is in
    rw c.finished-finished.ensures (stops_here (c.cycles.invariant.said s h) c.run-end.result (shown_by g.M.Memory.view c.run-end.new.self) (c.run-end.ensures.ends c.cycles.invariant.alive) c.run-end.new.self.death _ lives c.in-Snapshot.is (g.met.H.Host.only_now c.cycles.host))

pub cycles-preserved : goal.cycles-preserved
cycles-preserved g c =
    let new = c.run-end.new.self in
    let n = c.args.cycles in
    let d = shown_by g.M.Memory.view new in
    let alive = c.cycles.invariant.alive in
    let lives = c.run-end.ensures.death alive ∙ ap death_of c.in-Say.is in
    let most = c.run-end.ensures.counts.most in
    let count = c.finished-finished.ensures in
    let few = c.cycles.invariant.few in
    let later = c.cycles.invariant.later in
    record {
      ready = c.run-end.ensures.ready lives;
      alive = lives;
      later = omega (arith, later);
      few = omega (arith, most, count, few);
      said = λ s h.
          let far = c.cycles.invariant.said s h in
          let line = push_as c.in-Ok.ensures.says (ap (λ m. said_in (g.M.Memory.view m).objects (value c.in-Say.object)) c.memory.ensures) in
          subst (λ k. SaidSoFar g.H.Host n c.args.finished s (c.cycles.finished + k) d c.args.host.now c.say_at_once.new.host c.args.out.now c.say_at_once.new.out) (sym count) (said_on far c.run-end.result d (c.run-end.ensures.ends alive) _ c.in-Say.object c.in-Say.is line);
    }

pub returns-in-Err-clause-pushes : goal.returns-in-Err-clause-pushes
returns-in-Err-clause-pushes g c = λ s h.
    let line = push_as c.in-Err.ensures.says (ap (λ m. said_in (g.M.Memory.view m).objects (value c.in-Say.object)) c.memory.ensures) in
    cut_short (c.cycles.invariant.said s h) c.run-end.result (shown_by g.M.Memory.view c.run-end.new.self) (c.run-end.ensures.ends c.cycles.invariant.alive) _ c.in-Say.object c.in-Say.is c.run-end.new.self.death line

pub returns-in-Ok-push_end-clause-pushes : goal.returns-in-Ok-push_end-clause-pushes
returns-in-Ok-push_end-clause-pushes g c = λ s h.
    ends_here (c.cycles.invariant.said s h) c.run-end.result (shown_by g.M.Memory.view c.run-end.new.self) (c.run-end.ensures.ends c.cycles.invariant.alive) c.run-end.new.self.death (c.run-end.ensures.death c.cycles.invariant.alive) c.in_default.not-Snapshot c.in_default.not-Say
    (push_as c.in-Ok-push_end.ensures (λ i. end_text (c.cycles.finished + c.finished-finished.ensures i) c.run-end.result))

pub returns-in-Err-push_end-clause-pushes : goal.returns-in-Err-push_end-clause-pushes
returns-in-Err-push_end-clause-pushes g c = λ s h.
    end_unsaid (c.cycles.invariant.said s h) c.run-end.result (shown_by g.M.Memory.view c.run-end.new.self) (c.run-end.ensures.ends c.cycles.invariant.alive) c.run-end.new.self.death c.in_default.not-Snapshot c.in_default.not-Say
    (push_as c.in-Err-push_end.ensures (λ i. end_text (c.cycles.finished + c.finished-finished.ensures i) c.run-end.result))

use Rattle.std.proofs.Common.{◌≡◌, ◌-◌, None, subst, arith}
use Rattle.std.specs.Prelude.{Ok, Some}
use Rattle.st_host.specs.declared.host.SayFault.{SayFault}
use Rattle.st_session.specs.inside.Standing.{shown_by}
use Rattle.st_session.specs.inside.Stretches.{PushesStretch}
use Rattle.st_session.specs.Watching.{look_of}
use Rattle.st_session.specs.inside.Watched.{watched_stretch}
use Rattle.st_session.proofs.Points.{shown_births}
use Rattle.st_session.proofs.Seen.{SeenSoFar, none_seen, seen_on, seen_asked, seen_over, seen_cut, all_ran, ran_unsaid, cycled_so, goes_alive, asks_alive, one_later}
use Rattle.st_session.proofs.watching.push_cycles.Goals as goal

pub cycles-init : goal.cycles-init
cycles-init g c = record {
  ready = c.requires.ready;
  alive = c.requires.alive;
  later = omega arith;
  few = c.requires.few;
  said = λ s h. none_seen g.H.Host (look_of c.args.watch) c.args.cycles c.args.finished s (shown_by g.M.Memory.view c.args.machine.now) c.args.host.now c.args.out.now (g.met.H.Host.only_now c.args.host.now) h;
}

pub cycles-preserved : goal.cycles-preserved
cycles-preserved g c =
    let new = c.push_watched.new.machine in
    let d = shown_by g.M.Memory.view new in
    let inv = c.cycles.invariant in
    let look = look_of c.args.watch in
    let less = c.cycles-test.true in
    let is = c.in-Ok-GoesOn.field-0-is in
    let later = inv.later in
    let some = shown_births g.M.Memory.view c.args.machine.now (g.met.M.Memory.whole c.args.machine.now.memory) c.requires.ready in
    let first = inv.said some.0 some.1 in
    let lives : new.death ≡ None = goes_alive (cycled_so is (c.in-Ok-GoesOn.ensures.pushes first.state first.shows)) in
    record {
      ready = c.push_watched.ensures.may_run lives;
      alive = lives;
      later = omega (arith, later);
      few = omega (arith, less);
      said = λ s h.
          let far = inv.said s h in
          subst (λ k. SeenSoFar g.H.Host look c.args.cycles c.args.finished s k d c.args.host.now c.push_watched.new.host c.args.out.now c.push_watched.new.out) (one_later c.cycles.finished)
          (seen_on far less new.death d (cycled_so is (c.in-Ok-GoesOn.ensures.pushes far.state far.shows)));
    }

pub returns-in-Ok-Asks-clause-alive : goal.returns-in-Ok-Asks-clause-alive
returns-in-Ok-Asks-clause-alive g c =
    let some = shown_births g.M.Memory.view c.args.machine.now (g.met.M.Memory.whole c.args.machine.now.memory) c.requires.ready in
    let first = c.cycles.invariant.said some.0 some.1 in
    asks_alive (cycled_so c.in-Ok-Asks.field-0-is (c.in-Ok-Asks.ensures.pushes first.state first.shows))

pub returns-in-Ok-Asks-clause-later : goal.returns-in-Ok-Asks-clause-later
returns-in-Ok-Asks-clause-later g c =
    let later = c.cycles.invariant.later in
    let less = c.cycles-test.true in
    (omega (arith, later), omega (arith, less))

pub returns-in-Ok-Asks-clause-pushes : goal.returns-in-Ok-Asks-clause-pushes
returns-in-Ok-Asks-clause-pushes g c = λ s h.
    let new = c.push_watched.new.machine in
    let d = shown_by g.M.Memory.view new in
    let look = look_of c.args.watch in
    let far = c.cycles.invariant.said s h in
    subst (λ k. PushesStretch {E = SayFault} g.H.Host new.death d (watched_stretch look c.args.finished (c.args.cycles - c.args.finished) s) c.args.host.now c.push_watched.new.host c.args.out.now c.push_watched.new.out (Ok (Some k))) (one_later c.cycles.finished)
    (seen_asked far c.cycles-test.true new.death d (cycled_so c.in-Ok-Asks.field-0-is (c.in-Ok-Asks.ensures.pushes far.state far.shows)))

pub returns-in-Ok-Over-clause-pushes : goal.returns-in-Ok-Over-clause-pushes
returns-in-Ok-Over-clause-pushes g c = λ s h.
    let new = c.push_watched.new.machine in
    let far = c.cycles.invariant.said s h in
    seen_over far c.cycles-test.true new.death (shown_by g.M.Memory.view new) (cycled_so c.in-Ok-Over.field-0-is (c.in-Ok-Over.ensures.pushes far.state far.shows))

pub returns-in-Err-clause-pushes : goal.returns-in-Err-clause-pushes
returns-in-Err-clause-pushes g c = λ s h.
    let new = c.push_watched.new.machine in
    let far = c.cycles.invariant.said s h in
    seen_cut far c.cycles-test.true new.death (shown_by g.M.Memory.view new) (c.in-Err.ensures.pushes far.state far.shows)

pub returns-in-Ok-clause-pushes : goal.returns-in-Ok-clause-pushes
returns-in-Ok-clause-pushes g c = λ s h.
    let far = c.cycles.invariant.said s h in
    let most = c.cycles-test.false in
    all_ran far most c.cycles.machine.death c.cycles.invariant.alive c.in-Ok.ensures

pub returns-in-Err-push_line-clause-pushes : goal.returns-in-Err-push_line-clause-pushes
returns-in-Err-push_line-clause-pushes g c = λ s h.
    let far = c.cycles.invariant.said s h in
    ran_unsaid far c.cycles-test.false c.cycles.machine.death c.in-Err-push_line.ensures

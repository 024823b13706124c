use Rattle.std.proofs.Common.{◌≡◌, ◌-◌, ◌≤◌, ◌<◌, ℕ, None, subst, arith}
use Rattle.std.specs.Prelude.{Option, Ok, IfSome}
use Rattle.st_host.specs.declared.host.SayFault.{SayFault}
use Rattle.st_session.specs.inside.Standing.{shown_by, StandsAt}
use Rattle.st_session.specs.inside.Stretches.{PushesStretch, stretch}
use Rattle.st_session.proofs.Stretches.{none_pushed, pushed_on, pushed_all, pushed_part}
use Rattle.st_session.proofs.running.push_run.Goals as goal

pub stretches-init : goal.stretches-init
stretches-init g c = record {
  ready = c.requires.ready;
  alive = c.requires.alive;
  few = omega arith;
  said = λ s h. none_pushed g.H.Host c.args.cycles s (shown_by g.M.Memory.view c.args.machine.now) c.args.host.now c.args.out.now (g.met.H.Host.only_now c.args.host.now) h;
}

pub stretches-preserved : goal.stretches-preserved
stretches-preserved g c =
    let new = c.push_stretch.new.machine in
    let d = shown_by g.M.Memory.view new in
    let inv = c.stretches.invariant in
    let is = c.in-Ok-Some.field-0-is in
    let lives : new.death ≡ None = subst (λ (x : Option ℕ). IfSome x (λ n. new.death ≡ None)) is c.in-Ok-Some.ensures.alive in
    let later : (c.stretches.finished < c.in-Ok-Some.asked) × (c.in-Ok-Some.asked ≤ c.args.cycles) = subst (λ (x : Option ℕ). IfSome x (λ n. (c.stretches.finished < n) × (n ≤ c.args.cycles))) is c.in-Ok-Some.ensures.later in
    record {
      ready = c.push_stretch.ensures.may_run lives;
      alive = lives;
      few = later.1;
      said = λ s h.
          let far = inv.said s h in
          pushed_on far inv.few new.death d c.in-Ok-Some.asked (subst (λ (x : Option ℕ). PushesStretch {E = SayFault} g.H.Host new.death d (stretch c.stretches.finished (c.args.cycles - c.stretches.finished) far.state) c.stretches.host c.push_stretch.new.host c.stretches.out c.push_stretch.new.out (Ok x)) is (c.in-Ok-Some.ensures.pushes far.state far.shows));
    }

pub returns-in-Ok-None-clause-pushes : goal.returns-in-Ok-None-clause-pushes
returns-in-Ok-None-clause-pushes g c = λ s h.
    let new = c.push_stretch.new.machine in
    let d = shown_by g.M.Memory.view new in
    let inv = c.stretches.invariant in
    let far = inv.said s h in
    pushed_all far inv.few (StandsAt g.M.Memory.view new) new.death d (g.met.H.Host.only_now c.push_stretch.new.host) (λ x being. being)
    (subst (λ (x : Option ℕ). PushesStretch {E = SayFault} g.H.Host new.death d (stretch c.stretches.finished (c.args.cycles - c.stretches.finished) far.state) c.stretches.host c.push_stretch.new.host c.stretches.out c.push_stretch.new.out (Ok x)) c.in-Ok-None.field-0-is (c.in-Ok-None.ensures.pushes far.state far.shows))

pub returns-in-Err-clause-pushes : goal.returns-in-Err-clause-pushes
returns-in-Err-clause-pushes g c = λ s h.
    let new = c.push_stretch.new.machine in
    let d = shown_by g.M.Memory.view new in
    let inv = c.stretches.invariant in
    let far = inv.said s h in
    pushed_part far inv.few (StandsAt g.M.Memory.view new) new.death d (c.in-Err.ensures.pushes far.state far.shows)

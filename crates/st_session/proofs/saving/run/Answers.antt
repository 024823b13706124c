use Rattle.std.proofs.Common.{◌≡◌, ◌∙◌, ◌-◌, ◌≤◌, ◌<◌, ℕ, true, false, refl, sym, ap, subst, arith}
use Rattle.std.specs.Prelude.{Option, Some, None, is_some, IfSome, Ok, Err}
use Rattle.st_model.specs.declared.dead.Dead.{Dead}
use Rattle.st_protocol.specs.declared.status.Status.TheVariants.{OutOfMemory}
use Rattle.st_protocol.proofs.Joins.{counts_behind}
use Rattle.st_session.specs.Answers.{going_on, watched_course}
use Rattle.st_session.specs.Keeping.{in_a_store}
use Rattle.st_session.specs.inside.Standing.{shown_by}
use Rattle.st_session.specs.inside.Stretches.{SaysStretch}
use Rattle.st_session.specs.inside.Watched.{watched_stretch}
use Rattle.st_session.specs.Watching.{look_of}
use Rattle.st_session.proofs.Points.{living_answers}
use Rattle.st_session.proofs.Snapshots.{ran_none, run_over, run_unsaid, snapshot_failed, snapshot_died, snapshot_kept}
use Rattle.st_session.proofs.Served.{ample}
use Rattle.st_session.proofs.saving.run.Goals as goal

some_of : (x : Option Dead) → is_some x ≡ true → (cause : Dead) × (x ≡ Some cause)
some_of (Some cause) e = (cause, refl)
some_of None e = absurd (cc)

none_of : (x : Option Dead) → is_some x ≡ false → x ≡ None
none_of (Some cause) e = absurd (cc)
none_of None e = refl

pub stretches-init : goal.stretches-init
stretches-init g c = record {
  go_on = c.requires.go_on;
  alive = c.requires.alive;
  named = refl;
  few = omega arith;
  disk = omega arith;
  say = omega arith;
  ran = λ s k shows holds. ran_none g.M.Memory.view g.H.Host (look_of c.args.watch) c.args.cycles s k c.args.kept.now.machine c.args.kept.now.archive c.args.host.now (g.met.H.Host.only_now c.args.host.now) shows holds;
}

-- THE RUN'S END

pub returns-in-Ok-None : goal.returns-in-Ok-None
returns-in-Ok-None g c =
    let view = g.M.Memory.view in
    let n = c.args.cycles in
    let inv = c.stretches.invariant in
    let m1 = c.say_stretch.new.machine in
    let mid = c.say_stretch.new.host in
    let follows = living_answers view g.H.Host c.args.kept.now.machine c.args.kept.now.archive c.args.host.now m1 c.stretches.kept.archive mid (λ being. going_on in_a_store (watched_course in_a_store (look_of c.args.watch) 0 n) being) (Ok tt) c.requires.alive
    (λ s k shows holds.
    let far = inv.ran s k shows holds in
    run_over view g.H.Host (look_of c.args.watch) far inv.few (sym inv.named) m1 mid (g.met.H.Host.only_now mid)
    (subst (λ (x : Option ℕ). SaysStretch g.H.Host m1.death (shown_by view m1) (watched_stretch (look_of c.args.watch) c.stretches.finished (n - c.stretches.finished) far.state) c.stretches.host mid (Ok x)) c.in-Ok-None.field-0-is (c.in-Ok-None.ensures.says far.state far.shows))) in
    record {
      go_on = record { may_run = c.say_stretch.ensures.may_run; is_open = inv.go_on.is_open };
      named = inv.named;
      follows = follows;
      counts = counts_behind g.H.Host ⊥ c.args.host.now c.stretches.host mid (Ok tt) inv.disk inv.say c.in-Ok-None.ensures.counts;
      served = tt;
      starved = ample (Ok tt) tt;
    }

-- WHAT IS SAID ISN'T SAID WHOLE

pub returns-in-Err : goal.returns-in-Err
returns-in-Err g c =
    let view = g.M.Memory.view in
    let inv = c.stretches.invariant in
    let m1 = c.say_stretch.new.machine in
    let mid = c.say_stretch.new.host in
    let follows = living_answers view g.H.Host c.args.kept.now.machine c.args.kept.now.archive c.args.host.now m1 c.stretches.kept.archive mid (λ being. going_on in_a_store (watched_course in_a_store (look_of c.args.watch) 0 c.args.cycles) being) (Err c.in-Err.status) c.requires.alive
    (λ s k shows holds.
    let far = inv.ran s k shows holds in
    run_unsaid view g.H.Host (look_of c.args.watch) far inv.few (sym inv.named) m1 mid m1 c.stretches.kept.archive c.in-Err.status (c.in-Err.ensures.says far.state far.shows)) in
    record {
      go_on = tt;
      named = inv.named;
      follows = follows;
      counts = counts_behind g.H.Host ⊥ c.args.host.now c.stretches.host mid (Err c.in-Err.status) inv.disk inv.say c.in-Err.ensures.counts;
      served = c.in-Err.ensures.served;
      starved = λ none. c.in-Err.ensures.ample (let same : c.in-Err.status ≡ OutOfMemory = cc in ap Err same);
    }

-- A SNAPSHOT

pub returns-in-Err-snapshot : goal.returns-in-Err-snapshot
returns-in-Err-snapshot g c =
    let inv = c.stretches.invariant in
    let first = c.in-Ok-Some.ensures.counts in
    record {
      go_on = tt;
      named = c.snapshot.ensures.named ∙ inv.named;
      follows = living_answers g.M.Memory.view g.H.Host c.args.kept.now.machine c.args.kept.now.archive c.args.host.now c.snapshot.new.kept.machine c.snapshot.new.kept.archive c.snapshot.new.host (λ being. going_on in_a_store (watched_course in_a_store (look_of c.args.watch) 0 c.args.cycles) being) (Err c.in-Err-snapshot.status) c.requires.alive
          (λ s k shows holds. snapshot_failed g.M.Memory.view g.H.Host (look_of c.args.watch) (inv.ran s k shows holds) inv.few (sym inv.named) c.say_stretch.new.machine c.say_stretch.new.host c.in-Ok-Some.field-0-is c.in-Ok-Some.ensures.says c.snapshot.new.kept.machine c.snapshot.new.kept.archive c.snapshot.new.host c.in-Err-snapshot.status c.in-Err-snapshot.ensures.follows);
      counts = counts_behind g.H.Host ⊥ c.args.host.now c.say_stretch.new.host c.snapshot.new.host (Err c.in-Err-snapshot.status) (omega (arith, inv.disk, first.disk)) (omega (arith, inv.say, first.say)) c.in-Err-snapshot.ensures.counts;
      served = c.in-Err-snapshot.ensures.served;
      starved = c.in-Err-snapshot.ensures.starved;
    }

-- the machine died of saving
pub returns-then-is_some : goal.returns-then-is_some
returns-then-is_some g c =
    let inv = c.stretches.invariant in
    let died = some_of c.death.result (sym c.is_some.ensures ∙ c.if-is_some.true) in
    let first = c.in-Ok-Some.ensures.counts in
    record {
      go_on = c.in-Ok.ensures.go_on;
      named = c.snapshot.ensures.named ∙ inv.named;
      follows = living_answers g.M.Memory.view g.H.Host c.args.kept.now.machine c.args.kept.now.archive c.args.host.now c.snapshot.new.kept.machine c.snapshot.new.kept.archive c.snapshot.new.host (λ being. going_on in_a_store (watched_course in_a_store (look_of c.args.watch) 0 c.args.cycles) being) (Ok tt) c.requires.alive
          (λ s k shows holds. snapshot_died g.M.Memory.view g.H.Host (look_of c.args.watch) (inv.ran s k shows holds) inv.few (sym inv.named) c.say_stretch.new.machine c.say_stretch.new.host c.in-Ok-Some.field-0-is c.in-Ok-Some.ensures.says c.snapshot.new.kept.machine c.snapshot.new.kept.archive c.snapshot.new.host died.0 (sym c.death.ensures ∙ died.1) (sym (c.snapshot.ensures.named ∙ inv.named)) (g.met.H.Host.only_now c.snapshot.new.host) c.in-Ok.ensures.follows);
      counts = counts_behind g.H.Host ⊥ c.args.host.now c.say_stretch.new.host c.snapshot.new.host (Ok tt) (omega (arith, inv.disk, first.disk)) (omega (arith, inv.say, first.say)) c.in-Ok.ensures.counts;
      served = tt;
      starved = ample (Ok tt) tt;
    }

pub stretches-preserved : goal.stretches-preserved
stretches-preserved g c =
    let n = c.args.cycles in
    let inv = c.stretches.invariant in
    let j = c.in-Ok-Some.asked in
    let later : (c.stretches.finished < j) × (j ≤ n) = subst (λ (x : Option ℕ). IfSome x (λ k. (c.stretches.finished < k) × (k ≤ n))) c.in-Ok-Some.field-0-is c.in-Ok-Some.ensures.later in
    let lives = sym c.death.ensures ∙ none_of c.death.result (sym c.is_some.ensures ∙ c.if-is_some.false) in
    let first = c.in-Ok-Some.ensures.counts in
    let second = c.in-Ok.ensures.counts in
    record {
      go_on = c.in-Ok.ensures.go_on;
      alive = lives;
      named = c.snapshot.ensures.named ∙ inv.named;
      few = later.1;
      disk = omega (arith, inv.disk, first.disk, second.disk);
      say = omega (arith, inv.say, first.say, second.say);
      ran = λ s k shows holds. snapshot_kept g.M.Memory.view g.H.Host (look_of c.args.watch) (inv.ran s k shows holds) inv.few (sym inv.named) c.say_stretch.new.machine c.say_stretch.new.host c.in-Ok-Some.field-0-is c.in-Ok-Some.ensures.says c.snapshot.new.kept.machine c.snapshot.new.kept.archive c.snapshot.new.host lives c.in-Ok.ensures.follows;
    }

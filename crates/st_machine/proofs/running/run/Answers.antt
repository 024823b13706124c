use Rattle.std.proofs.Common.{◌≡◌, ◌+◌, ◌<◌, sym, subst, arith}
use Rattle.st_frames.specs.inside.Shown.{shown, IsReady}
use Rattle.st_machine.specs.declared.ending.RunEnd.TheVariants as ending
use Rattle.st_machine.specs.inside.Runs.{EndsAs}
use Rattle.st_machine.proofs.Runs.{none_so_far, next_after, ends_here, goes_further, ran_all, run_counts, goes_ok, lives_ok}
use Rattle.st_machine.proofs.running.run.Goals as goal

pub cycles-init : goal.cycles-init
cycles-init g c = record {
  ready = c.requires.ready;
  shows = λ s h. none_so_far s (shown (g.M.Memory.view c.args.m.now) c.args.f.now c.args.w.now) h;
  most = omega arith;
}

pub returns-in-Some-clause-ends : goal.returns-in-Some-clause-ends
returns-in-Some-clause-ends g c = λ s h.
    let k = c.cycles.done in
    let next = c.advance-next.result in
    let start = shown (g.M.Memory.view c.cycles.m) c.cycles.f c.cycles.w in
    let after = shown (g.M.Memory.view c.advance-next.new.m) c.advance-next.new.f c.advance-next.new.w in
    let far = c.cycles.invariant.shows s h in
    let few : k + next.before < c.args.n = omega arith in
    ends_here (k + next.before) s c.args.n next.end c.in-Some.end after few (next_after k next.before s start _ far (c.advance-next.ensures.strides far.state far.shows)) (sym c.in-Some.ensures)

pub cycles-preserved : goal.cycles-preserved
cycles-preserved g c =
    let k = c.cycles.done in
    let next = c.advance-next.result in
    let start = shown (g.M.Memory.view c.cycles.m) c.cycles.f c.cycles.w in
    let after = shown (g.M.Memory.view c.advance-next.new.m) c.advance-next.new.f c.advance-next.new.w in
    record {
      ready = goes_ok next.end (k + next.before) (IsReady (g.M.Memory.view c.advance-next.new.m) c.advance-next.new.f c.advance-next.new.w) (sym c.in_default.ensures) c.advance-next.ensures.ready;
      shows = λ s h.
          let far = c.cycles.invariant.shows s h in
          goes_further (k + next.before) s next.end after (next_after k next.before s start _ far (c.advance-next.ensures.strides far.state far.shows)) (sym c.in_default.ensures);
      most = omega arith;
    }

pub returns-clause-ends : goal.returns-clause-ends
returns-clause-ends g c = λ s h.
    let last = shown (g.M.Memory.view c.cycles.m) c.cycles.f c.cycles.w in
    let all : c.cycles.done ≡ c.args.n = omega arith in
    subst (λ n. EndsAs n s ending.Ran last) all (ran_all c.cycles.done s last (c.cycles.invariant.shows s h))

pub returns-in-Some-clause-counts : goal.returns-in-Some-clause-counts
returns-in-Some-clause-counts g c =
    let few : c.cycles.done + c.advance-next.result.before < c.args.n = omega arith in
    run_counts c.args.n (c.cycles.done + c.advance-next.result.before) c.advance-next.result.end c.in-Some.end (sym c.in-Some.ensures) few

pub returns-clause-counts : goal.returns-clause-counts
returns-clause-counts g c = record { most = omega arith; least = λ asked. absurd asked }

pub returns-in-Some-clause-ready : goal.returns-in-Some-clause-ready
returns-in-Some-clause-ready g c d =
    lives_ok c.advance-next.result.end (c.cycles.done + c.advance-next.result.before) c.in-Some.end (IsReady (g.M.Memory.view c.advance-next.new.m) c.advance-next.new.f c.advance-next.new.w) (sym c.in-Some.ensures) d c.advance-next.ensures.ready

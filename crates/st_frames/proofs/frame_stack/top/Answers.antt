use Rattle.std.proofs.Common.{◌≡◌, arith, refl, true}
use Rattle.std.specs.Prelude.{nat_lt}
use Rattle.std.proofs.lemmas.Bool.Decides.{nat_tests}
use Rattle.st_model.specs.declared.dead.Dead.TheVariants as dead
use Rattle.st_model.specs.Steps.{top}
use Rattle.st_model.proofs.Runs.{run-then, run-next, run-passed, after-went}
use Rattle.st_frames.specs.inside.Shown.{shown}
use Rattle.st_frames.proofs.Shown.{shown-sp, shown-active, shows}
use Rattle.st_frames.proofs.Known.{registers}
use Rattle.st_frames.proofs.frame_stack.top.Goals as goal

pub returns-clause-top : goal.returns-clause-top
unfolding top
returns-clause-top g c = λ w.
    let f = c.args.f.now in
    let b : nat_lt 5 f.sp ≡ true = grind (arith, nat_tests) in
    simp (run-then, run-next, after-went, shown-sp, run-passed dead.Sp (nat_lt 5 f.sp) (shown (g.M.Memory.view c.args.m.now) f w) b, shown-active) (c.fetch_field.ensures.fetches (shown (g.M.Memory.view c.args.m.now) f w) refl)

pub returns-then-f-lt6-clause-top : goal.returns-then-f-lt6-clause-top
unfolding top
returns-then-f-lt6-clause-top g c = grind (arith, shows, registers)

use Rattle.std.proofs.Common.{◌≡◌, ◌+◌, arith, refl, true}
use Rattle.std.specs.Prelude.{nat_lt}
use Rattle.std.proofs.lemmas.Bool.Decides.{nat_tests}
use Rattle.st_model.specs.declared.dead.Dead.TheVariants as dead
use Rattle.st_model.specs.Steps.{under}
use Rattle.st_model.proofs.Runs.{run-then, run-next, run-passed, after-went}
use Rattle.st_frames.specs.inside.Shown.{shown}
use Rattle.st_frames.proofs.Shown.{shown-sp, shown-active}
use Rattle.st_frames.proofs.frame.Frame.under.Goals as goal

pub returns-clause-under : goal.returns-clause-under
unfolding under
returns-clause-under g c = λ w.
    let f = c.args.self.now in
    let b : nat_lt (5 + c.args.k) f.sp ≡ true = grind (arith, nat_tests) in
    simp (run-then, run-next, after-went, shown-sp, run-passed dead.Sp (nat_lt (5 + c.args.k) f.sp) (shown (g.M.Memory.view c.args.m.now) f w) b, shown-active) (c.fetch_field.ensures.fetches (shown (g.M.Memory.view c.args.m.now) f w) refl)

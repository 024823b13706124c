use Rattle.std.proofs.Common.{◌≡◌, arith, refl, true}
use Rattle.std.specs.Prelude.{nat_lt, nat_le}
use Rattle.std.proofs.lemmas.Bool.Decides.{nat_tests}
use Rattle.st_model.specs.declared.dead.Dead.TheVariants as dead
use Rattle.st_model.specs.Steps.{put}
use Rattle.st_model.proofs.Runs.{run-then, run-next, run-passed, after-went, runs}
use Rattle.st_frames.specs.inside.Shown.{shown}
use Rattle.st_frames.proofs.frame_stack.put.Goals as goal

pub returns-clause-puts : goal.returns-clause-puts
unfolding put
returns-clause-puts g c = λ w.
    let s = shown (g.M.Memory.view c.args.m.now) c.args.f.now w in
    let within : nat_lt c.args.at c.in_ok-fields.fields ≡ true = grind (arith, nat_tests) in
    let small : nat_le c.args.at 16388 ≡ true = grind (arith, nat_tests) in
    simp (run-then, run-next, after-went, c.in_ok-fields.ensures.count s refl, run-passed dead.Sp (nat_lt c.args.at c.in_ok-fields.fields) s within, run-passed dead.Sp (nat_le c.args.at 16388) s small) (c.store_field.ensures.stores w)

pub returns-in_err-fields-clause-puts : goal.returns-in_err-fields-clause-puts
unfolding put
returns-in_err-fields-clause-puts g c = grind (arith, runs)

pub returns-then-fields-at-clause-puts : goal.returns-then-fields-at-clause-puts
unfolding put
returns-then-fields-at-clause-puts g c = grind (arith, runs)

pub returns-then-at-gt16388-clause-puts : goal.returns-then-at-gt16388-clause-puts
unfolding put
returns-then-at-gt16388-clause-puts g c = grind (arith, runs)

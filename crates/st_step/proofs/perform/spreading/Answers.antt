use Rattle.st_step.proofs.Performed.{spread-fits, spread-over}
use Rattle.std.proofs.Common.{arith}
use Rattle.st_frames.proofs.Doing.{checks}
use Rattle.st_model.specs.Executing.{spreading}
use Rattle.st_step.proofs.perform.spreading.Goals as goal

pub returns-then-fields-r-clause-does : goal.returns-then-fields-r-clause-does
returns-then-fields-r-clause-does g c = spread-over _ _ _ _ _ _ _ c.in_ok-check_class.ensures.does c.in_ok-n.ensures.counts c.in_ok-fields.ensures.counts c.if-fields-r.true

pub returns-clause-does : goal.returns-clause-does
returns-clause-does g c = spread-fits _ _ _ _ _ _ _ c.in_ok-check_class.ensures.does c.in_ok-n.ensures.counts c.in_ok-fields.ensures.counts c.if-fields-r.false

pub returns-in_err-check_class-clause-does : goal.returns-in_err-check_class-clause-does
unfolding spreading
returns-in_err-check_class-clause-does g c = grind (arith, checks)

pub returns-in_err-n-clause-does : goal.returns-in_err-n-clause-does
unfolding spreading
returns-in_err-n-clause-does g c = grind (arith, checks)

pub returns-in_err-fields-clause-does : goal.returns-in_err-fields-clause-does
unfolding spreading
returns-in_err-fields-clause-does g c = grind (arith, checks)

use Rattle.std.proofs.Common.{arith}
use Rattle.st_control.proofs.Tries.{integers}
use Rattle.st_model.specs.Arithmetic.{integer_under}
use Rattle.st_control.proofs.arithmetic.integer_under.Goals as goal

pub returns-in_err-v-clause-does : goal.returns-in_err-v-clause-does
unfolding integer_under
returns-in_err-v-clause-does g c = grind (arith, integers)

pub returns-then-is_small-clause-does : goal.returns-then-is_small-clause-does
unfolding integer_under
returns-then-is_small-clause-does g c = grind (arith, integers)

pub returns-else-is_small-clause-does : goal.returns-else-is_small-clause-does
unfolding integer_under
returns-else-is_small-clause-does g c = grind (arith, integers)

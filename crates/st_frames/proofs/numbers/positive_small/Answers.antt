use Rattle.std.proofs.Common.{arith}
use Rattle.st_frames.proofs.Doing.{checks}
use Rattle.st_model.specs.Primitives.{positive_small}
use Rattle.st_frames.proofs.numbers.positive_small.Goals as goal

pub returns-in_err-n-clause-does : goal.returns-in_err-n-clause-does
unfolding positive_small
returns-in_err-n-clause-does g c = grind (arith, checks)

pub returns-then-n-lt16384-clause-does : goal.returns-then-n-lt16384-clause-does
unfolding positive_small
returns-then-n-lt16384-clause-does g c = grind (arith, checks)

pub returns-else-n-lt16384-clause-does : goal.returns-else-n-lt16384-clause-does
unfolding positive_small
returns-else-n-lt16384-clause-does g c = grind (arith, checks)

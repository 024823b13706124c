use Rattle.std.proofs.Common.{arith}
use Rattle.st_model.proofs.Runs.{runs, tests}
use Rattle.st_model.proofs.SmallBits.{bits}
use Rattle.st_model.specs.BitBlt.{fetch_positive}
use Rattle.st_model.specs.Primitives.{positive_small}
use Rattle.st_bitblt.proofs.numbers.fetch_positive.Goals as goal

pub returns-in_err-x-clause-does : goal.returns-in_err-x-clause-does
unfolding fetch_positive positive_small
returns-in_err-x-clause-does g c = grind (arith, runs, tests, bits)

pub returns-then-not-is_small-clause-does : goal.returns-then-not-is_small-clause-does
unfolding fetch_positive positive_small
returns-then-not-is_small-clause-does g c = grind (arith, runs, tests, bits)

pub returns-then-n-lt16384-clause-does : goal.returns-then-n-lt16384-clause-does
unfolding fetch_positive positive_small
returns-then-n-lt16384-clause-does g c = grind (arith, runs, tests, bits)

pub returns-else-n-lt16384-clause-does : goal.returns-else-n-lt16384-clause-does
unfolding fetch_positive positive_small
returns-else-n-lt16384-clause-does g c = grind (arith, runs, tests, bits)

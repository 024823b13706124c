use Rattle.std.proofs.Common.{arith}
use Rattle.st_model.proofs.Runs.{runs}
use Rattle.st_model.specs.Steps.{fetch_integer}
use Rattle.st_bitblt.proofs.numbers.fetch_integer.Goals as goal

pub returns-in_err-x-clause-does : goal.returns-in_err-x-clause-does
unfolding fetch_integer
returns-in_err-x-clause-does g c = grind (arith, runs)

pub returns-then-is_small-clause-does : goal.returns-then-is_small-clause-does
unfolding fetch_integer
returns-then-is_small-clause-does g c = grind (arith, runs)

pub returns-else-is_small-clause-does : goal.returns-else-is_small-clause-does
unfolding fetch_integer
returns-else-is_small-clause-does g c = grind (arith, runs)

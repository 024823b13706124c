use Rattle.std.proofs.Common.{arith}
use Rattle.st_model.proofs.Runs.{runs}
use Rattle.st_model.specs.Steps.{fetch_integer}
use Rattle.st_frames.proofs.fetching.fetch_integer.Goals as goal

pub returns-in_err-x-clause-integer : goal.returns-in_err-x-clause-integer
unfolding fetch_integer
returns-in_err-x-clause-integer g c = grind (arith, runs)

pub returns-clause-integer : goal.returns-clause-integer
unfolding fetch_integer
returns-clause-integer g c = grind (arith, runs)

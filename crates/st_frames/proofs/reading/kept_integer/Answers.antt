use Rattle.std.proofs.Common.{arith}
use Rattle.st_model.proofs.Runs.{runs}
use Rattle.st_model.specs.Steps.{fetch_integer}
use Rattle.st_frames.proofs.reading.kept_integer.Goals as goal

pub returns-clause-integer : goal.returns-clause-integer
unfolding fetch_integer
returns-clause-integer g c = grind (arith, runs)

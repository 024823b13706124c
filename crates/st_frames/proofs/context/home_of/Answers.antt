use Rattle.std.proofs.Common.{arith}
use Rattle.st_model.proofs.Runs.{runs}
use Rattle.st_model.specs.Contexts.{home_of}
use Rattle.st_frames.proofs.context.home_of.Goals as goal

pub returns-in_err-method : goal.returns-in_err-method
unfolding home_of
returns-in_err-method g c = grind (arith, runs)

pub returns : goal.returns
unfolding home_of
returns g c = grind (arith, runs)

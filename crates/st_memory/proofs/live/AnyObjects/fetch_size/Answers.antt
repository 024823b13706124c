use Rattle.std.proofs.Common.{arith}
use Rattle.st_model.proofs.Runs.{runs}
use Rattle.st_memory.proofs.Sizes.{kinds}
use Rattle.st_model.specs.Steps.{fetch_size}
use Rattle.st_memory.proofs.live.AnyObjects.fetch_size.Goals as goal

pub returns-in_err-object-clause-size : goal.returns-in_err-object-clause-size
unfolding fetch_size
returns-in_err-object-clause-size g c = grind (arith, runs, kinds)

pub returns-clause-size : goal.returns-clause-size
unfolding fetch_size
returns-clause-size g c = grind (arith, runs, kinds)

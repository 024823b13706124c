use Rattle.std.proofs.Common.{arith}
use Rattle.st_model.proofs.Runs.{runs}
use Rattle.st_kernel.proofs.finding.there.Goals as goal

pub returns-in-Some : goal.returns-in-Some
returns-in-Some c = grind (arith, runs)

pub returns-in-None : goal.returns-in-None
returns-in-None c = grind (arith, runs)

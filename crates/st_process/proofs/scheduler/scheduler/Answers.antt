use Rattle.std.proofs.Common.{arith}
use Rattle.st_model.proofs.Runs.{runs}
use Rattle.st_model.specs.Processes.{scheduler}
use Rattle.st_process.proofs.scheduler.scheduler.Goals as goal

pub returns : goal.returns
unfolding scheduler
returns g c = grind (arith, runs)

use Rattle.std.proofs.Common.{arith}
use Rattle.st_model.proofs.Runs.{runs}
use Rattle.st_model.specs.Processes.{scheduled_process}
use Rattle.st_process.proofs.scheduler.scheduled_process.Goals as goal

pub returns-in_err-scheduler : goal.returns-in_err-scheduler
unfolding scheduled_process
returns-in_err-scheduler g c = grind (arith, runs)

pub returns : goal.returns
unfolding scheduled_process
returns g c = grind (arith, runs)

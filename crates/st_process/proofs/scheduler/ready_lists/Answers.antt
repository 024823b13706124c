use Rattle.std.proofs.Common.{arith}
use Rattle.st_model.proofs.Runs.{runs}
use Rattle.st_model.specs.Processes.{ready_lists}
use Rattle.st_process.proofs.scheduler.ready_lists.Goals as goal

pub returns-in_err-scheduler : goal.returns-in_err-scheduler
unfolding ready_lists
returns-in_err-scheduler g c = grind (arith, runs)

pub returns : goal.returns
unfolding ready_lists
returns g c = grind (arith, runs)

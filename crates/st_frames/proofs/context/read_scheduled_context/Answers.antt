use Rattle.std.proofs.Common.{arith}
use Rattle.st_model.proofs.Runs.{runs}
use Rattle.st_model.specs.Contexts.{scheduled_context}
use Rattle.st_frames.proofs.context.read_scheduled_context.Goals as goal

pub returns-in_err-scheduler : goal.returns-in_err-scheduler
unfolding scheduled_context
returns-in_err-scheduler g c = grind (arith, runs)

pub returns-in_err-process : goal.returns-in_err-process
unfolding scheduled_context
returns-in_err-process g c = grind (arith, runs)

pub returns : goal.returns
unfolding scheduled_context
returns g c = grind (arith, runs)

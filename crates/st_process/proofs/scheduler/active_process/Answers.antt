use Rattle.std.proofs.Common.{arith}
use Rattle.st_frames.proofs.Doing.{rows}
use Rattle.st_process.proofs.Worlds.{worlds}
use Rattle.st_model.specs.Processes.{active_process, active_or_new}
use Rattle.st_process.proofs.scheduler.active_process.Goals as goal

pub returns-then-same : goal.returns-then-same
unfolding active_process active_or_new
returns-then-same g c = grind (arith, rows, worlds)

pub returns-else-same : goal.returns-else-same
unfolding active_process active_or_new
returns-else-same g c = grind (arith, rows, worlds)

use Rattle.std.proofs.Common.{arith}
use Rattle.st_frames.proofs.Doing.{rows}
use Rattle.st_frames.proofs.Tries.{tests}
use Rattle.st_model.specs.Processes.{check_active}
use Rattle.st_process.proofs.processes.check_active.Goals as goal

pub returns-in_err-process : goal.returns-in_err-process
unfolding check_active
returns-in_err-process g c = grind (arith, rows, tests)

pub returns-then-same : goal.returns-then-same
unfolding check_active
returns-then-same g c = grind (arith, rows, tests)

pub returns-else-same : goal.returns-else-same
unfolding check_active
returns-else-same g c = grind (arith, rows, tests)

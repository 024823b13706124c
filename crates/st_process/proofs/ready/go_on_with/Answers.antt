use Rattle.std.proofs.Common.{arith}
use Rattle.st_frames.proofs.Doing.{rows}
use Rattle.st_model.specs.Processes.{go_on_with, let_wait}
use Rattle.st_process.proofs.ready.go_on_with.Goals as goal

pub returns-in_err-process-clause-does : goal.returns-in_err-process-clause-does
unfolding go_on_with let_wait
returns-in_err-process-clause-does g c = grind (arith, rows)

pub returns-clause-does : goal.returns-clause-does
unfolding go_on_with let_wait
returns-clause-does g c = grind (arith, rows)

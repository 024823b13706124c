use Rattle.std.proofs.Common.{arith}
use Rattle.st_frames.proofs.Doing.{rows}
use Rattle.st_model.specs.Processes.{enter_process}
use Rattle.st_process.proofs.switching.enter_process.Goals as goal

pub returns-in_err-context-clause-does : goal.returns-in_err-context-clause-does
unfolding enter_process
returns-in_err-context-clause-does g c = grind (arith, rows)

pub returns-clause-does : goal.returns-clause-does
unfolding enter_process
returns-clause-does g c = grind (arith, rows)

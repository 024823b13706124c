use Rattle.std.proofs.Common.{arith}
use Rattle.st_frames.proofs.Doing.{rows}
use Rattle.st_model.specs.Bytecodes.{return_top_to_sender}
use Rattle.st_model.specs.Executing.{executed_if_any}
use Rattle.st_step.proofs.returns.return_top_to_sender.Goals as goal

pub returns-in_err-x-clause-does : goal.returns-in_err-x-clause-does
unfolding return_top_to_sender executed_if_any
returns-in_err-x-clause-does g c = grind (arith, rows)

pub returns-clause-does : goal.returns-clause-does
unfolding return_top_to_sender executed_if_any
returns-clause-does g c = grind (arith, rows)

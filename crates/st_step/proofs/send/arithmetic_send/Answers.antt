use Rattle.std.proofs.Common.{arith}
use Rattle.st_frames.proofs.Doing.{rows}
use Rattle.st_model.specs.Bytecodes.{arithmetic_send}
use Rattle.st_step.proofs.send.arithmetic_send.Goals as goal

pub returns-in_err-receiver-clause-does : goal.returns-in_err-receiver-clause-does
unfolding arithmetic_send
returns-in_err-receiver-clause-does g c = grind (arith, rows)

pub returns-clause-does : goal.returns-clause-does
unfolding arithmetic_send
returns-clause-does g c = grind (arith, rows)

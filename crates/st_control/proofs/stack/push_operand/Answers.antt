use Rattle.std.proofs.Common.{arith}
use Rattle.st_frames.proofs.Doing.{rows}
use Rattle.st_model.specs.Bytecodes.{push_operand}
use Rattle.st_control.proofs.stack.push_operand.Goals as goal

pub returns-in_err-x-clause-does : goal.returns-in_err-x-clause-does
unfolding push_operand
returns-in_err-x-clause-does g c = grind (arith, rows)

pub returns-clause-does : goal.returns-clause-does
unfolding push_operand
returns-clause-does g c = grind (arith, rows)

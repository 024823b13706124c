use Rattle.std.proofs.Common.{arith}
use Rattle.st_frames.proofs.Doing.{rows}
use Rattle.st_model.specs.Bytecodes.{duplicate_top}
use Rattle.st_control.proofs.stack.duplicate_top.Goals as goal

pub returns-in_err-x-clause-does : goal.returns-in_err-x-clause-does
unfolding duplicate_top
returns-in_err-x-clause-does g c = grind (arith, rows)

pub returns-clause-does : goal.returns-clause-does
unfolding duplicate_top
returns-clause-does g c = grind (arith, rows)

use Rattle.std.proofs.Common.{arith}
use Rattle.st_frames.proofs.Doing.{rows}
use Rattle.st_model.specs.Bytecodes.{pop_stack}
use Rattle.st_control.proofs.stack.pop_stack.Goals as goal

pub returns-in_err-pop : goal.returns-in_err-pop
unfolding pop_stack
returns-in_err-pop g c = grind (arith, rows)

pub returns : goal.returns
unfolding pop_stack
returns g c = grind (arith, rows)

use Rattle.std.proofs.Common.{arith}
use Rattle.st_frames.proofs.Doing.{rows}
use Rattle.st_model.specs.Bytecodes.{constant_value}
use Rattle.st_control.proofs.operands.constant_value.Goals as goal

pub returns-in-True : goal.returns-in-True
unfolding constant_value
returns-in-True g c = grind (arith, rows)

pub returns-in-False : goal.returns-in-False
unfolding constant_value
returns-in-False g c = grind (arith, rows)

pub returns-in-Nil : goal.returns-in-Nil
unfolding constant_value
returns-in-Nil g c = grind (arith, rows)

pub returns-in-MinusOne : goal.returns-in-MinusOne
unfolding constant_value
returns-in-MinusOne g c = grind (arith, rows)

pub returns-in-Zero : goal.returns-in-Zero
unfolding constant_value
returns-in-Zero g c = grind (arith, rows)

pub returns-in-One : goal.returns-in-One
unfolding constant_value
returns-in-One g c = grind (arith, rows)

pub returns-in-Two : goal.returns-in-Two
unfolding constant_value
returns-in-Two g c = grind (arith, rows)

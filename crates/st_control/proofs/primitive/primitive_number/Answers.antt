use Rattle.std.proofs.Common.{arith}
use Rattle.st_method.proofs.Bits.{primitives}
use Rattle.st_model.specs.Methods.{primitive_number}
use Rattle.st_control.proofs.primitive.primitive_number.Goals as goal

pub returns-then-is_small : goal.returns-then-is_small
unfolding primitive_number
returns-then-is_small g c = grind (arith, primitives)

pub returns-else-is_small : goal.returns-else-is_small
unfolding primitive_number
returns-else-is_small g c = grind (arith, primitives)

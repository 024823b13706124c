use Rattle.std.proofs.Common.{arith}
use Rattle.st_model.proofs.SmallBits.{bits}
use Rattle.st_frames.proofs.numbers.bits_or_die.Goals as goal

pub returns-then-is_small-clause-does : goal.returns-then-is_small-clause-does
returns-then-is_small-clause-does g c = grind (arith, bits)

pub returns-else-is_small-clause-does : goal.returns-else-is_small-clause-does
returns-else-is_small-clause-does g c = grind (arith, bits)

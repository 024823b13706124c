use Rattle.std.proofs.Common.{arith}
use Rattle.st_memory.proofs.Bodies.{bodies}
use Rattle.st_memory.proofs.body.unit_at.Goals as goal

pub returns-then-is_words : goal.returns-then-is_words
returns-then-is_words g c = grind (arith, bodies)

pub returns-else-is_words : goal.returns-else-is_words
returns-else-is_words g c = grind (arith, bodies)

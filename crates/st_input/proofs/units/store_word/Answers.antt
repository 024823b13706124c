use Rattle.std.proofs.Common.{arith}
use Rattle.st_memory.proofs.Bodies.{bodies}
use Rattle.st_input.proofs.Done.{words}
use Rattle.st_input.proofs.units.store_word.Goals as goal

pub returns-in_default : goal.returns-in_default
returns-in_default g c = grind (arith, bodies, words)

pub returns-then-not-is_words : goal.returns-then-not-is_words
returns-then-not-is_words g c = grind (arith, bodies, words)

pub returns-then-place-size : goal.returns-then-place-size
returns-then-place-size g c = grind (arith, bodies, words)

pub returns-else-place-size : goal.returns-else-place-size
returns-else-place-size g c = grind (arith, bodies, words)

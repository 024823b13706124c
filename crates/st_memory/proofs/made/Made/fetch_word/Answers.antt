use Rattle.std.proofs.Common.{arith}
use Rattle.st_memory.proofs.Fresh.{words}
use Rattle.st_memory.proofs.made.Made.fetch_word.Goals as goal

pub returns-then-not-is_words : goal.returns-then-not-is_words
returns-then-not-is_words c = grind (arith, words)

pub returns-then-i-self : goal.returns-then-i-self
returns-then-i-self c = grind (arith, words)

pub returns-else-i-self : goal.returns-else-i-self
returns-else-i-self c = grind (arith, words)

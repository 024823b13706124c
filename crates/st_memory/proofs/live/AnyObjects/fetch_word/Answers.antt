use Rattle.std.proofs.Common.{arith}
use Rattle.st_model.proofs.Runs.{runs}
use Rattle.st_memory.proofs.Wide.{bounded}
use Rattle.st_model.specs.Steps.{fetch_word}
use Rattle.st_memory.proofs.live.AnyObjects.fetch_word.Goals as goal

pub returns-in_err-object : goal.returns-in_err-object
unfolding fetch_word
returns-in_err-object g c = grind (arith, runs, bounded)

pub returns-then-not-is_words : goal.returns-then-not-is_words
unfolding fetch_word
returns-then-not-is_words g c = grind (arith, runs, bounded)

pub returns-then-i-size : goal.returns-then-i-size
unfolding fetch_word
returns-then-i-size g c = grind (arith, runs, bounded)

pub returns-else-i-size : goal.returns-else-i-size
unfolding fetch_word
returns-else-i-size g c = grind (arith, runs, bounded)

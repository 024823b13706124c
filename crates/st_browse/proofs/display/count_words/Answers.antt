use Rattle.std.proofs.Common.{arith}
use Rattle.st_browse.proofs.Forms.{words}
use Rattle.st_memory.proofs.Bodies.{bodies}
use Rattle.st_browse.proofs.display.count_words.Goals as goal

pub returns-then-not-live-clause-count : goal.returns-then-not-live-clause-count
returns-then-not-live-clause-count g c = grind (arith, words, bodies)

pub returns-in-Words-clause-count : goal.returns-in-Words-clause-count
returns-in-Words-clause-count g c = grind (arith, words, bodies)

pub returns-in-Words-clause-words : goal.returns-in-Words-clause-words
returns-in-Words-clause-words g c = grind (arith, words, bodies)

pub returns-in-Words-clause-all : goal.returns-in-Words-clause-all
returns-in-Words-clause-all g c = grind (arith, words, bodies)

pub returns-in-Pointers-clause-count : goal.returns-in-Pointers-clause-count
returns-in-Pointers-clause-count g c = grind (arith, words, bodies)

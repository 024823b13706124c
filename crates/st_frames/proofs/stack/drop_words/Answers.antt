use Rattle.std.proofs.Common.{arith}
use Rattle.st_frames.proofs.Doing.{checks}
use Rattle.st_model.specs.Steps.{drop_words}
use Rattle.st_frames.proofs.stack.drop_words.Goals as goal

pub returns-then-r-n : goal.returns-then-r-n
unfolding drop_words
returns-then-r-n g c = grind (arith, checks)

pub returns : goal.returns
unfolding drop_words
returns g c = grind (arith, checks)

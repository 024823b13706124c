use Rattle.std.proofs.Common.{arith}
use Rattle.st_frames.proofs.Doing.{checks}
use Rattle.st_model.specs.Storage.{word_of_value}
use Rattle.st_storage.proofs.storing.word_of_value.Goals as goal

pub returns-in_err-n : goal.returns-in_err-n
unfolding word_of_value
returns-in_err-n g c = grind (arith, checks)

pub returns-then-n-lt65536 : goal.returns-then-n-lt65536
unfolding word_of_value
returns-then-n-lt65536 g c = grind (arith, checks)

pub returns-else-n-lt65536 : goal.returns-else-n-lt65536
unfolding word_of_value
returns-else-n-lt65536 g c = grind (arith, checks)

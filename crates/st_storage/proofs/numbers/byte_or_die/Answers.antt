use Rattle.std.proofs.Common.{arith}
use Rattle.st_frames.proofs.Doing.{checks}
use Rattle.st_model.specs.Primitives.{byte_or_die}
use Rattle.st_storage.proofs.numbers.byte_or_die.Goals as goal

pub returns-in_err-n : goal.returns-in_err-n
unfolding byte_or_die
returns-in_err-n g c = grind (arith, checks)

pub returns-then-n-lt256 : goal.returns-then-n-lt256
unfolding byte_or_die
returns-then-n-lt256 g c = grind (arith, checks)

pub returns-else-n-lt256 : goal.returns-else-n-lt256
unfolding byte_or_die
returns-else-n-lt256 g c = grind (arith, checks)

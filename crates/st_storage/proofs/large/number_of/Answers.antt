use Rattle.std.proofs.Common.{arith}
use Rattle.st_frames.proofs.Doing.{rows}
use Rattle.st_storage.proofs.Valued.{integers}
use Rattle.st_storage.proofs.large.number_of.Goals as goal

pub returns-then-n-lt0-clause-does : goal.returns-then-n-lt0-clause-does
returns-then-n-lt0-clause-does g c = grind (arith, rows, integers)

pub returns-else-n-lt0-clause-does : goal.returns-else-n-lt0-clause-does
returns-else-n-lt0-clause-does g c = grind (arith, rows, integers)

use Rattle.std.proofs.Common.{arith}
use Rattle.st_frames.proofs.Doing.{rows}
use Rattle.st_model.specs.Primitives.{specification}
use Rattle.st_storage.proofs.numbers.specification.Goals as goal

pub returns-in_err-x : goal.returns-in_err-x
unfolding specification
returns-in_err-x g c = grind (arith, rows)

pub returns : goal.returns
unfolding specification
returns g c = grind (arith, rows)

use Rattle.std.proofs.Common.{arith}
use Rattle.st_frames.proofs.Doing.{rows}
use Rattle.st_frames.proofs.Tries.{tests}
use Rattle.st_model.specs.Primitives.{check_class}
use Rattle.st_frames.proofs.numbers.check_class.Goals as goal

pub returns-in_err-found : goal.returns-in_err-found
unfolding check_class
returns-in_err-found g c = grind (arith, rows, tests)

pub returns-then-same : goal.returns-then-same
unfolding check_class
returns-then-same g c = grind (arith, rows, tests)

pub returns-else-same : goal.returns-else-same
unfolding check_class
returns-else-same g c = grind (arith, rows, tests)

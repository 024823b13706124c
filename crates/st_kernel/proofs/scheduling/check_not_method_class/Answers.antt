use Rattle.std.proofs.Common.{arith}
use Rattle.st_frames.proofs.Doing.{rows}
use Rattle.st_frames.proofs.Tries.{tests}
use Rattle.st_kernel.proofs.Classes.{classes}
use Rattle.st_model.specs.Storage.{check_not_method_class}
use Rattle.st_kernel.proofs.scheduling.check_not_method_class.Goals as goal

pub returns-then-same-clause-does : goal.returns-then-same-clause-does
unfolding check_not_method_class
returns-then-same-clause-does g c = grind (arith, rows, tests, classes)

pub returns-else-same-clause-does : goal.returns-else-same-clause-does
unfolding check_not_method_class
returns-else-same-clause-does g c = grind (arith, rows, tests, classes)

pub returns-else-same-clause-other : goal.returns-else-same-clause-other
unfolding check_not_method_class
returns-else-same-clause-other g c = grind (arith, rows, tests, classes)

use Rattle.std.proofs.Common.{arith}
use Rattle.st_frames.proofs.Doing.{rows}
use Rattle.st_frames.proofs.Tries.{counts}
use Rattle.st_model.specs.Storage.{count_literals}
use Rattle.st_storage.proofs.elements.count_literals.Goals as goal

pub returns-in_err-header-clause-does : goal.returns-in_err-header-clause-does
unfolding count_literals
returns-in_err-header-clause-does g c = grind (arith, rows, counts)

pub returns-in_err-bits-clause-does : goal.returns-in_err-bits-clause-does
unfolding count_literals
returns-in_err-bits-clause-does g c = grind (arith, rows, counts)

pub returns-clause-does : goal.returns-clause-does
unfolding count_literals
returns-clause-does g c = grind (arith, rows, counts)

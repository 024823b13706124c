use Rattle.std.proofs.Common.{arith}
use Rattle.st_frames.proofs.Doing.{rows}
use Rattle.st_storage.proofs.Valued.{differences}
use Rattle.st_model.specs.Storage.{count_elements}
use Rattle.st_storage.proofs.elements.count_elements.Goals as goal

pub returns-in_err-fixed-clause-does : goal.returns-in_err-fixed-clause-does
unfolding count_elements
returns-in_err-fixed-clause-does g c = grind (arith, rows, differences)

pub returns-in_err-n-clause-does : goal.returns-in_err-n-clause-does
unfolding count_elements
returns-in_err-n-clause-does g c = grind (arith, rows, differences)

pub returns-clause-does : goal.returns-clause-does
unfolding count_elements
returns-clause-does g c = grind (arith, rows, differences)

use Rattle.std.proofs.Common.{arith}
use Rattle.st_frames.proofs.Doing.{rows}
use Rattle.st_model.specs.Storage.{unit_of_element}
use Rattle.st_storage.proofs.storing.unit_of_element.Goals as goal

pub returns-in_err-kind-clause-does : goal.returns-in_err-kind-clause-does
unfolding unit_of_element
returns-in_err-kind-clause-does g c = grind (arith, rows)

pub returns-in_err-unit-clause-does : goal.returns-in_err-unit-clause-does
unfolding unit_of_element
returns-in_err-unit-clause-does g c = grind (arith, rows)

pub returns-clause-does : goal.returns-clause-does
unfolding unit_of_element
returns-clause-does g c = grind (arith, rows)

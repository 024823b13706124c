use Rattle.std.proofs.Common.{arith}
use Rattle.st_frames.proofs.Doing.{rows, pages}
use Rattle.st_model.specs.Arithmetic.{value_of_large}
use Rattle.st_model.specs.Primitives.{truth}
use Rattle.st_control.proofs.wide.value_of_large.Goals as goal

pub returns-in-Number-clause-does : goal.returns-in-Number-clause-does
unfolding value_of_large truth
returns-in-Number-clause-does g c = grind (arith, rows, pages)

pub returns-in-Truth-true-clause-does : goal.returns-in-Truth-true-clause-does
unfolding value_of_large truth
returns-in-Truth-true-clause-does g c = grind (arith, rows, pages)

pub returns-in-Truth-false-clause-does : goal.returns-in-Truth-false-clause-does
unfolding value_of_large truth
returns-in-Truth-false-clause-does g c = grind (arith, rows, pages)

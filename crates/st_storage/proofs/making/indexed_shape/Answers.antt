use Rattle.std.proofs.Common.{arith}
use Rattle.st_frames.proofs.Doing.{rows}
use Rattle.st_frames.proofs.Tries.{tests}
use Rattle.st_model.specs.Storage.{indexed_shape}
use Rattle.st_storage.proofs.making.indexed_shape.Goals as goal

pub returns-in_err-s-clause-does : goal.returns-in_err-s-clause-does
unfolding indexed_shape
returns-in_err-s-clause-does g c = grind (arith, rows, tests)

pub returns-in_err-check_not_method_class-clause-does : goal.returns-in_err-check_not_method_class-clause-does
unfolding indexed_shape
returns-in_err-check_not_method_class-clause-does g c = grind (arith, rows, tests)

pub returns-then-not-is_indexable-clause-does : goal.returns-then-not-is_indexable-clause-does
unfolding indexed_shape
returns-then-not-is_indexable-clause-does g c = grind (arith, rows, tests)

pub returns-in_err-n-clause-does : goal.returns-in_err-n-clause-does
unfolding indexed_shape
returns-in_err-n-clause-does g c = grind (arith, rows, tests)

pub returns-clause-does : goal.returns-clause-does
unfolding indexed_shape
returns-clause-does g c = grind (arith, rows, tests)

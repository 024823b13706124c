use Rattle.std.proofs.Common.{arith}
use Rattle.st_frames.proofs.Doing.{rows}
use Rattle.st_frames.proofs.Tries.{tests}
use Rattle.st_model.specs.Storage.{fixed_specification}
use Rattle.st_storage.proofs.making.fixed_specification.Goals as goal

pub returns-in_err-s-clause-does : goal.returns-in_err-s-clause-does
unfolding fixed_specification
returns-in_err-s-clause-does g c = grind (arith, rows, tests)

pub returns-in_err-check_not_method_class-clause-does : goal.returns-in_err-check_not_method_class-clause-does
unfolding fixed_specification
returns-in_err-check_not_method_class-clause-does g c = grind (arith, rows, tests)

pub returns-then-is_indexable-clause-does : goal.returns-then-is_indexable-clause-does
unfolding fixed_specification
returns-then-is_indexable-clause-does g c = grind (arith, rows, tests)

pub returns-else-is_indexable-clause-does : goal.returns-else-is_indexable-clause-does
unfolding fixed_specification
returns-else-is_indexable-clause-does g c = grind (arith, rows, tests)

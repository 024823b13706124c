use Rattle.std.proofs.Common.{arith}
use Rattle.st_model.proofs.Runs.{runs, tests}
use Rattle.st_scope.specs.Tables.{check_fields}
use Rattle.st_scope.proofs.reading.check_fields.Goals as goal

pub returns-in_err-n : goal.returns-in_err-n
unfolding check_fields
returns-in_err-n g c = grind (arith, runs, tests)

pub returns-then-least-n : goal.returns-then-least-n
unfolding check_fields
returns-then-least-n g c = grind (arith, runs, tests)

pub returns-else-least-n : goal.returns-else-least-n
unfolding check_fields
returns-else-least-n g c = grind (arith, runs, tests)

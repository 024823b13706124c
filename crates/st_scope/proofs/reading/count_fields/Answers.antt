use Rattle.std.proofs.Common.{arith}
use Rattle.st_model.proofs.Runs.{runs}
use Rattle.st_model.specs.Steps.{count_fields}
use Rattle.st_scope.proofs.reading.count_fields.Goals as goal

pub returns-in_err-check_live-clause-counts : goal.returns-in_err-check_live-clause-counts
unfolding count_fields
returns-in_err-check_live-clause-counts g c = grind (arith, runs)

pub returns-then-is_pointers-clause-counts : goal.returns-then-is_pointers-clause-counts
unfolding count_fields
returns-then-is_pointers-clause-counts g c = grind (arith, runs)

pub returns-else-is_pointers-clause-counts : goal.returns-else-is_pointers-clause-counts
unfolding count_fields
returns-else-is_pointers-clause-counts g c = grind (arith, runs)

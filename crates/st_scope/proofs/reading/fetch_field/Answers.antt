use Rattle.std.proofs.Common.{arith}
use Rattle.st_model.proofs.Runs.{runs}
use Rattle.st_model.specs.Steps.{fetch_field}
use Rattle.st_scope.proofs.reading.fetch_field.Goals as goal

pub returns-in_err-check_live-clause-fetches : goal.returns-in_err-check_live-clause-fetches
unfolding fetch_field
returns-in_err-check_live-clause-fetches g c = grind (arith, runs)

pub returns-then-not-is_pointers-clause-fetches : goal.returns-then-not-is_pointers-clause-fetches
unfolding fetch_field
returns-then-not-is_pointers-clause-fetches g c = grind (arith, runs)

pub returns-then-i-size-clause-fetches : goal.returns-then-i-size-clause-fetches
unfolding fetch_field
returns-then-i-size-clause-fetches g c = grind (arith, runs)

pub returns-else-i-size-clause-fetches : goal.returns-else-i-size-clause-fetches
unfolding fetch_field
returns-else-i-size-clause-fetches g c = grind (arith, runs)

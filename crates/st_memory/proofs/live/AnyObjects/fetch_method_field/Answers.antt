use Rattle.std.proofs.Common.{arith}
use Rattle.st_model.proofs.Runs.{runs}
use Rattle.st_memory.proofs.Wide.{bounded}
use Rattle.st_model.specs.Steps.{fetch_method_field}
use Rattle.st_memory.proofs.live.AnyObjects.fetch_method_field.Goals as goal

pub returns-in_err-object : goal.returns-in_err-object
unfolding fetch_method_field
returns-in_err-object g c = grind (arith, runs, bounded)

pub returns-then-not-is_method : goal.returns-then-not-is_method
unfolding fetch_method_field
returns-then-not-is_method g c = grind (arith, runs, bounded)

pub returns-then-i-count_fields : goal.returns-then-i-count_fields
unfolding fetch_method_field
returns-then-i-count_fields g c = grind (arith, runs, bounded)

pub returns-else-i-count_fields : goal.returns-else-i-count_fields
unfolding fetch_method_field
returns-else-i-count_fields g c = grind (arith, runs, bounded)

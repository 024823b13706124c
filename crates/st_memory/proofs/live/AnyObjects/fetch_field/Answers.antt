use Rattle.std.proofs.Common.{arith}
use Rattle.st_model.proofs.Runs.{runs}
use Rattle.st_memory.proofs.Wide.{bounded}
use Rattle.st_model.specs.Steps.{fetch_field}
use Rattle.st_memory.proofs.live.AnyObjects.fetch_field.Goals as goal

pub returns-in_err-object : goal.returns-in_err-object
unfolding fetch_field
returns-in_err-object g c = grind (arith, runs, bounded)

pub returns-then-not-is_pointers : goal.returns-then-not-is_pointers
unfolding fetch_field
returns-then-not-is_pointers g c = grind (arith, runs, bounded)

pub returns-then-i-size : goal.returns-then-i-size
unfolding fetch_field
returns-then-i-size g c = grind (arith, runs, bounded)

pub returns-else-i-size : goal.returns-else-i-size
unfolding fetch_field
returns-else-i-size g c = grind (arith, runs, bounded)

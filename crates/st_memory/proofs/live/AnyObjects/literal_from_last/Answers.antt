use Rattle.std.proofs.Common.{arith}
use Rattle.st_model.proofs.Runs.{runs}
use Rattle.st_memory.proofs.Wide.{bounded}
use Rattle.st_model.specs.Methods.{literal_from_last}
use Rattle.st_memory.proofs.live.AnyObjects.literal_from_last.Goals as goal

pub returns-in_err-object : goal.returns-in_err-object
unfolding literal_from_last
returns-in_err-object g c = grind (arith, runs, bounded)

pub returns-then-not-is_method : goal.returns-then-not-is_method
unfolding literal_from_last
returns-then-not-is_method g c = grind (arith, runs, bounded)

pub returns-then-k-count : goal.returns-then-k-count
unfolding literal_from_last
returns-then-k-count g c = grind (arith, runs, bounded)

pub returns-else-k-count : goal.returns-else-k-count
unfolding literal_from_last
returns-else-k-count g c = grind (arith, runs, bounded)

use Rattle.std.proofs.Common.{arith}
use Rattle.st_model.proofs.Runs.{runs}
use Rattle.st_memory.proofs.Wide.{bounded}
use Rattle.st_model.specs.Methods.{method_header}
use Rattle.st_memory.proofs.live.AnyObjects.method_header.Goals as goal

pub returns-in_err-object : goal.returns-in_err-object
unfolding method_header
returns-in_err-object g c = grind (arith, runs, bounded)

pub returns-then-not-is_method : goal.returns-then-not-is_method
unfolding method_header
returns-then-not-is_method g c = grind (arith, runs, bounded)

pub returns : goal.returns
unfolding method_header
returns g c = grind (arith, runs, bounded)

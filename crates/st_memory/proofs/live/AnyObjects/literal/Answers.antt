use Rattle.std.proofs.Common.{arith}
use Rattle.st_model.proofs.Runs.{runs}
use Rattle.st_memory.proofs.Wide.{bounded}
use Rattle.st_model.specs.Steps.{literal}
use Rattle.st_memory.proofs.live.AnyObjects.literal.Goals as goal

pub returns-in_err-object : goal.returns-in_err-object
unfolding literal
returns-in_err-object g c = grind (arith, runs, bounded)

pub returns-then-not-is_method : goal.returns-then-not-is_method
unfolding literal
returns-then-not-is_method g c = grind (arith, runs, bounded)

pub returns-then-i-literals : goal.returns-then-i-literals
unfolding literal
returns-then-i-literals g c = grind (arith, runs, bounded)

pub returns-else-i-literals : goal.returns-else-i-literals
unfolding literal
returns-else-i-literals g c = grind (arith, runs, bounded)

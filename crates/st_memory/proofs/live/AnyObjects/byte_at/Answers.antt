use Rattle.std.proofs.Common.{arith}
use Rattle.st_model.proofs.Runs.{runs}
use Rattle.st_memory.proofs.Wide.{bounded}
use Rattle.st_model.specs.Steps.{byte_at}
use Rattle.st_memory.proofs.live.AnyObjects.byte_at.Goals as goal

pub returns-in_err-object : goal.returns-in_err-object
unfolding byte_at
returns-in_err-object g c = grind (arith, runs, bounded)

pub returns-then-not-is_method : goal.returns-then-not-is_method
unfolding byte_at
returns-then-not-is_method g c = grind (arith, runs, bounded)

pub returns-then-ip-lt0 : goal.returns-then-ip-lt0
unfolding byte_at
returns-then-ip-lt0 g c = grind (arith, runs, bounded)

pub returns-then-place-literals : goal.returns-then-place-literals
unfolding byte_at
returns-then-place-literals g c = grind (arith, runs, bounded)

pub returns-then-place-gt16381 : goal.returns-then-place-gt16381
unfolding byte_at
returns-then-place-gt16381 g c = grind (arith, runs, bounded)

pub returns-then-place-size : goal.returns-then-place-size
unfolding byte_at
returns-then-place-size g c = grind (arith, runs, bounded)

pub returns-else-place-size : goal.returns-else-place-size
unfolding byte_at
returns-else-place-size g c = grind (arith, runs, bounded)

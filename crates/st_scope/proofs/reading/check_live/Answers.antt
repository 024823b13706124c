use Rattle.std.proofs.Common.{arith}
use Rattle.st_model.proofs.Runs.{runs}
use Rattle.st_scope.proofs.reading.check_live.Goals as goal

pub returns-then-live-clause-object : goal.returns-then-live-clause-object
returns-then-live-clause-object g c = grind (arith, runs)

pub returns-then-is_small-clause-object : goal.returns-then-is_small-clause-object
returns-then-is_small-clause-object g c = grind (arith, runs)

pub returns-else-is_small-clause-object : goal.returns-else-is_small-clause-object
returns-else-is_small-clause-object g c = grind (arith, runs)

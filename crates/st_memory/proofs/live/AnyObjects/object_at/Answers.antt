use Rattle.std.proofs.Common.{arith}
use Rattle.st_memory.proofs.Bearing.{bearers}
use Rattle.st_memory.proofs.live.AnyObjects.object_at.Goals as goal

pub returns-then-half-gt32767 : goal.returns-then-half-gt32767
returns-then-half-gt32767 g c = grind (arith, bearers)

pub returns-then-live : goal.returns-then-live
returns-then-live g c = grind (arith, bearers)

pub returns-else-live : goal.returns-else-live
returns-else-live g c = grind (arith, bearers)

use Rattle.std.proofs.Common.{arith}
use Rattle.st_lookup.proofs.Seeing.{seen, not_seen}
use Rattle.st_lookup.proofs.reading.WatchedReading.field.Goals as goal

pub returns-then-sees : goal.returns-then-sees
returns-then-sees g c = grind (arith, seen, not_seen)

pub returns-else-sees : goal.returns-else-sees
returns-else-sees g c = grind (arith, seen, not_seen)

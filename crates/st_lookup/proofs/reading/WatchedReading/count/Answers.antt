use Rattle.std.proofs.Common.{arith}
use Rattle.st_lookup.proofs.Seeing.{seen, not_seen}
use Rattle.st_lookup.proofs.reading.WatchedReading.count.Goals as goal

pub returns-then-sees-clause-counts : goal.returns-then-sees-clause-counts
returns-then-sees-clause-counts g c = grind (arith, seen, not_seen)

pub returns-else-sees-clause-counts : goal.returns-else-sees-clause-counts
returns-else-sees-clause-counts g c = grind (arith, seen, not_seen)

use Rattle.std.proofs.Common.{refl}
use Rattle.st_table.proofs.Search.{ones, summary_of_ones}
use Rattle.st_table.proofs.free_map.FreeMap.full.Goals as goal

pub invariant_of-result-clause-summary : goal.invariant_of-result-clause-summary
invariant_of-result-clause-summary c = rw (c.in_ok-words.ensures, c.in_ok-full.ensures) (summary_of_ones 512 8 _ refl refl)

pub returns : goal.returns
returns c k below = rw c.in_ok-words.ensures (ones 512 _ k refl below)

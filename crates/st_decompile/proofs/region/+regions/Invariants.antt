use Rattle.std.proofs.Common.{◌+◌, ◌*◌, length}
use Rattle.st_decompile.proofs.RegionTurns.{Left}
use Rattle.st_decompile.proofs.region.+regions.Given as goal

-- A measure is five times how many regions may stand in one another, and more the further out a function stands.

abbrev pub decreases-region_in : goal.decreases-region_in
decreases-region_in l = 5 * l.depth

abbrev pub decreases-act : goal.decreases-act
decreases-act l = 5 * l.depth + 4

abbrev pub decreases-decides : goal.decreases-decides
decreases-decides l = 5 * l.depth + 3

abbrev pub decreases-decided : goal.decreases-decided
decreases-decided l = 5 * l.depth + 2

abbrev pub decreases-makes_block : goal.decreases-makes_block
decreases-makes_block l = 5 * l.depth + 2

abbrev pub decreases-chooses : goal.decreases-chooses
decreases-chooses l = 5 * l.depth + 1

abbrev pub invariant-region_in-loop-first : goal.invariant-region_in-loop-first
invariant-region_in-loop-first l = Left l.reading l.depth l.at l.steps l.start l.rest l.items.items

abbrev pub decreases-region_in-loop-first : goal.decreases-region_in-loop-first
decreases-region_in-loop-first l = length l.rest

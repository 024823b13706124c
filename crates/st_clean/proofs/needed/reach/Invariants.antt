use Rattle.std.proofs.Common.{◌+◌, ◌-◌, length}
use Rattle.st_clean.specs.inside.Found.{left}
use Rattle.st_clean.proofs.Closed.{IsFinding}
use Rattle.st_clean.proofs.needed.reach.Given as goal

abbrev pub invariant-found : goal.invariant-found
invariant-found g l = IsFinding (g.M.Memory.view l.m) l.found l.next

-- what isn't found yet, and what is listed and wasn't looked at
abbrev pub decreases-found : goal.decreases-found
decreases-found g l = left l.found.marks.items + length l.found.list.items - l.next

use Rattle.std.proofs.Common.{◌≡◌, ◌<◌, ◌≤◌, length, drop}
use Rattle.std.specs.Prelude.{◌^◌}
use Rattle.st_parts.specs.Numbers.{number_of}
use Rattle.st_parts.proofs.numbers.number_within.Given as goal

-- the number of the high bytes
abbrev pub invariant-loop-left : goal.invariant-loop-left
invariant-loop-left l = (l.size ≡ number_of (drop l.left l.bytes)) × (l.left ≤ length l.bytes)

abbrev pub decreases-loop-left : goal.decreases-loop-left
decreases-loop-left l = l.left

use Rattle.std.proofs.Common.{◌-◌, length}
use Rattle.st_scan.proofs.Strings.{Kept}
use Rattle.st_scan.proofs.string.inside.Given as goal

abbrev pub invariant-loop-length : goal.invariant-loop-length
invariant-loop-length l = Kept l.text l.length

abbrev pub decreases-loop-length : goal.decreases-loop-length
decreases-loop-length l = length l.text - l.length

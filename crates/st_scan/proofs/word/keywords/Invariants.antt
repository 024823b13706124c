use Rattle.std.proofs.Common.{◌-◌, length}
use Rattle.st_scan.proofs.Keywords.{Kept}
use Rattle.st_scan.proofs.word.keywords.Given as goal

abbrev pub invariant-loop-next : goal.invariant-loop-next
invariant-loop-next l = Kept l.text l.length

abbrev pub decreases-loop-next : goal.decreases-loop-next
decreases-loop-next l = length l.text - l.length

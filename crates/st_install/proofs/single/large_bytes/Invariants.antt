use Rattle.st_install.proofs.Numbers.{LeftBytes}
use Rattle.st_install.proofs.single.large_bytes.Given as goal

-- the bytes so far, and those of what is left
abbrev pub invariant-loop-left : goal.invariant-loop-left
invariant-loop-left l = LeftBytes l.size l.bytes.items l.left

abbrev pub decreases-loop-left : goal.decreases-loop-left
decreases-loop-left l = l.left

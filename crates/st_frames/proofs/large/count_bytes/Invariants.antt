use Rattle.st_frames.proofs.Counted.{IsCounted}
use Rattle.st_frames.proofs.large.count_bytes.Given as goal

abbrev pub invariant-loop-count : goal.invariant-loop-count
invariant-loop-count l = IsCounted l.n l.count l.left

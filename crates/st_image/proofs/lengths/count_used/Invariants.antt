use Rattle.std.proofs.Common.{◌≡◌, ◌≤◌}
use Rattle.st_model.specs.Faults.{used_below}
use Rattle.st_image.proofs.lengths.count_used.Given as goal

abbrev pub invariant-loop-k : goal.invariant-loop-k
invariant-loop-k l = record { small : l.used ≤ l.k; used : l.used ≡ used_below l.image.head l.image.bytes.now l.k }

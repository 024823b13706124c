use Rattle.std.proofs.Common.{◌≤◌, ◌-◌}
use Rattle.st_plain.specs.inside.Lists.{IsFull}
use Rattle.st_plain.proofs.objects.Objects.least_free.Given as goal

-- no place before this one is free
abbrev pub invariant-loop-k : goal.invariant-loop-k
invariant-loop-k l = record {
  start : 1 ≤ l.k;
  full : IsFull l.self.entries.items l.k;
}

abbrev pub decreases-loop-k : goal.decreases-loop-k
decreases-loop-k l = 32768 - l.k

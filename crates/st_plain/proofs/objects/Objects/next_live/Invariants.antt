use Rattle.std.proofs.Common.{◌≡◌, ℕ, ◌+◌, ◌/◌, ◌<◌, ◌≤◌, false, is_some}
use Rattle.st_plain.specs.inside.Lists.{slot}
use Rattle.st_plain.proofs.objects.Objects.next_live.Given as goal

-- no entry so far
abbrev pub invariant-loop-k : goal.invariant-loop-k
invariant-loop-k l = (j : ℕ) → l.after / 2 + 1 ≤ j → j < l.k → is_some (slot l.self.entries.items j) ≡ false

use Rattle.std.proofs.Common.{◌≡◌, ℕ, ◌+◌, ◌/◌, ◌<◌, ◌≤◌, false, is_some}
use Rattle.st_heap.specs.inside.Stored.{slot}
use Rattle.st_heap.specs.inside.Stores.{stored_of}
use Rattle.st_heap.proofs.objects.HeapObjects.next_live.Given as goal

-- no object so far
abbrev pub invariant-loop-k : goal.invariant-loop-k
invariant-loop-k l = (j : ℕ) → l.after / 2 + 1 ≤ j → j < l.k → is_some (slot (stored_of l.self.store) j) ≡ false

use Rattle.std.proofs.Common.{◌≡◌, ℕ, ◌<◌, ◌≤◌, false}
use Rattle.st_model.specs.Settled.{is_marked}
use Rattle.st_plain.proofs.marks.Marks.clear.Given as goal

-- the names so far are unmarked, and the others are as they were
abbrev pub invariant-loop-k : goal.invariant-loop-k
invariant-loop-k l = record {
  cleared : (n : ℕ) → n < l.k → is_marked l.self.names.items n ≡ false;
  others : (n : ℕ) → l.k ≤ n → is_marked l.self.names.items n ≡ is_marked l.initial.self.names.items n;
}

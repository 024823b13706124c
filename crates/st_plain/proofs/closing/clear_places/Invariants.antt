use Rattle.std.proofs.Common.{◌≡◌, ℕ, ◌<◌, ◌≤◌}
use Rattle.std.specs.Prelude.{None}
use Rattle.st_plain.specs.inside.Lists.{slot}
use Rattle.st_plain.proofs.closing.clear_places.Given as goal

-- the places so far are empty
abbrev pub invariant-loop-k : goal.invariant-loop-k
invariant-loop-k l = record {
  below : (j : ℕ) → j < l.k → slot l.entries j ≡ None;
  above : (j : ℕ) → l.k ≤ j → slot l.entries j ≡ slot l.initial.entries j;
}

use Rattle.std.proofs.Common.{◌≡◌, ℕ, ◌<◌, ◌≤◌}
use Rattle.st_table.specs.inside.Bits.{bit}
use Rattle.st_table.proofs.free_map.FreeMap.with_free.Given as goal

-- the places from 1 to k are free
abbrev pub invariant-loop-k : goal.invariant-loop-k
invariant-loop-k l = ((j : ℕ) → 0 < j → j ≤ l.k → bit l.places.words.items j ≡ 0) × (bit l.places.words.items 0 ≡ 1) × ((j : ℕ) → l.k < j → j < 32768 → bit l.places.words.items j ≡ 1)

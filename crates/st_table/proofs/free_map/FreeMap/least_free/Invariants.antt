use Rattle.std.proofs.Common.{◌≡◌, ℕ, ◌<◌, ◌-◌, ◌^◌}
use Rattle.std.specs.Prelude.{slice_index}
use Rattle.st_table.proofs.free_map.FreeMap.least_free.Given as goal

-- the words of the summary so far are full
abbrev pub invariant-loop-s : goal.invariant-loop-s
invariant-loop-s l = (r : ℕ) → r < l.s → slice_index l.self.full.items r ≡ 2 ^ 64 - 1

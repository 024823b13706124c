-- What is kept of places: a number, which counts only where the place is counted.
use Rattle.std.specs.Prelude.{ℕ, List, Option, Some, None, false, map, if◌then◌else◌}
use Rattle.st_counted.specs.declared.counts.Slot.{Slot}

-- the count of a place, or none
abbrev pub count_in : Slot → Option ℕ
count_in s = if s.counted then Some s.number else None

-- the counts of all places
unfoldable pub counts_in : List Slot → List (Option ℕ)
counts_in slots = map count_in slots

-- what is kept of a place that is not counted yet
abbrev pub no_count : Slot
no_count = record { number = 0; counted = false }

-- How the bits of a table stand to its entries.
use Rattle.std.specs.Prelude.{◌≡◌, ◌<◌, ◌≤◌, ℕ, List, Option, None, length, slice_index_or, is_some, if◌then◌else◌}
use Rattle.st_table.specs.declared.entry.Entry.{Entry}
use Rattle.st_table.specs.inside.Bits.{bit}

-- bit k is set exactly where place k has an entry or isn't served
pub record IsMapped (words : List ℕ) (entries : List (Option Entry)) : Type 0 where
  pub some : 0 < length entries
  pub few : length entries ≤ 32768
  pub first : slice_index_or entries 0 None ≡ None
  pub first_bit : bit words 0 ≡ 1
  pub served : (k : ℕ) → 0 < k → k < length entries → bit words k ≡ (if is_some (slice_index_or entries k None) then 1 else 0)
  pub others : (k : ℕ) → length entries ≤ k → k < 32768 → bit words k ≡ 1

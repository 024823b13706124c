use Rattle.std.proofs.Common.{◌≡◌, ℕ, ◌+◌, ◌*◌, ◌<◌, ◌≤◌, length, take}
use Rattle.std.specs.Prelude.{None}
use Rattle.st_model.specs.Table.{entry}
use Rattle.st_plain.specs.inside.Lists.{entry_total, entry_words}
use Rattle.st_plain.specs.inside.ListsPlain.{objects_of}
use Rattle.st_plain.proofs.objects.Objects.close_up.Given as goal

-- the objects so far, closed up
abbrev pub invariant-loop-k : goal.invariant-loop-k
invariant-loop-k l = record {
  below : (j : ℕ) → j < l.k → entry (objects_of l.self) j ≡ entry (objects_of l.other) j;
  above : (j : ℕ) → l.k ≤ j → entry (objects_of l.self) j ≡ None;
  taken : 2 * l.self.next_field + l.self.next_unit ≤ 2 * entry_total entry_words (take l.k l.other.entries.items);
  fields : length l.self.pointers.items ≡ length l.fn.self.pointers.items;
  units : length l.self.units.items ≡ length l.fn.self.units.items;
}

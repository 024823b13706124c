-- What a table contains: at place k the entry of pointer 2k, or none. Nothing stands at place 0.
use Rattle.std.specs.Prelude.{◌≡◌, ◌<◌, ◌≤◌, ◌/◌, ◌%◌, ℕ, List, Option, Some, None, length, slice_index_or, IsSome}
use Rattle.st_model.specs.declared.oop.Oop.{Oop}
use Rattle.st_table.specs.declared.entry.Entry.{Entry}

-- the place of a pointer
abbrev pub place : Oop → ℕ
place o = o.0 / 2

-- the entry of a pointer that names an object
abbrev pub entry_of : List (Option Entry) → Oop → Option Entry
entry_of entries o = slice_index_or entries (place o) None

-- an entry with another that follows, or that stands before
abbrev pub with_next : Option Entry → Oop → Option Entry
with_next None next = None
with_next (Some e) next = Some (record { at = e.at; kind = e.kind; odd = e.odd; next = next; before = e.before })

abbrev pub with_before : Option Entry → Oop → Option Entry
with_before None before = None
with_before (Some e) before = Some (record { at = e.at; kind = e.kind; odd = e.odd; next = e.next; before = before })

-- the pointer names an object and has an entry
pub record HasEntry (entries : List (Option Entry)) (o : Oop) : Type 0 where
  pub even : o.0 % 2 ≡ 0
  pub entered : IsSome (entry_of entries o)

-- the pointer is one that the table serves, and has no entry
pub record IsFree (entries : List (Option Entry)) (o : Oop) : Type 0 where
  pub even : o.0 % 2 ≡ 0
  pub first : 2 ≤ o.0
  pub last : place o < length entries
  pub absent : entry_of entries o ≡ None

-- a free pointer that no other free one is below
pub record IsLeastFree (entries : List (Option Entry)) (o : Oop) : Type 0 where
  pub free : IsFree entries o
  pub least : (p : Oop) → IsFree entries p → o.0 ≤ p.0

-- What objects in plain lists are, and how far the lists are in use.
use Rattle.std.specs.Prelude.{◌≡◌, ◌≤◌, ℕ, ◌+◌, ◌*◌, Bool, length}
use Rattle.st_model.specs.Table.{Table, entry}
use Rattle.st_model.specs.Settled.{any_below, object_names}
use Rattle.st_plain.specs.declared.objects.Objects.{Objects}
use Rattle.st_plain.specs.inside.Lists.{listed_table}

-- the table of the objects
abbrev pub objects_of : Objects → Table
objects_of o = listed_table o.pointers.items o.units.items o.entries.items

-- how far the two lists are in use, and how long they are
pub record Extent : Type 0 where
  pub next_field : ℕ
  pub next_unit : ℕ
  pub fields : ℕ
  pub units : ℕ

abbrev pub extent_of : Objects → Extent
extent_of o = record { next_field = o.next_field; next_unit = o.next_unit; fields = length o.pointers.items; units = length o.units.items }

-- lists for so many words, none of which is in use
abbrev pub unused : ℕ → Extent
unused words = record { next_field = 0; next_unit = 0; fields = words; units = 2 * words }

-- the same lists, none of which is in use
abbrev pub emptied : Extent → Extent
emptied e = record e { next_field = 0; next_unit = 0 }

-- the same lists with so much more in use
abbrev pub with_taken : Extent → ℕ → ℕ → Extent
with_taken e fields units = record e { next_field = e.next_field + fields; next_unit = e.next_unit + units }

-- the lists are as long as a number of words may need
pub record IsLong (e : Extent) (words : ℕ) : Type 0 where
  pub fields : e.fields ≡ words
  pub units : e.units ≡ 2 * words

-- The lists are as long as a number of words may need, and no more of them is in use than the objects take.
pub record IsEnough (e : Extent) (used words : ℕ) : Type 0 where
  pub fields : e.fields ≡ words
  pub units : e.units ≡ 2 * words
  pub taken : 2 * e.next_field + e.next_unit ≤ 2 * used

-- some object refers to the name
unfoldable pub is_referred : Table → ℕ → Bool
is_referred t n = any_below (length t) (λ k. object_names (entry t k) n)

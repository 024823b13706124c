-- What a stored object is: a word of its size in words, one of its class, and its body. Fields and words are a word each;
-- bytes are two to a word, the first one in the upper half.
use Rattle.std.specs.Prelude.{◌≡◌, ◌+◌, ◌-◌, ◌*◌, ◌/◌, ◌%◌, ◌<◌, ◌≤◌, ℕ, Bool, true, List, Option, Some, length, map, slice_index, if◌then◌else◌}
use Rattle.std.specs.Option.{option_map}
use Rattle.st_model.specs.declared.kind.Kind.{Kind}
use Rattle.st_model.specs.declared.kind.Kind.TheVariants.{Pointers, Words, Bytes, Method}
use Rattle.st_model.specs.Values.{value_of}
use Rattle.st_model.specs.Objects.{Object, is_words}
use Rattle.st_model.specs.Formed.{literals_of}
use Rattle.st_model.specs.Table.{Table}
use Rattle.st_cells.specs.inside.Words.{byte_of}
use Rattle.st_heap.specs.inside.Stored.{Stored, run, slot}

abbrev pub cell : Stored → ℕ → ℕ
cell s i = slice_index s.cells i

-- how many fields there are in n words, of which the third one is this: a Method's header counts its literals
abbrev pub fields_in : Kind → ℕ → ℕ → ℕ
fields_in Pointers n third = n - 2
fields_in Words n third = 0
fields_in Bytes n third = 0
fields_in Method n third = literals_of (value_of third) + 1

abbrev pub field_count : Stored → ℕ
field_count s = fields_in s.kind (length s.cells) (cell s 2)

-- how many words or bytes there are in n words; an odd mark says that the last byte is none
abbrev pub units_in : Kind → Bool → ℕ → ℕ
units_in kind odd n = if is_words kind then n else 2 * n - (if odd then 1 else 0)

abbrev pub unit_count : Stored → ℕ
unit_count s = units_in s.kind s.odd (length s.cells - (2 + field_count s))

-- word or byte i behind the fields
abbrev pub unit_at : Stored → ℕ → ℕ
unit_at s i = if is_words s.kind then cell s (2 + field_count s + i) else byte_of (cell s (2 + field_count s + i / 2)) i

abbrev pub object_from : Stored → Object
object_from s = record {
  class = cell s 1 / 2;
  kind = s.kind;
  fields = map value_of (run (λ i. cell s (2 + i)) (field_count s));
  units = run (unit_at s) (unit_count s);
}

abbrev pub objects_in : List (Option Stored) → Table
objects_in all = map (option_map object_from) all

-- The first word is the number of words, the second names a class, and the fields are within. Only what has units is odd.
pub record IsSound (s : Stored) : Type 0 where
  pub size : cell s 0 ≡ length s.cells
  pub small : length s.cells ≤ 65535
  pub class : cell s 1 % 2 ≡ 0
  pub fields : 2 + field_count s ≤ length s.cells
  pub odd : s.odd ≡ true → 2 + field_count s < length s.cells

abbrev pub AllSound : List (Option Stored) → Type 0
AllSound all = (k : ℕ) (s : Stored) → slot all k ≡ Some s → IsSound s

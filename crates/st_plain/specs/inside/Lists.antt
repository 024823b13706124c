-- Objects whose fields and units are runs of two lists.
use Rattle.std.specs.Prelude.{◌≡◌, ◌≢◌, ℕ, suc, ◌+◌, ◌*◌, ◌/◌, ◌<◌, ◌≤◌, Bool, true, false, is_some, List, [], ◌∷◌, if◌then◌else◌, map, take, drop, length, replicate, slice_get, unwrap_or, Option, Some, None}
use Rattle.std.specs.Option.{option_map}
use Rattle.st_model.specs.Limits.{most_words}
use Rattle.st_model.specs.declared.oop.Oop.{Oop}
use Rattle.st_model.specs.declared.kind.Kind.{Kind}
use Rattle.st_model.specs.Values.{Value, Small, Ref, value, is_small}
use Rattle.st_model.specs.Objects.{Object, is_words, nil}
use Rattle.st_model.specs.Table.{Table}
use Rattle.st_model.specs.declared.demand.Demand.{Demand}
use Rattle.st_plain.specs.declared.entry.Entry.{Entry}

-- the object of an entry
abbrev pub entry_object : List Oop → List ℕ → Entry → Object
entry_object pointers units e = record {
  class = e.class.0 / 2;
  kind = e.kind;
  fields = map value (take e.fields (drop e.fields_at pointers));
  units = take e.units (drop e.units_at units);
}

-- an entry of runs that begin at the first free places
abbrev pub new_entry : Oop → Kind → ℕ → ℕ → ℕ → ℕ → Entry
new_entry class kind next_field fields next_unit units = record { class = class; kind = kind; fields_at = next_field; fields = fields; units_at = next_unit; units = units }

abbrev pub listed_table : List Oop → List ℕ → List (Option Entry) → Table
listed_table pointers units entries = map (option_map (entry_object pointers units)) entries

abbrev pub slot : List (Option Entry) → ℕ → Option Entry
slot entries n = unwrap_or (slice_get entries n) None

-- the entry of a value
unfoldable pub entry_of : List (Option Entry) → Value → Option Entry
entry_of entries (Small n) = None
entry_of entries (Ref n) = slot entries n

-- the words of an object of this kind with so many fields and units: size, class and body
abbrev pub words_for : Kind → ℕ → ℕ → ℕ
words_for kind fields units = if is_words kind then 2 + units else 2 + fields + (units + 1) / 2

abbrev pub entry_words : Entry → ℕ
entry_words e = words_for e.kind e.fields e.units

-- an entry's runs end before the first free places, its class is no SmallInteger, its size is one that an object can have,
-- and its words have room for its fields and units
pub record IsPlaced (next_field next_unit : ℕ) (e : Entry) : Type 0 where
  pub fields_end : e.fields_at + e.fields ≤ next_field
  pub units_end : e.units_at + e.units ≤ next_unit
  pub class : is_small (value e.class) ≡ false
  pub small : 2 * e.fields + e.units ≤ 131066
  pub parts : 2 * e.fields + e.units ≤ 2 * entry_words e

-- no place of the two lists lies in runs of both entries
pub record IsApart (d e : Entry) : Type 0 where
  pub fields : (k : ℕ) → d.fields_at ≤ k → k < d.fields_at + d.fields → e.fields_at ≤ k → k < e.fields_at + e.fields → ⊥
  pub units : (k : ℕ) → d.units_at ≤ k → k < d.units_at + d.units → e.units_at ≤ k → k < e.units_at + e.units → ⊥

abbrev pub AllPlaced : ℕ → ℕ → List (Option Entry) → Type 0
AllPlaced next_field next_unit entries = (i : ℕ) (e : Entry) → slice_get entries i ≡ Some (Some e) → IsPlaced next_field next_unit e

abbrev pub AllApart : List (Option Entry) → Type 0
AllApart entries = (i j : ℕ) (d e : Entry) → i ≢ j → slice_get entries i ≡ Some (Some d) → slice_get entries j ≡ Some (Some e) → IsApart d e

-- the lists are no longer than a memory has words
pub record AreBounded (fields units : ℕ) : Type 0 where
  pub fields_most : fields ≤ most_words
  pub units_most : units ≤ 2 * most_words

-- The table has 32,768 places, of which those from table_end on are empty. The runs lie apart in lists of so many
-- fields and units, before the first free ones.
pub record IsLaidOut (entries : List (Option Entry)) (fields units table_end next_field next_unit : ℕ) : Type 0 where
  pub places : length entries ≡ 32768
  pub within : table_end ≤ 32768
  pub empty : (k : ℕ) → table_end ≤ k → slot entries k ≡ None
  pub placed : AllPlaced next_field next_unit entries
  pub apart : AllApart entries
  pub fields_end : next_field ≤ fields
  pub units_end : next_unit ≤ units
  pub bounded : AreBounded fields units

-- no place from 1 up to this one is empty
abbrev pub IsFull : List (Option Entry) → ℕ → Type 0
IsFull entries end = (k : ℕ) → 1 ≤ k → k < end → is_some (slot entries k) ≡ true

-- the sum of a number over all entries
abbrev pub entry_total : (Entry → ℕ) → List (Option Entry) → ℕ
entry_total weight [] = 0
entry_total weight (None ∷ es) = entry_total weight es
entry_total weight (Some e ∷ es) = weight e + entry_total weight es

abbrev pub slot_number : (Entry → ℕ) → Option Entry → ℕ
slot_number weight None = 0
slot_number weight (Some e) = weight e

abbrev pub one_entry : Entry → ℕ
one_entry e = 1

abbrev pub entry_fields : Entry → ℕ
entry_fields e = e.fields

abbrev pub entry_units : Entry → ℕ
entry_units e = e.units

-- so many entries there are, and so many words they have
pub record IsCounted (entries : List (Option Entry)) (used : Demand) : Type 0 where
  pub count : used.entries ≡ entry_total one_entry entries
  pub words : used.words ≡ entry_total entry_words entries

-- of the entries only those of which the test holds
abbrev pub kept_entries : List (Option Entry) → (ℕ → Bool) → List (Option Entry)
kept_entries [] keep = []
kept_entries (e ∷ es) keep = (if keep 0 then e else None) ∷ kept_entries es (λ k. keep (suc k))

-- an object of nil and 0
abbrev pub cleared : ℕ → Kind → ℕ → ℕ → Object
cleared class kind fields units = record { class = class; kind = kind; fields = replicate fields nil; units = replicate units 0 }

-- What a draft says: the objects of a table, those that a row makes behind them, and the changes of fields, one after the
-- other.
use Rattle.std.specs.Prelude.{◌≡◌, ℕ, zero, suc, ◌<◌, ◌==◌, true, false, List, [], ◌∷◌, ◌++◌, map, take, drop, length, max, slice_get, slice_index_or, Option, Some, None, if◌then◌else◌}
use Rattle.st_model.specs.declared.kind.Kind.TheVariants as kind
use Rattle.st_model.specs.Values.{Value, Small, Ref, word, is_small}
use Rattle.st_model.specs.Objects.{Object, is_pointers}
use Rattle.st_model.specs.Machine.{is_there}
use Rattle.st_model.specs.Table.{Table, table, entry}
use Rattle.st_model.specs.View.{is_live, object_of, with_stored, with_exchanged}
use Rattle.st_memory.specs.declared.made.Made.{Made}
use Rattle.st_memory.specs.inside.Making.{made_object}
use Rattle.st_draft.specs.declared.change.Exchange.{Exchange}
use Rattle.st_draft.specs.declared.change.Change.{Change}
use Rattle.st_draft.specs.declared.change.Change.TheVariants.{Field, Fields}
use Rattle.st_draft.specs.declared.change.Origin.{Origin}
use Rattle.st_draft.specs.declared.change.Origin.TheVariants.{FromValue, FromPlace}

abbrev pub made_table : List Made → Table
made_table made = map (λ m. Some (made_object m)) made

-- the first n of these objects behind a table
abbrev pub with_made : Table → List Made → ℕ → Table
with_made t made n = t ++ made_table (take n made)

-- what stands in a field
abbrev pub field_value : Table → Value → ℕ → Option Value
field_value t v i = slice_get (object_of t v).fields i

-- the table with x in field i of an object of kind Pointers
unfoldable pub written : Table → Value → ℕ → Value → Table
written t v i x = if is_pointers (object_of t v).kind then with_stored t v i x else t

-- the table with these in the fields from i on
unfoldable pub all_written : Table → Value → ℕ → List Value → Table
all_written t v i [] = t
all_written t v i (x ∷ xs) = all_written (written t v i x) v (suc i) xs

-- the fields of an object of kind Pointers
abbrev pub pointer_fields : Table → Value → List Value
pointer_fields t v = if is_pointers (object_of t v).kind then (object_of t v).fields else []

unfoldable pub after_change : Table → Change → Table
after_change t (Field object at value) = written t (word object) at (word value)
after_change t (Fields n source from target to) = all_written t (word target) to (take n (drop from (pointer_fields t (word source))))

abbrev pub no_change : Change
no_change = Field (record { 0 = 0 }) 0 (record { 0 = 0 })

-- the table after the first k changes
unfoldable pub replayed : Table → List Change → ℕ → Table
replayed t changes zero = t
replayed t changes (suc k) = after_change (replayed t changes k) (slice_index_or changes k no_change)

-- an object of kind Pointers has this field
pub record HasField (t : Table) (v : Value) (i : ℕ) : Type 0 where
  pub pointers : is_pointers (object_of t v).kind ≡ true
  pub place : i < length (object_of t v).fields

-- two objects are the same but for what stands in fields of kind Pointers
pub record IsLike (a b : Object) : Type 0 where
  pub class : a.class ≡ b.class
  pub kind : a.kind ≡ b.kind
  pub count : length a.fields ≡ length b.fields
  pub units : a.units ≡ b.units
  pub same : is_pointers b.kind ≡ false → a ≡ b

-- two tables have such objects under the same names
pub record AreLike (t u : Table) : Type 0 where
  pub objects : (v : Value) → IsLike (object_of t v) (object_of u v)
  pub live : (v : Value) → is_live t v ≡ is_live u v

-- the object that a value names
abbrev pub named_object : Table → Value → Option Object
named_object t (Small n) = None
named_object t (Ref n) = entry t n

-- the highest word that a change names as an object
abbrev pub highest : Change → ℕ
highest (Field object at value) = object.0
highest (Fields n source from target to) = max source.0 target.0

-- the table of a draft: the first changes of the table with the first objects made
abbrev pub draft_table : Table → List Made → ℕ → List Change → ℕ → Table
draft_table t made made_count changes count = replayed (with_made t made made_count) changes count

-- What stands in field i of o in the table u, after a change of t, comes from there. start is a table like t.
abbrev pub IsOrigin : Table → Table → Table → Value → ℕ → Origin → Type 0
IsOrigin start t u o i (FromValue x) = field_value u o i ≡ Some (word x)
IsOrigin start t u o i (FromPlace p j) = HasField start (word p) j × (field_value u o i ≡ field_value t (word p) j)

abbrev pub no_made : Made
no_made = record { class = record { 0 = 0 }; kind = kind.Pointers; size = 0; literals = 0 }

-- whatever stands in a field is there
abbrev pub AllThere : Table → Type 0
AllThere t = (v : Value) (i : ℕ) (x : Value) → field_value t v i ≡ Some x → is_there table t x ≡ true

abbrev pub no_exchange : Exchange
no_exchange = record { first = record { 0 = 0 }; second = record { 0 = 0 } }

-- the table in which the first n pairs have exchanged their objects, one pair after the other
unfoldable pub exchanged_by : Table → List Exchange → ℕ → Table
exchanged_by t pairs zero = t
exchanged_by t pairs (suc n) = with_exchanged (exchanged_by t pairs n) (word (slice_index_or pairs n no_exchange).first) (word (slice_index_or pairs n no_exchange).second)

-- the name that had, before an exchange of a and b, the object that this one has after it
abbrev pub name_before : ℕ → ℕ → ℕ → ℕ
name_before a b n = if n == a then b else if n == b then a else n

abbrev pub value_before : Value → Value → Value → Value
value_before (Small a) y v = v
value_before (Ref a) (Small b) v = v
value_before (Ref a) (Ref b) (Small n) = Small n
value_before (Ref a) (Ref b) (Ref n) = Ref (name_before a b n)

-- the value that had its object before all of the first n exchanges
unfoldable pub value_first : List Exchange → ℕ → Value → Value
value_first pairs zero v = v
value_first pairs (suc n) v = value_first pairs n (value_before (word (slice_index_or pairs n no_exchange).first) (word (slice_index_or pairs n no_exchange).second) v)

-- each of the first n pairs is of two objects of the table
abbrev pub AreOf : Table → List Exchange → ℕ → Type 0
AreOf t pairs n = (k : ℕ) → k < n → (is_live t (word (slice_index_or pairs k no_exchange).first) ≡ true) × (is_live t (word (slice_index_or pairs k no_exchange).second) ≡ true)

-- no word of the first n pairs is that of a SmallInteger
abbrev pub AreEven : List Exchange → ℕ → Type 0
AreEven pairs n = (k : ℕ) → k < n → (is_small (word (slice_index_or pairs k no_exchange).first) ≡ false) × (is_small (word (slice_index_or pairs k no_exchange).second) ≡ false)

-- v has in t what w has in u
pub record Names (t u : Table) (v w : Value) : Type 0 where
  pub object : named_object t v ≡ named_object u w
  pub small : is_small v ≡ is_small w

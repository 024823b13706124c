-- A memory that is filled with some objects of another one.
use Rattle.std.specs.Prelude.{◌≡◌, ℕ, zero, suc, ◌+◌, ◌≤◌, ◌<◌, Bool, false, length, take, Some}
use Rattle.st_model.specs.Values.{Value, Ref}
use Rattle.st_model.specs.Objects.{Object, one, words_of}
use Rattle.st_model.specs.Machine.{Head}
use Rattle.st_model.specs.Table.{Table, entry, settled_table, total_used}
use Rattle.st_model.specs.View.{View, is_live, with_object, nothing_held}

-- the objects of a set, at their places, under a head; nothing is held
abbrev pub only : Table → Head → (ℕ → Bool) → View
only t h set = record { objects = settled_table t set; held = nothing_held; head = h }

-- below a place, and of the set
abbrev pub below : ℕ → (ℕ → Bool) → ℕ → Bool
below zero set n = false
below (suc k) set zero = set 0
below (suc k) set (suc n) = below k (λ m. set (suc m)) n

-- at this value's place an object was put, and all else stands
pub record Puts (old new : View) (x : Value) (o : Object) : Type 0 where
  pub objects : new.objects ≡ with_object old.objects x o
  pub held : new.held ≡ old.held
  pub head : new.head ≡ old.head

-- an object of which i fields, and j units, are those of another one
pub record IsPart (i j : ℕ) (o p : Object) : Type 0 where
  pub class : p.class ≡ o.class
  pub kind : p.kind ≡ o.kind
  pub many_fields : length p.fields ≡ length o.fields
  pub many_units : length p.units ≡ length o.units
  pub fields : take i p.fields ≡ take i o.fields
  pub units : take j p.units ≡ take j o.units

-- such an object was put
pub record PutsPart (old new : View) (x : Value) (i j : ℕ) (o : Object) : Type 0 where
  pub part : Object
  pub is_part : IsPart i j o part
  pub puts : Puts old new x part

-- there is room for an object at this value's place
pub record HasRoom (v : View) (x : Value) (o : Object) : Type 0 where
  pub places : length v.objects ≡ 32768
  pub free : is_live v.objects x ≡ false
  pub entries : total_used one v.objects + 1 ≤ v.head.entries
  pub words : total_used words_of v.objects + words_of o ≤ v.head.words

-- the object at this value's place is such a part
pub record IsAmong (v : View) (x : Value) (i j : ℕ) (o : Object) : Type 0 where
  pub place : ℕ
  pub is : x ≡ Ref place
  pub inside : place < length v.objects
  pub part : Object
  pub there : entry v.objects place ≡ Some part
  pub is_part : IsPart i j o part

-- of a table the objects below a place that are of a set
pub record FilledBelow (set : ℕ → Bool) (k : ℕ) (v w : View) : Type 0 where
  pub objects : w.objects ≡ settled_table v.objects (below k set)
  pub held : w.held ≡ nothing_held
  pub head : w.head ≡ v.head

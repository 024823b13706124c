-- Stretches of the words or bytes of an object, and bytes of one object that become those of another.
use Rattle.std.specs.Prelude.{◌≡◌, ℕ, zero, suc, ◌+◌, ◌≤◌, true, List, [], ◌∷◌, take, drop, length}
use Rattle.st_model.specs.Values.{Value, Small, Ref}
use Rattle.st_model.specs.Objects.{is_bytes, with_units}
use Rattle.st_model.specs.Table.{Table, changed}
use Rattle.st_model.specs.View.{View, Has, is_live, object_of, with_fields, fields_from}

-- a live object of kind Bytes has n bytes from one on
pub record HasBytes (t : Table) (v : Value) (from n : ℕ) : Type 0 where
  pub live : is_live t v ≡ true
  pub kind : is_bytes (object_of t v).kind ≡ true
  pub bytes : from + n ≤ length (object_of t v).units

-- these in the place of those from one on
abbrev pub laid : ℕ → List ℕ → List ℕ → List ℕ
laid zero [] us = us
laid zero (w ∷ ws) [] = []
laid zero (w ∷ ws) (u ∷ us) = w ∷ laid zero ws us
laid (suc to) ws [] = []
laid (suc to) ws (u ∷ us) = u ∷ laid to ws us

-- the table with these units in an object
unfoldable pub with_units_in : Table → Value → List ℕ → Table
with_units_in t (Small n) us = t
with_units_in t (Ref n) us = changed t n (with_units (object_of t (Ref n)) us)

-- n words or bytes of an object, from one on
abbrev pub units_from : Table → Value → ℕ → ℕ → List ℕ
units_from t v from n = take n (drop from (object_of t v).units)

-- the table with these in the place of the words or bytes of an object, from one on
abbrev pub with_run : Table → Value → ℕ → List ℕ → Table
with_run t v to ws = with_units_in t v (laid to ws (object_of t v).units)

-- the table in which n bytes of one object, from one on, are copied to those of another, all as they were before
abbrev pub with_bytes_of : Table → Value → ℕ → Value → ℕ → ℕ → Table
with_bytes_of t source from target to n = with_run t target to (units_from t source from n)

-- both objects have n bytes from these places on, with places of 32 bits
pub record CanCopyBytes (t : Table) (s : Value) (from : ℕ) (v : Value) (to n : ℕ) : Type 0 where
  pub source : HasBytes t s from n
  pub target : HasBytes t v to n
  pub small : (from + n ≤ 131066) × (to + n ≤ 131066)

-- they are copied, and nothing else is changed
pub record CopiesBytes (old new : View) (s : Value) (from : ℕ) (v : Value) (to n : ℕ) : Type 0 where
  pub objects : new.objects ≡ with_bytes_of old.objects s from v to n
  pub held : new.held ≡ old.held
  pub head : new.head ≡ old.head

-- the same of fields
pub record CanCopyFields (t : Table) (s : Value) (from : ℕ) (v : Value) (to n : ℕ) : Type 0 where
  pub source : Has t s from n
  pub target : Has t v to n
  pub small : (from + n ≤ 131066) × (to + n ≤ 131066)

pub record CopiesFields (old new : View) (s : Value) (from : ℕ) (v : Value) (to n : ℕ) : Type 0 where
  pub objects : new.objects ≡ with_fields old.objects v to (fields_from old.objects s from n)
  pub held : new.held ≡ old.held
  pub head : new.head ≡ old.head

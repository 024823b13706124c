-- What is known of the active context, its home and its method, and of the last object that was made.
use Rattle.std.specs.Prelude.{◌≡◌, ℕ, ◌+◌, ◌*◌, ◌<◌, ◌≤◌, length, true, ℤ, pos, ◌≤ℤ◌, ◌<ℤ◌}
use Rattle.st_model.specs.declared.word.Word.{Word}
use Rattle.st_model.specs.Values.{Value, word}
use Rattle.st_model.specs.Objects.{is_pointers, is_method, first_unit, size_of}
use Rattle.st_model.specs.Table.{Table}
use Rattle.st_model.specs.View.{View, is_live, object_of}
use Rattle.st_at_once.specs.declared.known.Fields.{Fields}
use Rattle.st_at_once.specs.declared.known.Code.{Code}
use Rattle.st_at_once.specs.declared.known.NearPlaces.{NearPlaces}

-- the object of this word is that of kind Pointers which is held, and has so many fields
pub record HasFields (t : Table) (held : Value) (f : Fields) : Type 0 where
  pub short : f.object.0 < 65536
  pub same : word f.object ≡ held
  pub live : is_live t (word f.object) ≡ true
  pub kind : is_pointers (object_of t (word f.object)).kind ≡ true
  pub number : length (object_of t (word f.object)).fields ≡ f.number
  pub few : f.number ≤ 65533

-- nothing is known where the number is 0
abbrev pub KnowsFields : Table → Value → Fields → Type 0
KnowsFields t held f = 0 < f.number → HasFields t held f

-- the object of this word is the method that is held, and has so many literals and these bytecodes
pub record HasCode (t : Table) (held : Value) (c : Code) : Type 0 where
  pub short : c.method.0 < 65536
  pub same : word c.method ≡ held
  pub live : is_live t (word c.method) ≡ true
  pub kind : is_method (object_of t (word c.method)).kind ≡ true
  pub literals : length (object_of t (word c.method)).fields ≡ c.literals + 1
  pub few : c.literals < 64
  pub first : c.first ≡ pos (2 * c.literals + 2)
  pub limit : c.end ≤ℤ pos 16382
  pub size : c.end ≤ℤ pos (size_of (object_of t (word c.method)))

-- nothing is known where it has neither literals nor bytecodes
pub record KnowsCode (t : Table) (held : Value) (c : Code) : Type 0 where
  pub literals : 0 < c.literals → HasCode t held c
  pub bytes : c.first <ℤ c.end → HasCode t held c

-- the word names an object that is there
pub record IsThere (t : Table) (w : Word) : Type 0 where
  pub short : w.0 < 65536
  pub live : is_live t (word w) ≡ true

-- the object is of kind Pointers and has so many fields
pub record HasNumber (t : Table) (v : Value) (n : ℕ) : Type 0 where
  pub live : is_live t v ≡ true
  pub kind : is_pointers (object_of t v).kind ≡ true
  pub number : length (object_of t v).fields ≡ n

-- the object is a method that has a bytecode of this number
pub record IsCodeAt (t : Table) (v : Value) (ip : ℤ) : Type 0 where
  pub live : is_live t v ≡ true
  pub kind : is_method (object_of t v).kind ≡ true
  pub low : pos (first_unit (object_of t v)) ≤ℤ ip
  pub high : ip ≤ℤ pos 16381
  pub below : ip <ℤ pos (size_of (object_of t v))

-- the object is a method that has this literal
pub record HasLiteral (t : Table) (v : Value) (i : ℕ) : Type 0 where
  pub live : is_live t v ≡ true
  pub kind : is_method (object_of t v).kind ≡ true
  pub literal : i + 1 < length (object_of t v).fields

-- what is known is so
pub record IsNear (v : View) (k : NearPlaces) : Type 0 where
  pub active : KnowsFields v.objects v.held.active k.active
  pub home : KnowsFields v.objects v.held.home k.home
  pub code : KnowsCode v.objects v.held.method k.code
  pub made : KnowsFields v.objects (word k.made.object) k.made

-- what is known stands at these places
pub record ArePlaced (stands : Value → ℕ → Type 0) (k : NearPlaces) : Type 0 where
  pub active : 0 < k.active.number → stands (word k.active.object) k.active.place
  pub home : 0 < k.home.number → stands (word k.home.object) k.home.place
  pub literals : 0 < k.code.literals → stands (word k.code.method) k.code.place
  pub bytes : k.code.first <ℤ k.code.end → stands (word k.code.method) k.code.place
  pub made : 0 < k.made.number → stands (word k.made.object) k.made.place

-- What an object's kind asks of it, and new objects (chapters 27 and 30).
use Rattle.std.specs.Prelude.{◌≡◌, ℕ, ◌+◌, ◌-◌, ◌*◌, ◌%◌, ◌==◌, ◌<◌, ◌≤◌, true, false, [], ◌∷◌, replicate, length, slice_get, Some, ⊤}
use Rattle.st_model.specs.declared.kind.Kind.{Kind}
use Rattle.st_model.specs.declared.kind.Kind.TheVariants as kind
use Rattle.st_model.specs.Values.{Value, Small, Ref, is_small}
use Rattle.st_model.specs.Objects.{Object, MethodClass, nil, place_of, is_pointers, is_method, holds_fields, words_of}

-- the units of words have 16 bits, all others 8
abbrev pub unit_limit : Kind → ℕ
unit_limit kind.Pointers = 256
unit_limit kind.Words = 65536
unit_limit kind.Bytes = 256
unit_limit kind.Method = 256

-- the number of literals that a header names, in bits 9 to 14 of its word
abbrev pub literals_of : Value → ℕ
literals_of (Small n) = n % 64
literals_of (Ref n) = n % 64

-- a Method's field 0 is its header: a SmallInteger that counts the other fields
abbrev pub IsHeader : Object → ℕ → Value → Type 0
IsHeader o i x = is_method o.kind ≡ true → i ≡ 0 → (is_small x ≡ true) × (literals_of x + 1 ≡ length o.fields)

-- a SmallInteger has 15 bits
abbrev pub IsWord : Value → Type 0
IsWord (Small n) = n < 32768
IsWord (Ref n) = ⊤

-- An object is what its kind says. Kind Method is that of the instances of CompiledMethod, and of no others.
pub record IsFormed (o : Object) : Type 0 where
  pub method : is_method o.kind ≡ (o.class == place_of MethodClass)
  pub has_header : is_method o.kind ≡ true → 0 < length o.fields
  pub header : (x : Value) → slice_get o.fields 0 ≡ Some x → IsHeader o 0 x
  pub fieldless : holds_fields o.kind ≡ false → o.fields ≡ []
  pub unitless : is_pointers o.kind ≡ true → o.units ≡ []
  pub values : (i : ℕ) (x : Value) → slice_get o.fields i ≡ Some x → IsWord x
  pub units : (i u : ℕ) → slice_get o.units i ≡ Some u → u < unit_limit o.kind
  pub size : words_of o ≤ 65535

-- a new object of a class: fields are this value, units are 0, and a Method's header has the literal count and else zeros
abbrev pub fresh_with : Value → ℕ → Kind → ℕ → ℕ → Object
fresh_with filler class kind.Pointers size literals = record { class = class; kind = kind.Pointers; fields = replicate size filler; units = [] }
fresh_with filler class kind.Words size literals = record { class = class; kind = kind.Words; fields = []; units = replicate size 0 }
fresh_with filler class kind.Bytes size literals = record { class = class; kind = kind.Bytes; fields = []; units = replicate size 0 }
fresh_with filler class kind.Method size literals = record { class = class; kind = kind.Method; fields = Small literals ∷ replicate literals filler; units = replicate (size - 2 * (literals + 1)) 0 }

-- with nil of the table
abbrev pub fresh : ℕ → Kind → ℕ → ℕ → Object
fresh class k size literals = fresh_with nil class k size literals

-- what a new object's kind asks of its class, its size in fields, words or bytes, and its number of literals
pub record IsMakeable (class : ℕ) (k : Kind) (size literals : ℕ) : Type 0 where
  pub kind : is_method k ≡ (class == place_of MethodClass)
  pub body : words_of (fresh class k size literals) ≤ 65535
  pub few : literals ≤ 63
  pub none : is_method k ≡ false → literals ≡ 0
  pub header : is_method k ≡ true → 2 * literals + 2 ≤ size

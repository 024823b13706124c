-- Values: what stands in a field or a register (chapters 26 and 27).
use Rattle.std.specs.Prelude.{ℕ, ◌-◌, ◌/◌, ◌%◌, ◌==◌, List, [], ◌∷◌, Bool, true, false, nat_lt, if◌then◌else◌, ℤ, pos, negsuc}
use Rattle.st_model.specs.declared.oop.Oop.{Oop}
use Rattle.st_model.specs.declared.word.Word.{Word}

-- A SmallInteger by its 15 bits, or the object of a name.
-- A name is a birth number in the book's machine, and half of a pointer in the code's.
pub data Value : Type 0 where
  Small : ℕ → Value
  Ref : ℕ → Value

-- the integer of 15 bits in two's complement, from -16384 to 16383
abbrev pub integer : ℕ → ℤ
integer n = if nat_lt n 16384 then pos n else negsuc (32767 - n)

-- the SmallInteger of an integer from -16384 to 16383
abbrev pub small_integer : ℤ → Value
small_integer (pos n) = Small n
small_integer (negsuc n) = Small (32767 - n)

-- the value of a word: an odd one is a SmallInteger in its upper 15 bits
unfoldable pub value_of : ℕ → Value
value_of w = if w % 2 == 1 then Small (w / 2) else Ref (w / 2)

abbrev pub value : Oop → Value
value o = value_of o.0

-- the value of a word that a row works on
abbrev pub word : Word → Value
word w = value_of w.0

abbrev pub is_small : Value → Bool
is_small (Small n) = true
is_small (Ref n) = false

-- the integer of a SmallInteger
abbrev pub integer_of : Value → ℤ
integer_of (Small n) = integer n
integer_of (Ref n) = pos 0

-- a value with its name changed
abbrev pub renamed : (ℕ → ℕ) → Value → Value
renamed f (Small n) = Small n
renamed f (Ref n) = Ref (f n)

abbrev pub renamed_all : (ℕ → ℕ) → List Value → List Value
renamed_all f [] = []
renamed_all f (v ∷ vs) = renamed f v ∷ renamed_all f vs

-- a value that names only what lives
abbrev pub IsLive : (ℕ → Type 0) → Value → Type 0
IsLive live (Small n) = Unit {0}
IsLive live (Ref n) = live n

abbrev pub AllLive : (ℕ → Type 0) → List Value → Type 0
AllLive live [] = Unit {0}
AllLive live (v ∷ vs) = IsLive live v × AllLive live vs

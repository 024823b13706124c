-- Numbers among literals.
use Rattle.std.specs.Prelude.{ℕ, suc, ◌+◌, ◌*◌, ◌-◌, ◌==◌, nat_lt, not, ◌&&◌, List, [], ◌∷◌, length, get_or, Option, Some, None, Bool, true, false, ℤ, pos, negsuc, if◌then◌else◌, ◌^◌}
use Rattle.st_model.specs.Values.{Value, integer_of}
use Rattle.st_scan.specs.declared.token.Signed.{Signed}
use Rattle.st_emit.specs.Literals.{LiteralView, number}

abbrev pub signed : ℤ → Signed
signed (pos n) = record { minus = false; size = n }
signed (negsuc n) = record { minus = true; size = suc n }

-- the number of a SmallInteger
abbrev pub small_number : Value → LiteralView
small_number v = number (signed (integer_of v))

-- the number of bytes, the low one first
abbrev pub number_of : List ℕ → ℕ
number_of [] = 0
number_of (b ∷ bs) = b + 256 * number_of bs

-- where it has no more than 128 bits
abbrev pub number_within : List ℕ → Option ℕ
number_within bs = if nat_lt (number_of bs) (2 ^ 128) then Some (number_of bs) else None

-- there is a last byte, which is the high one, that isn't 0
abbrev pub ends_high : List ℕ → Bool
ends_high bs = nat_lt 0 (length bs) && not (get_or bs (length bs - 1) 0 == 0)

abbrev pub if_large : Option ℕ → Option LiteralView
if_large None = None
if_large (Some n) = if nat_lt 16383 n then Some (number (record { minus = false; size = n })) else None

-- a number above the SmallIntegers, with no more bytes than it needs, and no more than 16
abbrev pub large_number : List ℕ → Option LiteralView
large_number bs = if ends_high bs then if_large (number_within bs) else None

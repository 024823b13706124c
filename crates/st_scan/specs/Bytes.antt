-- The bytes of a method's text, by what they begin or belong to.
use Rattle.std.specs.Prelude.{ℕ, Bool, not, ◌&&◌, ◌||◌, ◌==◌, List, ◌∷◌, codes}
use Rattle.std.specs.List.{list_any}
use Rattle.std.specs.Str.{byte}
use Rattle.std.specs.Char.{is_ascii_digit, is_ascii_uppercase}

-- one of these bytes
abbrev pub is_among : List ℕ → ℕ → Bool
is_among bytes b = list_any (λ c. b == c) bytes

-- tab, line feed, form feed, carriage return, space
abbrev pub is_blank : ℕ → Bool
is_blank b = b == 9 || b == 10 || b == 12 || b == 13 || b == 32

-- a digit above the decimal ones is a capital
abbrev pub is_radix_digit : ℕ → Bool
is_radix_digit b = is_ascii_digit b || is_ascii_uppercase b

-- what an operator of one or two bytes is made of
abbrev pub operator_bytes : List ℕ
operator_bytes = codes "+-/\\*~<>=@%&?,"

abbrev pub is_operator_byte : ℕ → Bool
is_operator_byte b = is_among operator_bytes b

-- an operator begins with one of these, or is | alone
abbrev pub begins_operator : ℕ → Bool
begins_operator b = is_among (byte "|" ∷ operator_bytes) b

-- the second byte of an operator, which is no -
abbrev pub is_second_operator_byte : ℕ → Bool
is_second_operator_byte b = is_operator_byte b && not (b == byte "-")

-- what is a token alone, and no operator
abbrev pub mark_bytes : List ℕ
mark_bytes = codes "^.;:_()[]"

abbrev pub is_mark : ℕ → Bool
is_mark b = is_among mark_bytes b

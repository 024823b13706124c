-- What the primitives on SmallIntegers, and those on two integers from 0 up of at most 128 bits, compute (chapter 29), as
-- operations on integers.
use Rattle.std.specs.Prelude.{ℕ, suc, ◌+◌, ◌-◌, ◌*◌, ◌/◌, ◌%◌, ◌==◌, ◌^◌, nat_lt, nat_le, bit_and, bit_or, bit_xor, Option, Some, None, Bool, false, not, if◌then◌else◌, ℤ, pos, negsuc, neg_ℤ, ◌+ℤ◌, ◌-ℤ◌, ◌*ℤ◌, int_lt, int_le, int_div, int_rem}
use Rattle.std.specs.Ordering.{int_eq}
use Rattle.std.specs.Int.{w16, int_div_euclid, int_bit_and, int_bit_or, int_bit_xor}
use Rattle.st_model.specs.declared.integers.IntAnswer.{IntAnswer}
use Rattle.st_model.specs.declared.integers.IntAnswer.TheVariants.{Number, Truth, Point}
use Rattle.st_model.specs.declared.integers.LargeAnswer.{LargeAnswer}
use Rattle.st_model.specs.declared.integers.LargeAnswer.TheVariants as wide

abbrev pub is_zero : ℤ → Bool
is_zero (pos n) = n == 0
is_zero (negsuc n) = false

-- the integer, where there is a SmallInteger of it: from -16384 to 16383
unfoldable pub within_range : ℤ → Option IntAnswer
within_range z = if int_lt z (negsuc 16383) then None else if int_lt (pos 16383) z then None else Some (Number z)

-- The quotient toward minus infinity: where the divisor is above 0 it is Euclid's, whose remainder is never below 0. That it is
-- the greatest integer not beyond what is divided is shown in proofs/Floors.antt.
abbrev pub floor_quotient : ℤ → ℤ → ℤ
floor_quotient a b = if int_lt b (pos 0) then int_div_euclid (neg_ℤ a) (neg_ℤ b) else int_div_euclid a b

-- 10: the quotient, where nothing remains
unfoldable pub exact_quotient : ℤ → ℤ → Option IntAnswer
exact_quotient a b = if is_zero b then None else if is_zero (int_rem a b) then within_range (int_div a b) else None

-- 11: the remainder of the division toward minus infinity
unfoldable pub modulo : ℤ → ℤ → Option IntAnswer
modulo a b = if is_zero b then None else within_range (a -ℤ (b *ℤ floor_quotient a b))

-- 12: the quotient toward minus infinity
unfoldable pub quotient_down : ℤ → ℤ → Option IntAnswer
quotient_down a b = if is_zero b then None else within_range (floor_quotient a b)

-- 13: the quotient toward 0
unfoldable pub quotient : ℤ → ℤ → Option IntAnswer
quotient a b = if is_zero b then None else within_range (int_div a b)

-- 17: a times 2 to the power b, toward minus infinity
abbrev pub shifted : ℤ → ℤ → ℤ
shifted a (pos b) = a *ℤ pos (2 ^ b)
shifted a (negsuc b) = int_div_euclid a (pos (2 ^ suc b))

-- Primitive n of a and b, or none where it fails: 1 2 9 sum, difference, product; 3 to 8 < > <= >= = ~=; 14 15 16 and, or,
-- exclusive or of all bits in two's complement, which never leave the range; 18 the Point of both.
unfoldable pub binary : ℕ → ℤ → ℤ → Option IntAnswer
binary n a b =
    if n == 1 then within_range (a +ℤ b) else
    if n == 2 then within_range (a -ℤ b) else
    if n == 3 then Some (Truth (int_lt a b)) else
    if n == 4 then Some (Truth (int_lt b a)) else
    if n == 5 then Some (Truth (int_le a b)) else
    if n == 6 then Some (Truth (int_le b a)) else
    if n == 7 then Some (Truth (int_eq a b)) else
    if n == 8 then Some (Truth (not (int_eq a b))) else
    if n == 9 then within_range (a *ℤ b) else
    if n == 10 then exact_quotient a b else
    if n == 11 then modulo a b else
    if n == 12 then quotient_down a b else
    if n == 13 then quotient a b else
    if n == 14 then within_range (int_bit_and w16 a b) else
    if n == 15 then within_range (int_bit_or w16 a b) else
    if n == 16 then within_range (int_bit_xor w16 a b) else
    if n == 17 then within_range (shifted a b) else
    if n == 18 then Some (Point a b) else None

-- The number, where it has at most 128 bits: so far the primitives 21 to 37 go, whose operands and answers are from 0 up.
unfoldable pub within_bits : ℕ → Option ℕ
within_bits n = if nat_lt n (2 ^ 128) then Some n else None

abbrev pub answered : Option ℕ → Option LargeAnswer
answered None = None
answered (Some n) = Some (wide.Number n)

-- 21
unfoldable pub large_sum : ℕ → ℕ → Option LargeAnswer
large_sum a b = answered (within_bits (a + b))

-- 22
unfoldable pub large_difference : ℕ → ℕ → Option LargeAnswer
large_difference a b = if nat_lt a b then None else Some (wide.Number (a - b))

-- 29
unfoldable pub large_product : ℕ → ℕ → Option LargeAnswer
large_product a b = answered (within_bits (a * b))

-- 30: the quotient, where nothing remains
unfoldable pub large_exact_quotient : ℕ → ℕ → Option LargeAnswer
large_exact_quotient a b = if b == 0 then None else if a % b == 0 then Some (wide.Number (a / b)) else None

-- 31
unfoldable pub large_remainder : ℕ → ℕ → Option LargeAnswer
large_remainder a b = if b == 0 then None else Some (wide.Number (a % b))

-- 32 and 33: the quotient toward 0
unfoldable pub large_quotient : ℕ → ℕ → Option LargeAnswer
large_quotient a b = if b == 0 then None else Some (wide.Number (a / b))

-- Primitive n of a and b, or none where it fails: 21 22 29 sum, difference, product; 23 to 28 < > <= >= = ~=; 30 to 33
-- quotients and what remains; 34 35 36 and, or, exclusive or of all bits.
unfoldable pub large : ℕ → ℕ → ℕ → Option LargeAnswer
large n a b =
    if n == 21 then large_sum a b else
    if n == 22 then large_difference a b else
    if n == 23 then Some (wide.Truth (nat_lt a b)) else
    if n == 24 then Some (wide.Truth (nat_lt b a)) else
    if n == 25 then Some (wide.Truth (nat_le a b)) else
    if n == 26 then Some (wide.Truth (nat_le b a)) else
    if n == 27 then Some (wide.Truth (a == b)) else
    if n == 28 then Some (wide.Truth (not (a == b))) else
    if n == 29 then large_product a b else
    if n == 30 then large_exact_quotient a b else
    if n == 31 then large_remainder a b else
    if n == 32 then large_quotient a b else
    if n == 33 then large_quotient a b else
    if n == 34 then Some (wide.Number (bit_and a b)) else
    if n == 35 then Some (wide.Number (bit_or a b)) else
    if n == 36 then Some (wide.Number (bit_xor a b)) else None

-- a times 2 to the power n
unfoldable pub shifted_up : ℕ → ℕ → Option ℕ
shifted_up a n = within_bits (a * 2 ^ n)

-- a divided by 2 to the power n, toward 0
unfoldable pub shifted_down : ℕ → ℕ → ℕ
shifted_down a n = a / 2 ^ n

-- 37: a times 2 to the power of an integer, toward 0
abbrev pub large_shift : ℕ → ℤ → Option ℕ
large_shift a (pos n) = shifted_up a n
large_shift a (negsuc n) = Some (shifted_down a (suc n))

-- The quotient toward minus infinity is the greatest integer whose product with the divisor isn't beyond what is divided.
use Rattle.std.proofs.Common.{◌≡◌, ℕ, zero, suc, ◌+◌, ◌*◌, ◌/◌, ◌<◌, false, arith, refl}
use Rattle.std.specs.Prelude.{ℤ, pos, negsuc, ◌+ℤ◌, ◌*ℤ◌, ◌≤ℤ◌, ◌<ℤ◌, nat_lt}
use Rattle.std.proofs.Math.Nat.{mul-div-le, lt-mul-div-succ, zero-div}
use Rattle.std.proofs.lemmas.Int.{ints}
use Rattle.std.proofs.lemmas.Bool.Decides.{nat_tests}
use Rattle.st_model.specs.Integers.{floor_quotient}

-- q times b isn't beyond a, and one time more is
abbrev IsFloor : ℤ → ℤ → ℤ → Type 0
IsFloor a (pos b) q = ((pos b *ℤ q) ≤ℤ a) × (a <ℤ ((pos b *ℤ q) +ℤ pos b))
IsFloor a (negsuc b) q = (((negsuc b *ℤ q) +ℤ negsuc b) <ℤ a) × (a ≤ℤ (negsuc b *ℤ q))

over : (a b : ℕ) → a < suc b * (a / suc b + 1)
over a b = let h : 0 < suc b = omega arith in lt-mul-div-succ a h

both_above : (a b : ℕ) → IsFloor (pos a) (pos (suc b)) (pos (a / suc b))
both_above a b = (omega (arith, ints, mul-div-le a (suc b)), omega (arith, ints, over a b))

of_below : (a b : ℕ) → IsFloor (negsuc a) (pos (suc b)) (negsuc (a / suc b))
of_below a b = (omega (arith, ints, over a b), omega (arith, ints, mul-div-le a (suc b)))

of_zero : (b : ℕ) → IsFloor (pos 0) (negsuc b) (pos (0 / suc b))
of_zero b = let e : 0 / suc b ≡ 0 = zero-div (suc b) in rw e (omega (arith, ints), omega (arith, ints))

by_below : (a b : ℕ) → IsFloor (pos (suc a)) (negsuc b) (negsuc (a / suc b))
by_below a b = (omega (arith, ints, mul-div-le a (suc b)), omega (arith, ints, over a b))

both_below : (a b : ℕ) → IsFloor (negsuc a) (negsuc b) (pos (suc a / suc b))
both_below a b = (omega (arith, ints, over (suc a) b), omega (arith, ints, mul-div-le (suc a) (suc b)))

not_below : (b : ℕ) → nat_lt (suc b) 0 ≡ false
not_below b = grind (arith, nat_tests)

pub floors : (a b : ℤ) → (b ≡ pos 0 → ⊥) → IsFloor a b (floor_quotient a b)
floors a (pos zero) ne = absurd (ne refl)
floors (pos a) (pos (suc b)) ne = rw (not_below b) (both_above a b)
floors (negsuc a) (pos (suc b)) ne = rw (not_below b) (of_below a b)
floors (pos zero) (negsuc b) ne = of_zero b
floors (pos (suc a)) (negsuc b) ne = by_below a b
floors (negsuc a) (negsuc b) ne = both_below a b

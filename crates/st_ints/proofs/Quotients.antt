-- Divisions of SmallIntegers, which the code does on words of 32 bits.
use Rattle.std.proofs.Common.{◌≡◌, ℕ, zero, suc, ◌<◌, ◌≤◌, ◌/◌, true, false, Option, None, refl, sym, ap, ◌∙◌, arith}
use Rattle.std.specs.Prelude.{ℤ, pos, negsuc, neg_ℤ, ◌-ℤ◌, ◌*ℤ◌, int_div, int_rem, unsigned_abs, FitsSigned, if◌then◌else◌}
use Rattle.std.specs.Int.{cast_signed, cast_unsigned, Width, w16, w32}
use Rattle.std.specs.Int.Signed.{mag_rem}
use Rattle.std.proofs.Math.Nat.{div-le_self}
use Rattle.std.proofs.lemmas.Bool.Decides.{nat_tests}
use Rattle.std.proofs.lemmas.Int.{to_z-of_z, fits_signed_from_abs}
use Rattle.st_model.specs.declared.integers.IntAnswer.{IntAnswer}
use Rattle.st_model.specs.Integers.{is_zero, within_range, floor_quotient, exact_quotient, modulo, quotient_down, quotient}

wide : (a : ℤ) → FitsSigned w16 a → FitsSigned w32 a
wide a f = record { sfits = omega (arith, f.sfits) }

-- a number of 16 bits, made one of 32 bits
pub record Widened (a x : ℤ) : Type 0 where
  pub fits : FitsSigned w16 a
  pub same : x ≡ cast_signed w16 (cast_unsigned w16 a)

read : (a x : ℤ) → Widened a x → x ≡ a
read a x w = w.same ∙ to_z-of_z w16 a w.fits

-- what is passed of it
passed : (a x : ℤ) → Widened a x → cast_signed w32 (cast_unsigned w32 x) ≡ a
passed a x w = rw (read a x w) (to_z-of_z w32 a (wide a w.fits))

pub small : (a x : ℤ) → Widened a x → unsigned_abs a ≤ 16384 → unsigned_abs (cast_signed w32 (cast_unsigned w32 x)) ≤ 16384
small a x w h = rw (passed a x w) h

pub small_times : (t : ℤ) → FitsSigned w32 t → unsigned_abs t ≤ 16384 → unsigned_abs (cast_signed w32 (cast_unsigned w32 t)) ≤ 16384
small_times t f h = rw (to_z-of_z w32 t f) h

zero_bits : (z : ℤ) → FitsSigned w32 z → cast_unsigned w32 z ≡ 0 → is_zero z ≡ true
zero_bits (pos n) f e = rw e refl
zero_bits (negsuc n) f e = absurd (omega (arith, f.sfits, e))

pub other_bits : (w : Width) (z : ℤ) → (cast_unsigned w z ≡ 0 → ⊥) → is_zero z ≡ false
other_bits w (pos zero) ne = absurd (ne refl)
other_bits w (pos (suc n)) ne = grind (arith, nat_tests)
other_bits w (negsuc n) ne = refl

pub zero_bits_16 : (z : ℤ) → FitsSigned w16 z → cast_unsigned w16 z ≡ 0 → is_zero z ≡ true
zero_bits_16 (pos n) f e = rw e refl
zero_bits_16 (negsuc n) f e = absurd (omega (arith, f.sfits, e))

pub is_zero_of : (b y : ℤ) → Widened b y → cast_unsigned w32 y ≡ 0 → is_zero b ≡ true
is_zero_of b y w e = zero_bits b (wide b w.fits) (ap (cast_unsigned w32) (sym (read b y w)) ∙ e)

pub is_other_of : (b y : ℤ) → Widened b y → (cast_unsigned w32 y ≡ 0 → ⊥) → is_zero b ≡ false
is_other_of b y w ne = other_bits w32 b (λ e. ne (ap (cast_unsigned w32) (read b y w) ∙ e))

pub nonzero : (b y : ℤ) → Widened b y → is_zero b ≡ false → is_zero (cast_signed w32 (cast_unsigned w32 y)) ≡ false
nonzero b y w e = rw (passed b y w) e

signed_size : (r n : ℕ) → r ≤ n → unsigned_abs (neg_ℤ (pos r)) ≤ n
signed_size zero n h = h
signed_size (suc r) n h = h

quotient_size : (a d : ℤ) → unsigned_abs (int_div a d) ≤ unsigned_abs a
quotient_size (pos a) (pos d) = div-le_self a d
quotient_size (pos a) (negsuc d) = signed_size (a / suc d) a (div-le_self a (suc d))
quotient_size (negsuc a) (pos d) = signed_size (suc a / d) (suc a) (div-le_self (suc a) d)
quotient_size (negsuc a) (negsuc d) = div-le_self (suc a) (suc d)

size : (a : ℤ) → FitsSigned w16 a → unsigned_abs a ≤ 32768
size (pos n) f = omega (arith, f.sfits)
size (negsuc n) f = omega (arith, f.sfits)

quotient_fits : (a d : ℤ) → FitsSigned w16 a → FitsSigned w32 (int_div a d)
quotient_fits a d f = fits_signed_from_abs w32 (int_div a d) (omega (arith, quotient_size a d, size a f))

remainder_fits : (a d : ℤ) → FitsSigned w16 a → FitsSigned w32 (int_rem a d)
remainder_fits a d f = record { sfits = omega (arith, mag_rem a d, f.sfits) }

-- a division is done, and its quotient fits
pub divides : (a x y : ℤ) → Widened a x → (cast_unsigned w32 y ≡ 0 → ⊥)
    → (0 < cast_unsigned w32 y) × FitsSigned w32 (int_div (cast_signed w32 (cast_unsigned w32 x)) (cast_signed w32 (cast_unsigned w32 y)))
divides a x y w ne = (omega (arith, ne), rw (passed a x w) (quotient_fits a (cast_signed w32 (cast_unsigned w32 y)) w.fits))

-- the quotient that is passed
divided : (a b x y : ℤ) → Widened a x → Widened b y
    → cast_signed w32 (cast_unsigned w32 (int_div (cast_signed w32 (cast_unsigned w32 x)) (cast_signed w32 (cast_unsigned w32 y)))) ≡ int_div a b
divided a b x y v w = rw (passed a x v, passed b y w) (to_z-of_z w32 (int_div a b) (quotient_fits a b v.fits))

-- a division by 0 has no answer, and another the one that is given
pub by_zero : (b : ℤ) (x : Option IntAnswer) → is_zero b ≡ true → None ≡ (if is_zero b then None else x)
by_zero b x e = rw e refl

by_other : (b : ℤ) (x : Option IntAnswer) → is_zero b ≡ false → x ≡ (if is_zero b then None else x)
by_other b x e = rw e refl

exact : (a b : ℤ) → is_zero b ≡ false → is_zero (int_rem a b) ≡ true → within_range (int_div a b) ≡ exact_quotient a b
unfolding exact_quotient
exact a b e f = rw (e, f) refl

inexact : (a b : ℤ) → is_zero b ≡ false → is_zero (int_rem a b) ≡ false → None ≡ exact_quotient a b
unfolding exact_quotient
inexact a b e f = rw (e, f) refl

pub with_nothing_left : (a b x y : ℤ) → Widened a x → Widened b y → is_zero b ≡ false
    → cast_unsigned w32 (int_rem (cast_signed w32 (cast_unsigned w32 x)) (cast_signed w32 (cast_unsigned w32 y))) ≡ 0
    → within_range (cast_signed w32 (cast_unsigned w32 (int_div (cast_signed w32 (cast_unsigned w32 x)) (cast_signed w32 (cast_unsigned w32 y))))) ≡ exact_quotient a b
with_nothing_left a b x y v w ne e =
    let f : cast_unsigned w32 (int_rem a b) ≡ 0 = rw (passed a x v, passed b y w) at e in
    ap within_range (divided a b x y v w) ∙ exact a b ne (zero_bits (int_rem a b) (remainder_fits a b v.fits) f)

pub with_something_left : (a b x y : ℤ) → Widened a x → Widened b y → is_zero b ≡ false
    → (cast_unsigned w32 (int_rem (cast_signed w32 (cast_unsigned w32 x)) (cast_signed w32 (cast_unsigned w32 y))) ≡ 0 → ⊥)
    → None ≡ exact_quotient a b
with_something_left a b x y v w ne e =
    let f : cast_unsigned w32 (int_rem a b) ≡ 0 → ⊥ = rw (passed a x v, passed b y w) at e in
    inexact a b ne (other_bits w32 (int_rem a b) f)

pub quotient_done : (a b x y : ℤ) → Widened a x → Widened b y → is_zero b ≡ false
    → within_range (cast_signed w32 (cast_unsigned w32 (int_div (cast_signed w32 (cast_unsigned w32 x)) (cast_signed w32 (cast_unsigned w32 y))))) ≡ quotient a b
unfolding quotient
quotient_done a b x y v w ne = ap within_range (divided a b x y v w) ∙ by_other b _ ne

-- the quotient toward minus infinity of what was passed
floored : (a b x y q : ℤ) → Widened a x → Widened b y
    → q ≡ floor_quotient (cast_signed w32 (cast_unsigned w32 x)) (cast_signed w32 (cast_unsigned w32 y)) → q ≡ floor_quotient a b
floored a b x y q v w e = e ∙ (ap (λ z. floor_quotient z (cast_signed w32 (cast_unsigned w32 y))) (passed a x v) ∙ ap (floor_quotient a) (passed b y w))

pub down_done : (a b x y q : ℤ) → Widened a x → Widened b y → is_zero b ≡ false → FitsSigned w32 q
    → q ≡ floor_quotient (cast_signed w32 (cast_unsigned w32 x)) (cast_signed w32 (cast_unsigned w32 y))
    → within_range (cast_signed w32 (cast_unsigned w32 q)) ≡ quotient_down a b
unfolding quotient_down
down_done a b x y q v w ne f e = ap within_range (to_z-of_z w32 q f ∙ floored a b x y q v w e) ∙ by_other b _ ne

pub modulo_done : (a b x y q r : ℤ) → Widened a x → Widened b y → is_zero b ≡ false → FitsSigned w32 q → FitsSigned w32 r
    → q ≡ floor_quotient (cast_signed w32 (cast_unsigned w32 x)) (cast_signed w32 (cast_unsigned w32 y))
    → r ≡ cast_signed w32 (cast_unsigned w32 x) -ℤ (cast_signed w32 (cast_unsigned w32 y) *ℤ cast_signed w32 (cast_unsigned w32 q))
    → within_range (cast_signed w32 (cast_unsigned w32 r)) ≡ modulo a b
unfolding modulo
modulo_done a b x y q r v w ne f g e h =
    let k : r ≡ a -ℤ (b *ℤ q) = rw (passed a x v, passed b y w, to_z-of_z w32 q f) at h in
    ap within_range (to_z-of_z w32 r g ∙ (k ∙ ap (λ z. a -ℤ (b *ℤ z)) (floored a b x y q v w e))) ∙ by_other b _ ne

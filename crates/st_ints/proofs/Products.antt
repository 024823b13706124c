-- The product of two numbers within the range of SmallIntegers.
use Rattle.std.proofs.Common.{◌≡◌, ◌≤◌, arith, lit<}
use Rattle.std.specs.Prelude.{ℤ, ◌*ℤ◌, ◌-ℤ◌, unsigned_abs, FitsSigned}
use Rattle.std.specs.Int.{cast_signed, cast_unsigned, w32}
use Rattle.std.proofs.Math.Nat.{mul-le-mul}
use Rattle.std.proofs.lemmas.Int.{ints, to_z-of_z, unsigned_abs-mul, fits_signed_mul, fits_signed_from_abs}

product_bound : (b t : ℤ) → unsigned_abs b ≤ 16384 → unsigned_abs t ≤ 16384 → unsigned_abs (b *ℤ t) ≤ 268435456
product_bound b t h k = rw (unsigned_abs-mul b t) (mul-le-mul h k)

-- the product fits, and so does the difference from it
pub product_fits : (b t : ℤ) → FitsSigned w32 b → FitsSigned w32 t → unsigned_abs b ≤ 16384 → unsigned_abs t ≤ 16384
    → FitsSigned w32 (cast_signed w32 (cast_unsigned w32 b) *ℤ cast_signed w32 (cast_unsigned w32 t))
product_fits b t g h l m = rw (to_z-of_z w32 b g, to_z-of_z w32 t h) (fits_signed_mul w32 b t 16384 16384 l m (lit< tt))

pub difference_fits : (a b t : ℤ) → FitsSigned w32 a → FitsSigned w32 b → FitsSigned w32 t → unsigned_abs a ≤ 16384 → unsigned_abs b ≤ 16384 → unsigned_abs t ≤ 16384
    → FitsSigned w32 (cast_signed w32 (cast_unsigned w32 a) -ℤ cast_signed w32 (cast_unsigned w32 (cast_signed w32 (cast_unsigned w32 b) *ℤ cast_signed w32 (cast_unsigned w32 t))))
difference_fits a b t f g h k l m =
    let p : FitsSigned w32 (b *ℤ t) = fits_signed_mul w32 b t 16384 16384 l m (lit< tt) in
    let q = product_bound b t l m in
    rw (to_z-of_z w32 a f, to_z-of_z w32 b g, to_z-of_z w32 t h, to_z-of_z w32 (b *ℤ t) p) (fits_signed_from_abs w32 (a -ℤ (b *ℤ t)) (omega (arith, ints)))

-- what the code's difference of a number and a product gives
pub remainder_is : (a b t : ℤ) → FitsSigned w32 a → FitsSigned w32 b → FitsSigned w32 t → unsigned_abs a ≤ 16384 → unsigned_abs b ≤ 16384 → unsigned_abs t ≤ 16384
    → cast_signed w32 (cast_unsigned w32 (cast_signed w32 (cast_unsigned w32 a) -ℤ cast_signed w32 (cast_unsigned w32 (cast_signed w32 (cast_unsigned w32 b) *ℤ cast_signed w32 (cast_unsigned w32 t))))) ≡ a -ℤ (b *ℤ t)
remainder_is a b t f g h k l m =
    let p : FitsSigned w32 (b *ℤ t) = fits_signed_mul w32 b t 16384 16384 l m (lit< tt) in
    let q = product_bound b t l m in
    rw (to_z-of_z w32 a f, to_z-of_z w32 b g, to_z-of_z w32 t h, to_z-of_z w32 (b *ℤ t) p) (omega (arith, ints))

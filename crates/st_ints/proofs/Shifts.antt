-- Shifts beyond the bits of a SmallInteger, and powers of two.
use Rattle.std.proofs.Common.{◌≡◌, ℕ, zero, suc, ◌*◌, ◌/◌, ◌^◌, ◌<◌, ◌≤◌, Some, None, true, refl, arith}
use Rattle.std.specs.Prelude.{ℤ, pos, negsuc, neg_ℤ, ◌*ℤ◌, ◌≤ℤ◌, ◌<ℤ◌, nat_lt, unsigned_abs}
use Rattle.std.specs.Int.{int_shr}
use Rattle.std.proofs.Math.Nat.{div-eq_of_lt}
use Rattle.std.proofs.Math.Pow.{pow_mono}
use Rattle.std.proofs.lemmas.Nat.{one_shl, pow_pos}
use Rattle.std.proofs.lemmas.Int.{ints}
use Rattle.std.proofs.lemmas.Bool.Decides.{nat_tests}
use Rattle.st_model.specs.declared.integers.IntAnswer.TheVariants.{Number}
use Rattle.st_model.specs.Integers.{within_range, shifted}

pub small_power : (n : ℕ) → n < 15 → 2 ^ n ≤ 16384
small_power n h = let k : n ≤ 14 = omega arith in pow_mono k

pub far_power : (n : ℕ) → 14 < n → 32768 ≤ 2 ^ n
far_power n h = let k : 15 ≤ n = omega arith in pow_mono k

pub ruleset powers = (one_shl, small_power)

-- what is beyond the range
above : (m : ℕ) → 16383 < m → within_range (pos m) ≡ None
unfolding within_range
above m h = let e : nat_lt 16383 m ≡ true = grind (arith, nat_tests) in rw e refl

below : (m : ℕ) → 16384 < m → within_range (neg_ℤ (pos m)) ≡ None
unfolding within_range
below zero h = absurd (omega arith)
below (suc m) h = let e : nat_lt 16383 m ≡ true = grind (arith, nat_tests) in rw e refl

times_more : (m n k : ℕ) → k ≤ n → k ≤ suc m * n
times_more m n k h = grind arith

pub far_up : (a b : ℤ) → (a ≡ pos 0 → ⊥) → pos 14 <ℤ b → within_range (shifted a b) ≡ None
far_up (pos zero) b ne h = absurd (ne refl)
far_up (pos (suc m)) (pos n) ne h =
    let k : 14 < n = omega (arith, ints, h) in
    let p = times_more m (2 ^ n) 32768 (far_power n k) in
    above (suc m * 2 ^ n) (omega arith)
far_up (negsuc m) (pos n) ne h =
    let k : 14 < n = omega (arith, ints, h) in
    let p = times_more m (2 ^ n) 32768 (far_power n k) in
    below (suc m * 2 ^ n) (omega arith)
far_up (pos (suc m)) (negsuc n) ne h = absurd (omega (arith, ints, h))
far_up (negsuc m) (negsuc n) ne h = absurd (omega (arith, ints, h))

pub zero_up : (b : ℤ) → pos 0 ≤ℤ b → within_range (shifted (pos 0) b) ≡ Some (Number (pos 0))
unfolding within_range
zero_up (pos n) h = let e : 0 * 2 ^ n ≡ 0 = omega arith in rw e refl
zero_up (negsuc n) h = absurd (omega (arith, ints, h))

pub near_up : (a b : ℤ) → pos 0 ≤ℤ b → shifted a b ≡ a *ℤ pos (2 ^ unsigned_abs b)
near_up a (pos n) h = refl
near_up a (negsuc n) h = absurd (omega (arith, ints, h))

pub ruleset ups = (far_up, zero_up, near_up)

pub near_down : (a b : ℤ) → b ≤ℤ negsuc 0 → shifted a b ≡ int_shr a (unsigned_abs b)
near_down a (pos n) h = absurd (omega (arith, ints, h))
near_down (pos m) (negsuc n) h = refl
near_down (negsuc m) (negsuc n) h = refl

-- a SmallInteger by a power of two beyond it
far_quotient : (m n : ℕ) → m ≤ 16384 → negsuc n <ℤ negsuc 14 → m / 2 ^ suc n ≡ 0
far_quotient m n f h =
    let k : 14 < suc n = omega (arith, ints, h) in
    let p = far_power (suc n) k in
    div-eq_of_lt (omega arith)

pub far_down_above : (a b : ℤ) → pos 0 ≤ℤ a → unsigned_abs a ≤ 16384 → b <ℤ negsuc 14 → within_range (shifted a b) ≡ Some (Number (pos 0))
unfolding within_range
far_down_above (pos m) (negsuc n) g f h = let e = far_quotient m n (omega arith) h in rw e refl
far_down_above (pos m) (pos n) g f h = absurd (omega (arith, ints, h))
far_down_above (negsuc m) b g f h = absurd (omega (arith, ints, g))

pub far_down_below : (a b : ℤ) → a ≤ℤ negsuc 0 → unsigned_abs a ≤ 16384 → b <ℤ negsuc 14 → within_range (shifted a b) ≡ Some (Number (negsuc 0))
unfolding within_range
far_down_below (negsuc m) (negsuc n) g f h = let e = far_quotient m n (omega arith) h in rw e refl
far_down_below (negsuc m) (pos n) g f h = absurd (omega (arith, ints, h))
far_down_below (pos m) b g f h = absurd (omega (arith, ints, g))

pub ruleset downs = (near_down, far_down_above, far_down_below)

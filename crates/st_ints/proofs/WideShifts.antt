-- Shifts by more than the bits of a number, and powers of two.
use Rattle.std.proofs.Common.{◌≡◌, ◌≢◌, ℕ, zero, suc, ◌*◌, ◌^◌, ◌<◌, ◌≤◌, None, Some, false, refl, arith}
use Rattle.std.specs.Prelude.{nat_lt}
use Rattle.std.proofs.Math.Nat.{div-eq_of_lt, zero-mul}
use Rattle.std.proofs.Math.Pow.{pow_mono}
use Rattle.std.proofs.lemmas.Nat.{one_shl}
use Rattle.std.proofs.lemmas.Bool.Decides.{nat_tests}
use Rattle.st_model.specs.Integers.{within_bits, shifted_up, shifted_down}

pub far_power : (n : ℕ) → 127 < n → 2 ^ 128 ≤ 2 ^ n
far_power n h = let k : 128 ≤ n = omega arith in pow_mono k

pub none_up : (n : ℕ) → shifted_up 0 n ≡ Some 0
unfolding shifted_up within_bits
none_up n = rw (zero-mul (2 ^ n)) refl

times_more : (m n k : ℕ) → k ≤ n → k ≤ suc m * n
times_more m n k h = grind arith

above : (m : ℕ) → 2 ^ 128 ≤ m → within_bits m ≡ None
unfolding within_bits
above m h = let e : nat_lt m (2 ^ 128) ≡ false = grind (arith, nat_tests) in rw e refl

pub far_up : (a n : ℕ) → a ≢ 0 → 127 < n → shifted_up a n ≡ None
unfolding shifted_up
far_up zero n some h = absurd (some refl)
far_up (suc m) n some h = above (suc m * 2 ^ n) (times_more m (2 ^ n) (2 ^ 128) (far_power n h))

pub far_down : (a n : ℕ) → a < 2 ^ 128 → 127 < n → shifted_down a n ≡ 0
unfolding shifted_down
far_down a n small h = let p = far_power n h in div-eq_of_lt (omega (arith, p, small))

pub ruleset ups = (one_shl, none_up, far_up)

pub ruleset downs = (far_down)

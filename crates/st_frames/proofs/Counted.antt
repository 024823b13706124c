-- How many bytes a number has, and which number they have.
use Rattle.std.proofs.Common.{◌≡◌, ℕ, zero, suc, ◌+◌, ◌/◌, ◌%◌, ◌<◌, ◌≤◌, [], ◌∷◌, length, Bool, true, false, refl, ap, arith}
use Rattle.std.specs.Prelude.{nat_lt, if◌then◌else◌}
use Rattle.std.proofs.lemmas.Bool.Decides.{nat_tests}
use Rattle.st_model.specs.Primitives.{bytes_within}

pub one_byte : (more left : ℕ) (b : Bool) → nat_lt left 256 ≡ b → left < 256 → (if b then left ∷ [] else left % 256 ∷ bytes_within more (left / 256)) ≡ left ∷ []
one_byte more left true e l = refl
one_byte more left false e l = absurd (grind (arith, nat_tests))

pub more_bytes : (more left : ℕ) (b : Bool) → nat_lt left 256 ≡ b → 256 ≤ left → (if b then left ∷ [] else left % 256 ∷ bytes_within more (left / 256)) ≡ left % 256 ∷ bytes_within more (left / 256)
more_bytes more left true e l = absurd (grind (arith, nat_tests))
more_bytes more left false e l = refl

-- so many bytes stand before those of what is left, of which there are so many at most
pub record IsCounted (n count left : ℕ) : Type 0 where
  pub more : ℕ
  pub most : count + more ≡ 16
  pub counted : count + length (bytes_within (suc more) left) ≡ 1 + length (bytes_within 16 n)

pub counted_first : (n : ℕ) → IsCounted n 1 n
counted_first n = record { more = 15; most = refl; counted = refl }

pub counted_last : (n count left : ℕ) → left < 256 → IsCounted n count left → count ≡ length (bytes_within 16 n)
counted_last n count left l h =
    let a = ap length (one_byte h.more left (nat_lt left 256) refl l) in
    let b = h.counted in
    omega (arith, a, b)

next : (n count left more : ℕ) → 256 ≤ left → count < 16 → count + more ≡ 16 → count + length (bytes_within (suc more) left) ≡ 1 + length (bytes_within 16 n) → IsCounted n (count + 1) (left / 256)
next n count left zero l few most is = absurd (omega (arith, few, most))
next n count left (suc more) l few most is =
    let a = ap length (more_bytes (suc more) left (nat_lt left 256) refl l) in
    record { more = more; most = omega (arith, most); counted = omega (arith, a, is) }

pub counted_next : (n count left : ℕ) → 256 ≤ left → count < 16 → IsCounted n count left → IsCounted n (count + 1) (left / 256)
counted_next n count left l few h = next n count left h.more l few h.most h.counted

last_one : (left : ℕ) (b : Bool) → length (if b then left ∷ [] else left % 256 ∷ []) ≡ 1
last_one left true = refl
last_one left false = refl

past : (n count left more : ℕ) → 16 ≤ count → count + more ≡ 16 → count + length (bytes_within (suc more) left) ≡ 1 + length (bytes_within 16 n) → 16 ≡ length (bytes_within 16 n)
past n count left zero l most is = let a = last_one left (nat_lt left 256) in omega (arith, a, is, most)
past n count left (suc more) l most is = absurd (omega (arith, l, most))

pub counted_past : (n count left : ℕ) → 16 ≤ count → IsCounted n count left → 16 ≡ length (bytes_within 16 n)
counted_past n count left l h = past n count left h.more l h.most h.counted

pub ruleset counts = (counted_first, counted_next, counted_last, counted_past)

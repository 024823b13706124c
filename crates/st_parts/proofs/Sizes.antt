-- Numbers by their bytes.
use Rattle.std.proofs.Common.{◌≡◌, ℕ, zero, suc, ◌+◌, ◌-◌, ◌*◌, ◌<◌, ◌≤◌, List, [], ◌∷◌, length, drop, Option, Some, None, Bool, true, false, refl, sym, ap, ◌∙◌, arith}
use Rattle.std.specs.Prelude.{get_or, nat_lt, if◌then◌else◌, ◌^◌}
use Rattle.std.proofs.lemmas.Bool.Decides.{nat_tests}
use Rattle.st_parts.specs.Numbers.{number_of, number_within}

-- a byte below the others
dropped : (bs : List ℕ) (i : ℕ) (d : ℕ) → i < length bs → number_of (drop i bs) ≡ get_or bs i d + 256 * number_of (drop (suc i) bs)
dropped [] i d l = absurd (omega (arith, l))
dropped (b ∷ bs) zero d l = refl
dropped (b ∷ bs) (suc i) d l = dropped bs i d (omega (arith, l))

past : (bs : List ℕ) (i : ℕ) → length bs ≤ i → number_of (drop i bs) ≡ 0
past [] zero l = refl
past [] (suc i) l = refl
past (b ∷ bs) zero l = absurd (omega (arith, l))
past (b ∷ bs) (suc i) l = past bs i (omega (arith, l))

-- a number is no less than that of its high bytes
above : (bs : List ℕ) (i : ℕ) → number_of (drop i bs) ≤ number_of bs
above bs zero = omega arith
above [] (suc i) = omega arith
above (b ∷ bs) (suc i) = let h = above bs i in omega (arith, h)

within : (n k : ℕ) (b : Bool) → nat_lt n k ≡ b → n < k → (if b then Some n else None) ≡ Some n
within n k true e l = refl
within n k false e l = absurd (grind (arith, nat_tests, e, l))

without : (n k : ℕ) (b : Bool) → nat_lt n k ≡ b → k ≤ n → None ≡ (if b then Some n else None)
without n k true e l = absurd (grind (arith, nat_tests, e, l))
without n k false e l = refl

module _ (bs : List ℕ) where
  pub size_begin : (left : ℕ) → left ≡ length bs → 0 ≡ number_of (drop left bs)
  size_begin left e = sym (past bs left (omega (arith, e)))

  pub size_turn : (left size d : ℕ) → left < length bs → size ≡ number_of (drop (left + 1) bs) → size * 256 + get_or bs left d ≡ number_of (drop left bs)
  size_turn left size d l e =
      let n : left + 1 ≡ suc left = omega arith in
      let whole = dropped bs left d l in
      let high : size ≡ number_of (drop (suc left) bs) = e ∙ ap (λ k. number_of (drop k bs)) n in
      omega (arith, whole, high)

  pub size_end : (left size : ℕ) → left ≤ 0 → size ≡ number_of (drop left bs) → size < 2 ^ 128 → Some size ≡ number_within bs
  size_end zero size l e m = ap Some e ∙ sym (within (number_of bs) (2 ^ 128) (nat_lt (number_of bs) (2 ^ 128)) refl (subst_below e m))
    where
      subst_below : size ≡ number_of bs → size < 2 ^ 128 → number_of bs < 2 ^ 128
      subst_below q h = omega (arith, q, h)
  size_end (suc left) size l e m = absurd (omega (arith, l))

  pub size_full : (left size : ℕ) → 0 < left → left ≤ length bs → size ≡ number_of (drop left bs) → 1329227995784915872903807060280344576 ≤ size → None ≡ number_within bs
  size_full zero size p l e m = absurd (omega (arith, p))
  size_full (suc left) size p l e m =
      let whole = dropped bs left 0 (omega (arith, l)) in
      let high = above bs left in
      let most : 2 ^ 128 ≡ 256 * 1329227995784915872903807060280344576 = refl in
      without (number_of bs) (2 ^ 128) (nat_lt (number_of bs) (2 ^ 128)) refl (omega (arith, whole, high, e, m, most))

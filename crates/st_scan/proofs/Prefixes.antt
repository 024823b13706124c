-- The bytes that pass a test from the front on.
use Rattle.std.proofs.Common.{◌≡◌, ℕ, suc, ◌+◌, ◌-◌, ◌<◌, Bool, true, false, List, [], ◌∷◌, ◌++◌, length, take, drop, refl, arith, inl, inr}
use Rattle.std.specs.List.{list_all, prefix_len}
use Rattle.std.proofs.lemmas.Bool.{cases_Bool, and_parts}
use Rattle.st_scan.specs.Pieces.{begins}

module _ (p : ℕ → Bool) where
  pub all-prefix : (bs : List ℕ) → list_all p (take (prefix_len p bs) bs) ≡ true
  all-prefix [] = refl
  all-prefix (b ∷ bs) = elim (cases_Bool (p b)) [
    | inl t ↦
        let more : 1 + prefix_len p bs ≡ suc (prefix_len p bs) = omega arith in
        rw (t, more, t) (all-prefix bs)
    | inr f ↦ rw f refl
  ]

  pub stops-prefix : (bs : List ℕ) → begins p (drop (prefix_len p bs) bs) ≡ false
  stops-prefix [] = refl
  stops-prefix (b ∷ bs) = elim (cases_Bool (p b)) [
    | inl t ↦
        let more : 1 + prefix_len p bs ≡ suc (prefix_len p bs) = omega arith in
        rw (t, more) (stops-prefix bs)
    | inr f ↦ rw (f, f) refl
  ]

  pub prefix-all : (bs rest : List ℕ) → list_all p bs ≡ true → begins p rest ≡ false → prefix_len p (bs ++ rest) ≡ length bs
  prefix-all [] [] e f = refl
  prefix-all [] (c ∷ rest) e f = rw f refl
  prefix-all (b ∷ bs) rest e f =
      let parts = and_parts (p b) (list_all p bs) e in
      rw (parts.0, prefix-all bs rest parts.1 f) (omega arith)

  pub some-prefix : (bs : List ℕ) → begins p bs ≡ true → 0 < prefix_len p bs
  some-prefix [] e = absurd cc
  some-prefix (b ∷ bs) e = rw e (omega arith)

-- a first byte that passes is the first of a front
pub begins-take : (p : ℕ → Bool) (n : ℕ) (bs : List ℕ) → 0 < n → begins p bs ≡ true → begins p (take n bs) ≡ true
begins-take p n [] pos e = absurd cc
begins-take p n (b ∷ bs) pos e = let one : n ≡ suc (n - 1) = omega arith in rw one e

pub begins-append : (p : ℕ → Bool) (bs rest : List ℕ) → begins p bs ≡ true → begins p (bs ++ rest) ≡ true
begins-append p [] rest e = absurd cc
begins-append p (b ∷ bs) rest e = e

-- A bit that is set in a list of words.
use Rattle.std.proofs.Common.{◌≡◌, ◌≢◌, ℕ, ◌/◌, ◌%◌, ◌<◌, Bool, true, false, List, length, get_or, set, refl, sym, ap, ◌∙◌, arith, zero, suc, [], ◌∷◌}
use Rattle.std.specs.Prelude.{◌==◌}
use Rattle.std.specs.Int.{bit_at}
use Rattle.std.proofs.lemmas.List.{get_or-set_same, get_or-set_other}

-- one bit of one word
pub marked_same : (ws : List ℕ) (k v b : ℕ) → k / 64 < length ws → bit_at v (k % 64) ≡ b → bit_at (get_or (set ws (k / 64) v) (k / 64) 0) (k % 64) ≡ b
marked_same ws k v b within e = ap (λ w. bit_at w (k % 64)) (get_or-set_same ws (k / 64) v 0 within) ∙ e

pub marked_other : (ws : List ℕ) (k v i : ℕ) → k / 64 < length ws → i ≢ k → ((r : ℕ) → r < 64 → r ≢ k % 64 → bit_at v r ≡ bit_at (get_or ws (k / 64) 0) r) → bit_at (get_or (set ws (k / 64) v) (i / 64) 0) (i % 64) ≡ bit_at (get_or ws (i / 64) 0) (i % 64)
marked_other ws k v i within ne same = by_word (i / 64 == k / 64) refl
  where
    by_word : (b : Bool) → (i / 64 == k / 64) ≡ b → bit_at (get_or (set ws (k / 64) v) (i / 64) 0) (i % 64) ≡ bit_at (get_or ws (i / 64) 0) (i % 64)
    by_word true q =
        let at : i / 64 ≡ k / 64 = grind (arith, q) in
        let low : i % 64 ≢ k % 64 = λ z. ne (omega (arith, at, z)) in
        ap (λ j. bit_at (get_or (set ws (k / 64) v) j 0) (i % 64)) at
        ∙ ap (λ w. bit_at w (i % 64)) (get_or-set_same ws (k / 64) v 0 within)
        ∙ same (i % 64) (omega arith) low ∙ ap (λ j. bit_at (get_or ws j 0) (i % 64)) (sym at)
    by_word false q = let other : i / 64 ≢ k / 64 = λ z. grind (arith, q, z) in ap (λ w. bit_at w (i % 64)) (get_or-set_other ws (k / 64) (i / 64) v 0 other)

-- within the list the default does not matter
pub read_any : {A : Type 0} (xs : List A) (k : ℕ) (d e : A) → k < length xs → get_or xs k d ≡ get_or xs k e
read_any [] k d e h = absurd (omega (arith, h))
read_any (x ∷ xs) zero d e h = refl
read_any (x ∷ xs) (suc k) d e h = read_any xs k d e (omega arith)

-- A run that is filled cell by cell.
use Rattle.std.proofs.Common.{◌≡◌, ℕ, ◌+◌, ◌-◌, ◌<◌, ◌≤◌, zero, suc, List, [], ◌∷◌, length, take, drop, set, replicate, refl, ap, ◌∙◌, arith}
use Rattle.std.proofs.lemmas.List.{drop-set-add, length-drop}

filled : {A : Type 0} (xs : List A) (n : ℕ) (v : A) → n < length xs → take n xs ≡ replicate n v → take (suc n) (set xs n v) ≡ replicate (suc n) v
filled [] n v l h = absurd (omega (arith, l))
filled (x ∷ xs) zero v l h = refl
filled (x ∷ xs) (suc n) v l h =
    let here : x ≡ v = cc in
    let rest : take n xs ≡ replicate n v = cc in
    λ i. here i ∷ filled xs n v (omega (arith, l)) rest i

-- one cell more of the run that begins at a place
pub run_filled : {A : Type 0} (xs : List A) (at i : ℕ) (v : A) → at ≤ i → i < length xs → take (i - at) (drop at xs) ≡ replicate (i - at) v → take (i + 1 - at) (drop at (set xs i v)) ≡ replicate (i + 1 - at) v
run_filled xs at i v from within h =
    let e : i ≡ at + (i - at) = omega arith in
    let n : i + 1 - at ≡ suc (i - at) = omega arith in
    let inside : i - at < length (drop at xs) = omega (arith, length-drop at xs) in
    let moved = ap (λ k. drop at (set xs k v)) e ∙ drop-set-add at xs (i - at) v in
    rw (n, moved) (filled (drop at xs) (i - at) v inside h)

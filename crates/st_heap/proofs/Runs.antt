-- Lists of the values of a function.
use Rattle.std.proofs.Common.{◌≡◌, ◌≢◌, ℕ, ◌<◌, Bool, true, false, length, get_or, set, refl, sym, ap, ◌∙◌, arith, length-set}
use Rattle.std.specs.Prelude.{◌==◌}
use Rattle.std.proofs.lemmas.List.{get_or-set_same, get_or-set_other}
use Rattle.std.proofs.lemmas.List.FromFn.{length-map-range_with_len, get_or-map-range_with_len, fill_by_all}
use Rattle.st_heap.specs.inside.Stored.{run}

pub length-run : (f : ℕ → ℕ) (n : ℕ) → length (run f n) ≡ n
length-run f n = length-map-range_with_len f 0 n

pub get_or-run : (f : ℕ → ℕ) (n i d : ℕ) → i < n → get_or (run f n) i d ≡ f i
get_or-run f n i d l = get_or-map-range_with_len f 0 n i i d l (omega arith)

-- functions that agree below n
pub run_same : (f g : ℕ → ℕ) (n : ℕ) → ((i : ℕ) → i < n → f i ≡ g i) → run f n ≡ run g n
run_same f g n h = fill_by_all g (run f n) n 0 (length-run f n) (λ k l. get_or-run f n k 0 l ∙ h k l)

-- a function with another value at one place
pub run_set : (f g : ℕ → ℕ) (n i w : ℕ) → i < n → g i ≡ w → ((j : ℕ) → j < n → j ≢ i → g j ≡ f j) → run g n ≡ set (run f n) i w
run_set f g n i w within here others = sym (fill_by_all g (set (run f n) i w) n 0 (length-set (run f n) i w ∙ length-run f n) (λ k l. at k l (k == i) refl))
  where
    at : (k : ℕ) → k < n → (b : Bool) → (k == i) ≡ b → get_or (set (run f n) i w) k 0 ≡ g k
    at k l true m =
        let z : k ≡ i = grind (arith, m) in
        let long = length-run f n in
        ap (λ j. get_or (set (run f n) i w) j 0) z ∙ get_or-set_same (run f n) i w 0 (omega (arith, within, long)) ∙ sym here ∙ ap g (sym z)
    at k l false m =
        let ne : k ≢ i = λ z. grind (arith, m, z) in
        get_or-set_other (run f n) i k w 0 ne ∙ get_or-run f n k 0 l ∙ sym (others k l ne)

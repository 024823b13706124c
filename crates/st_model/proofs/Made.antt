-- Lists that a function gives.
use Rattle.std.proofs.Common.{◌≡◌, ℕ, zero, suc, ◌<◌, List, [], ◌∷◌, length, get_or, refl, ap, ◌∙◌, arith}
use Rattle.st_model.specs.Lists.{made}

pub length-made : {X : Type 0} (f : ℕ → X) (n : ℕ) → length (made f n) ≡ n
length-made f zero = refl
length-made f (suc n) = ap (λ (k : ℕ). suc k) (length-made (λ k. f (suc k)) n)

pub get_or-made : {X : Type 0} (f : ℕ → X) (n k : ℕ) (d : X) → k < n → get_or (made f n) k d ≡ f k
get_or-made f zero k d below = absurd (omega arith)
get_or-made f (suc n) zero d below = refl
get_or-made f (suc n) (suc k) d below = get_or-made (λ j. f (suc j)) n k d (omega arith)

-- a list each of whose elements the function gives
pub made_from : {X : Type 0} (f : ℕ → X) (xs : List X) (n : ℕ) (d : X) → length xs ≡ n → ((k : ℕ) → k < n → get_or xs k d ≡ f k) → xs ≡ made f n
made_from f [] zero d e each = refl
made_from f [] (suc n) d e each = absurd (omega arith)
made_from f (x ∷ xs) zero d e each = absurd (omega arith)
made_from {X = X} f (x ∷ xs) (suc n) d e each =
    ap (λ (y : X). y ∷ xs) (each 0 (omega arith))
    ∙ ap (λ (ys : List X). f 0 ∷ ys) (made_from (λ k. f (suc k)) xs n d (omega arith) (λ k below. each (suc k) (omega arith)))

-- Lists that a function gives.
use Rattle.std.specs.Prelude.{ℕ, zero, suc, List, [], ◌∷◌}

-- f 0, f 1 and so on, n of them
abbrev pub made : {X : Type 0} → (ℕ → X) → ℕ → List X
made f zero = []
made f (suc n) = f 0 ∷ made (λ k. f (suc k)) n

-- Lists of few items.
use Rattle.std.proofs.Common.{◌≡◌, ◌<◌, List, [], ◌∷◌, length, refl, arith}

pub no_items : {A : Type 0} (xs : List A) → length xs < 1 → xs ≡ []
no_items [] h = refl
no_items (x ∷ xs) h = absurd (omega arith)

-- The place of the first that passes, where one more stands behind.
use Rattle.std.proofs.Common.{◌≡◌, ℕ, ◌+◌, Bool, true, false, List, [], ◌∷◌, ◌++◌, length, Option, Some, None, refl, sym, ap, ◌∙◌, cond, arith}
use Rattle.std.specs.Prelude.{position}
use Rattle.std.specs.List.{position_from}
use Rattle.std.proofs.lemmas.Iterator.Adapters.{position_from-zero}
use Rattle.st_emit.specs.Names.{or_else}

module _ {X : Type 0} (p : X → Bool) where
  pub place_from : (xs : List X) → position p xs ≡ position_from p 0 xs
  place_from xs = position_from-zero p xs

  none_from : ((x : X) → p x ≡ false) → (i : ℕ) (xs : List X) → position_from p i xs ≡ None
  none_from none i [] = refl
  none_from none i (x ∷ xs) = ap (λ b. cond b (Some i) (position_from p (i + 1) xs)) (none x) ∙ none_from none (i + 1) xs

  -- what none passes
  pub no_place : ((x : X) → p x ≡ false) → (xs : List X) → None ≡ position p xs
  no_place none xs = sym (place_from xs ∙ none_from none 0 xs)

  module _ (y : X) where
    from_more : (i : ℕ) (xs : List X) → position_from p i (xs ++ y ∷ []) ≡ or_else (position_from p i xs) (cond (p y) (Some (i + length xs)) None)
    from_more i [] = let e : i ≡ i + 0 = omega arith in ap (λ (j : ℕ). cond (p y) (Some j) None) e
    from_more i (x ∷ xs) =
        by (p x) (let e : i + 1 + length xs ≡ i + length (x ∷ xs) = omega arith in from_more (i + 1) xs ∙ ap (λ (j : ℕ). or_else (position_from p (i + 1) xs) (cond (p y) (Some j) None)) e)
      where
        rest : Option ℕ
        rest = cond (p y) (Some (i + length (x ∷ xs))) None

        by : (b : Bool) → position_from p (i + 1) (xs ++ y ∷ []) ≡ or_else (position_from p (i + 1) xs) rest
            → cond b (Some i) (position_from p (i + 1) (xs ++ y ∷ [])) ≡ or_else (cond b (Some i) (position_from p (i + 1) xs)) rest
        by true h = refl
        by false h = h

    -- one more stands behind
    pub place_more : (xs : List X) → position p (xs ++ y ∷ []) ≡ or_else (position p xs) (cond (p y) (Some (length xs)) None)
    place_more xs =
        place_from (xs ++ y ∷ [])
        ∙ from_more 0 xs
        ∙ (let e : 0 + length xs ≡ length xs = omega arith in λ t. or_else (sym (place_from xs) t) (cond (p y) (Some (e t)) None))

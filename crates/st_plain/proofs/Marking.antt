-- What is marked after a name, or a list of them, was marked.
use Rattle.std.proofs.Common.{◌≡◌, ◌≢◌, ℕ, ◌+◌, ◌<◌, ◌/◌, List, [], ◌∷◌, ◌++◌, Bool, true, false, length, map, take, set, refl, sym, ap, ◌∙◌, subst, ◌⊎◌, inl, inr, get_or-set_same, get_or-set_other}
use Rattle.std.specs.Prelude.{◌==◌, slice_index_or}
use Rattle.std.proofs.lemmas.Bool.Decides.{eqb_tells}
use Rattle.std.proofs.lemmas.List.{map_more}
use Rattle.st_model.specs.declared.oop.Oop.{Oop}
use Rattle.st_model.specs.Values.{Value, value, value_of, is_small}
use Rattle.st_model.specs.Settled.{or, names, any_names, is_marked}
use Rattle.st_model.proofs.Pointers.{names-small, names-even}

pub marked_small : (marks : List Bool) (v : Value) (n : ℕ) → is_small v ≡ true → is_marked marks n ≡ or (names v n) (is_marked marks n)
marked_small marks v n h = ap (λ b. or b (is_marked marks n)) (sym (names-small v n h))

marked_if : (marks : List Bool) (k n : ℕ) → k < length marks → ((n == k) ≡ true) × (n ≡ k) ⊎ ((n == k) ≡ false) × (n ≢ k) → is_marked (set marks k true) n ≡ or (n == k) (is_marked marks n)
marked_if marks k n h (inl q) = let e = q.0 in let s = q.1 in rw e (subst (λ x. is_marked (set marks k true) x ≡ true) (sym s) (get_or-set_same marks k true false h))
marked_if marks k n h (inr q) = let e = q.0 in rw e (get_or-set_other marks k n true false q.1)

pub marked_name : (marks : List Bool) (w n : ℕ) → is_small (value_of w) ≡ false → w / 2 < length marks → is_marked (set marks (w / 2) true) n ≡ or (names (value_of w) n) (is_marked marks n)
marked_name marks w n h l = marked_if marks (w / 2) n l (eqb_tells n (w / 2)) ∙ ap (λ b. or b (is_marked marks n)) (sym (names-even w n h))

pub or_turn : (a b c : Bool) → or a (or b c) ≡ or (or b a) c
or_turn true true c = refl
or_turn true false c = refl
or_turn false true c = refl
or_turn false false c = refl

pub or_step : (a b c : Bool) → or a (or b c) ≡ or (or a b) c
or_step true b c = refl
or_step false b c = refl

pub any_names-append : (xs ys : List Value) (n : ℕ) → any_names (xs ++ ys) n ≡ or (any_names xs n) (any_names ys n)
any_names-append [] ys n = refl
any_names-append (x ∷ xs) ys n = ap (or (names x n)) (any_names-append xs ys n) ∙ or_step (names x n) (any_names xs n) (any_names ys n)

pub or_false : (b : Bool) → or b false ≡ b
or_false true = refl
or_false false = refl

-- one word more
pub any_names-more : (xs : List Oop) (k n : ℕ) (d : Oop) → k < length xs
    → any_names (map value (take (k + 1) xs)) n ≡ or (any_names (map value (take k xs)) n) (names (value (slice_index_or xs k d)) n)
any_names-more xs k n d h = ap (λ vs. any_names vs n) (map_more value xs k d h) ∙ any_names-append (map value (take k xs)) _ n ∙ ap (or (any_names (map value (take k xs)) n)) (or_false (names (value (slice_index_or xs k d)) n))

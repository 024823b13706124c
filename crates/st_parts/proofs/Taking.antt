-- Lists that are read from the front, one after the other.
use Rattle.std.proofs.Common.{◌≡◌, ℕ, zero, suc, ◌+◌, ◌<◌, ◌≤◌, List, [], ◌∷◌, ◌++◌, length, take, drop, Option, Some, refl, sym, ap, ◌∙◌, arith}
use Rattle.std.specs.Prelude.{slice_get, ◌*◌, ◌/◌, ◌%◌, ◌==◌, Bool, true, false, if◌then◌else◌}
use Rattle.std.proofs.lemmas.Bool.Decides.{nat_tests}
use Rattle.std.proofs.lemmas.List.{take_all, map-append}
use Rattle.st_model.specs.declared.oop.Oop.{Oop}
use Rattle.st_model.specs.Values.{Value, Small, Ref, value, value_of}
use Rattle.st_scope.specs.inside.Meanings.{values}
use Rattle.st_parts.specs.Keys.{word_of}

taken_more : {A : Type 0} (us : List A) (i : ℕ) (b : A) → slice_get us i ≡ Some b → take i us ++ b ∷ [] ≡ take (suc i) us
taken_more [] i b e = cc
taken_more (u ∷ us) zero b e = let q : u ≡ b = cc in ap (λ x. x ∷ []) (sym q)
taken_more (u ∷ us) (suc i) b e = ap (λ xs. u ∷ xs) (taken_more us i b e)

-- one more
pub next_taken : {A : Type 0} (us xs : List A) (i : ℕ) (b : A) → slice_get us i ≡ Some b → xs ≡ take i us → xs ++ b ∷ [] ≡ take (i + 1) us
next_taken us xs i b e same = let n : suc i ≡ i + 1 = omega arith in ap (λ ys. ys ++ b ∷ []) same ∙ (taken_more us i b e ∙ ap (λ k. take k us) n)

pub all_taken : {A : Type 0} (us xs : List A) (i : ℕ) → length us ≤ i → xs ≡ take i us → xs ≡ us
all_taken us xs i l same = same ∙ take_all i us l

-- the same of what pointers mean
pub next_value : (us : List Value) (xs : List Oop) (i : ℕ) (o : Oop) → slice_get us i ≡ Some (value o) → values xs ≡ take i us → values (xs ++ o ∷ []) ≡ take (i + 1) us
next_value us xs i o e same = map-append value xs (o ∷ []) ∙ next_taken us (values xs) i (value o) e same

-- WORDS

word_by : (w : ℕ) (b : Bool) → (w % 2 == 1) ≡ b → word_of (if b then Small (w / 2) else Ref (w / 2)) ≡ w
word_by w true e = grind (arith, nat_tests)
word_by w false e = grind (arith, nat_tests)

-- the word of what a pointer means
pub word_is : (w : ℕ) → word_of (value_of w) ≡ w
unfolding value_of
word_is w = word_by w (w % 2 == 1) refl

-- LITERALS

pub behind_values : (os : List Oop) → values (drop 1 os) ≡ drop 1 (values os)
behind_values [] = refl
behind_values (o ∷ os) = refl

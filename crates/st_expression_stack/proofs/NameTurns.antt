-- The turns of the loops that collect what variables are called.
use Rattle.std.proofs.Common.{◌≡◌, ◌<◌, ℕ, zero, suc, ◌+◌, ◌-◌, ◌^◌, ◌≤◌, Bool, true, false, List, [], ◌∷◌, map, refl, ap, ap₂, ◌∙◌, arith}
use Rattle.std.proofs.lemmas.Bool.Decides.{nat_tests}
use Rattle.std.specs.Global.{Vec}
use Rattle.std.specs.Prelude.{if◌then◌else◌, nat_lt, ◌&&◌}
use Rattle.std.specs.Fmt.{decimal}
use Rattle.st_emit.specs.Names.{NamesView, variable_named}
use Rattle.st_emit.specs.inside.NameViews.{texts_view, shared_view}
use Rattle.st_emit.specs.declared.literal.Literal.{Literal}
use Rattle.st_emit.specs.Literals.{LiteralView}
use Rattle.st_emit.specs.inside.Views.{literal_view, literals_view}
use Rattle.st_model.specs.declared.oop.Oop.{Oop}
use Rattle.st_expression_stack.specs.Names.{texts_of, zeros, numeral, numbered, first_free, own_number, is_usable, is_value, names_value, shared_text}

pub texts_map : (ts : List (Vec ℕ)) → texts_view ts ≡ map (λ (t : Vec ℕ). t.items) ts
texts_map [] = refl
texts_map (t ∷ ts) = ap (λ (x : List (List ℕ)). t.items ∷ x) (texts_map ts)

-- OWN NAMES

pub numeral_small : (k : ℕ) → k + 1 < 2 ^ 64 → numeral k ≡ decimal (k + 1)
numeral_small k h = let e : nat_lt k 18446744073709551615 ≡ true = grind (arith, nat_tests, h) in ap (λ (b : Bool). if b then decimal (k + 1) else zeros k) e

module _ (f : List ℕ → Bool) where
  free_at : (tries n : ℕ) (b : Bool) → 0 < tries → f (numbered n) ≡ b → first_free f tries n ≡ (if b then first_free f (tries - 1) (n + 1) else n)
  free_at zero n b l e = absurd (omega (arith, l))
  free_at (suc tries) n b l e =
      let less : tries ≡ suc tries - 1 = omega arith in
      ap₂ (λ (c : Bool) (t : ℕ). if c then first_free f t (n + 1) else n) e less

  pub free_begin : (count n : ℕ) → first_free f (count - 0) n ≡ first_free f count n
  free_begin count n = let same : count - 0 ≡ count = omega arith in ap (λ (t : ℕ). first_free f t n) same

  pub free_here : (count i n : ℕ) → i < count → f (numbered n) ≡ false → first_free f (count - i) n ≡ n
  free_here count i n l e = free_at (count - i) n false (omega (arith, l)) e

  pub free_next : (count i n : ℕ) → i < count → f (numbered n) ≡ true → first_free f (count - i) n ≡ first_free f (count - (i + 1)) (n + 1)
  free_next count i n l e =
      let less : (count - i) - 1 ≡ count - (i + 1) = omega (arith, l) in
      free_at (count - i) n true (omega (arith, l)) e ∙ ap (λ (t : ℕ). first_free f t (n + 1)) less

  pub free_end : (count i n : ℕ) → count ≤ i → first_free f (count - i) n ≡ n
  free_end count i n l = let none : count - i ≡ 0 = omega (arith, l) in ap (λ (t : ℕ). first_free f t n) none

  pub own_next : (count i : ℕ) → own_number f count (i + 1) ≡ first_free f count (own_number f count i + 1)
  own_next count i = let more : i + 1 ≡ suc i = omega arith in ap (own_number f count) more

-- SHARED NAMES

pub usable_value : (names : NamesView) (text : List ℕ) (a : ℕ) → is_usable text ≡ true → names_value names text a ≡ is_value (variable_named names [] text) a
usable_value names text a e = ap (λ (b : Bool). b && is_value (variable_named names [] text) a) e

pub unusable_value : (names : NamesView) (text : List ℕ) (a : ℕ) → is_usable text ≡ false → names_value names text a ≡ false
unusable_value names text a e = ap (λ (b : Bool). b && is_value (variable_named names [] text) a) e

pub ruleset values = (usable_value, unusable_value)

pub shared_here : (names : NamesView) (a : ℕ) (t : List ℕ) (ts : List (List ℕ)) → names_value names t a ≡ true → shared_text names a (t ∷ ts) ≡ t
shared_here names a t ts e = ap (λ (b : Bool). if b then t else shared_text names a ts) e

pub shared_turn : (names : NamesView) (a : ℕ) (t : List ℕ) (ts : List (List ℕ)) → names_value names t a ≡ false → shared_text names a (t ∷ ts) ≡ shared_text names a ts
shared_turn names a t ts e = ap (λ (b : Bool). if b then t else shared_text names a ts) e

-- LISTS OF TEXTS

pub texts_again : (f : List ℕ → List ℕ) (ts : List (Vec ℕ)) → map (λ (t : Vec ℕ). f t.items) ts ≡ map f (texts_view ts)
texts_again f [] = refl
texts_again f (t ∷ ts) = ap (λ (x : List (List ℕ)). f t.items ∷ x) (texts_again f ts)

pub literals_again : (f : LiteralView → List ℕ) (ls : List Literal) → map (λ (l : Literal). f (literal_view l)) ls ≡ map f (literals_view ls)
literals_again f [] = refl
literals_again f (l ∷ ls) = ap (λ (x : List (List ℕ)). f (literal_view l) ∷ x) (literals_again f ls)

pub shared_again : (ss : List (Vec ℕ × Oop)) → map (λ (s : Vec ℕ × Oop). s.0.items) ss ≡ texts_of (shared_view ss)
shared_again [] = refl
shared_again (s ∷ ss) = ap (λ (x : List (List ℕ)). s.0.items ∷ x) (shared_again ss)

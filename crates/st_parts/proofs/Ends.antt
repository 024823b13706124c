-- The literals that stand last.
use Rattle.std.proofs.Common.{◌≡◌, ℕ, zero, suc, ◌+◌, ◌-◌, ◌<◌, ◌≤◌, Bool, true, false, List, [], ◌∷◌, ◌++◌, length, take, get_or, Option, Some, None, refl, sym, ap, ap₂, ◌∙◌, arith}
use Rattle.std.specs.Prelude.{◌&&◌, nat_le, nat_lt, option_map, if◌then◌else◌}
use Rattle.std.specs.Global.{Vec}
use Rattle.std.proofs.lemmas.Bool.Decides.{nat_tests}
use Rattle.std.proofs.lemmas.List.{length-map, map-append, append_assoc}
use Rattle.st_model.specs.declared.oop.Oop.{Oop}
use Rattle.st_model.specs.Values.{Value, value, is_small}
use Rattle.st_model.specs.Objects.{nil}
use Rattle.st_model.specs.View.{View}
use Rattle.st_emit.specs.declared.literal.Literal.{Literal}
use Rattle.st_emit.specs.declared.literal.Literal.TheVariants.{Owner}
use Rattle.st_emit.specs.Literals.{LiteralView, owner}
use Rattle.st_emit.specs.inside.Views.{literal_view, literals_view}
use Rattle.st_emit.specs.Names.{NamesView}
use Rattle.st_scope.specs.inside.Meanings.{values}
use Rattle.st_parts.specs.Parts.{Place, from_end, is_owner, ends_owned, ends_extended, literals_read, read_before, owned_read, extended_read}
use Rattle.st_parts.specs.Numbers.{small_number}
use Rattle.st_parts.specs.inside.Readings.{literals_if}

got : (vs : List Oop) (i : ℕ) (d : Oop) → i < length vs → get_or (values vs) i nil ≡ value (get_or vs i d)
got [] i d l = absurd (omega (arith, l))
got (x ∷ xs) zero d l = refl
got (x ∷ xs) (suc i) d l = got xs i d (omega (arith, l))

-- the pointer that stands so far from the end
pub end_is : (vs : List Oop) (n i : ℕ) (d : Oop) → i + n ≡ length vs → 1 ≤ n → from_end n (values vs) ≡ value (get_or vs i d)
end_is vs n i d e l =
    let k = length-map vs value in
    let place : length (values vs) - n ≡ i = omega (arith, e, k) in
    ap (λ j. get_or (values vs) j nil) place ∙ got vs i d (omega (arith, e, l))

at_least : (n k : ℕ) → n ≤ k → nat_le n k ≡ true
at_least n k l = grind (arith, nat_tests, l)

below : (n k : ℕ) → k < n → nat_le n k ≡ false
below n k l = grind (arith, nat_tests, l)

module _ (v : View) (at : Place) (vs : List Oop) where
  many : length (values vs) ≡ length vs
  many = length-map vs value

  pub owned-none : length vs < 1 → false ≡ ends_owned v at (values vs)
  owned-none l = sym (ap (λ (b : Bool). b && is_owner v at (from_end 1 (values vs))) (below 1 (length (values vs)) (let k = many in omega (arith, k, l))))

  pub owned-last : (b : Bool) (x : Value) → 1 ≤ length vs → x ≡ from_end 1 (values vs) → b ≡ is_owner v at x → b ≡ ends_owned v at (values vs)
  owned-last b x l e f =
      f ∙ (ap (is_owner v at) e ∙ sym (ap (λ (c : Bool). c && is_owner v at (from_end 1 (values vs))) (at_least 1 (length (values vs)) (let k = many in omega (arith, k, l)))))

  pub extended-none : length vs < 2 → false ≡ ends_extended v at (values vs)
  extended-none l = sym (ap (λ (b : Bool). b && (is_small (from_end 2 (values vs)) && is_owner v at (from_end 1 (values vs)))) (below 2 (length (values vs)) (let k = many in omega (arith, k, l))))

  extended-long : 2 ≤ length vs → ends_extended v at (values vs) ≡ (is_small (from_end 2 (values vs)) && is_owner v at (from_end 1 (values vs)))
  extended-long l = ap (λ (b : Bool). b && (is_small (from_end 2 (values vs)) && is_owner v at (from_end 1 (values vs)))) (at_least 2 (length (values vs)) (let k = many in omega (arith, k, l)))

  pub extended-other : 2 ≤ length vs → is_small (from_end 2 (values vs)) ≡ false → false ≡ ends_extended v at (values vs)
  extended-other l e = sym (extended-long l ∙ ap (λ (b : Bool). b && is_owner v at (from_end 1 (values vs))) e)

  pub extended-last : (b : Bool) (x : Value) → 2 ≤ length vs → is_small (from_end 2 (values vs)) ≡ true → x ≡ from_end 1 (values vs) → b ≡ is_owner v at x → b ≡ ends_extended v at (values vs)
  extended-last b x l s e f = f ∙ (ap (is_owner v at) e ∙ sym (extended-long l ∙ ap (λ (c : Bool). c && is_owner v at (from_end 1 (values vs))) s))

-- WHAT STANDS BEFORE THEM

before : (vs : List Oop) (n : ℕ) → values (take n vs) ≡ take n (values vs)
before vs zero = refl
before [] (suc n) = refl
before (x ∷ xs) (suc n) = ap (λ ys. value x ∷ ys) (before xs n)

module _ (names : NamesView) (v : View) (at : Place) (vs : List Oop) (n : ℕ) (last : List LiteralView) where
  pub before-none : (ws : List Oop) → ws ≡ take (length vs - n) vs → literals_if None ≡ literals_read names v.objects (values ws) → None ≡ read_before names v at n last (values vs)
  before-none ws e h =
      ap (option_map (λ ls. ls ++ last)) (h ∙ ap (literals_read names v.objects) (ap values e ∙ before vs (length vs - n) ∙ ap (λ k. take (k - n) (values vs)) (sym (length-map vs value))))

  pub before-some : (ws : List Oop) (list : Vec Literal) (all : List Literal) → ws ≡ take (length vs - n) vs → literals_if (Some list) ≡ literals_read names v.objects (values ws) → literals_view all ≡ literals_view list.items ++ last
      → Some (literals_view all) ≡ read_before names v at n last (values vs)
  before-some ws list all e h q =
      ap Some q
      ∙ ap (option_map (λ ls. ls ++ last)) (h ∙ ap (literals_read names v.objects) (ap values e ∙ before vs (length vs - n) ∙ ap (λ k. take (k - n) (values vs)) (sym (length-map vs value))))

-- ALL OF THEM

module _ (names : NamesView) (v : View) (at : Place) (vs : List Value) where
  pub owned-read : ends_owned v at vs ≡ true → (r : Option (List LiteralView)) → r ≡ read_before names v at 1 (owner ∷ []) vs → r ≡ owned_read names v at vs
  owned-read e r h = h ∙ sym (ap (λ (b : Bool). if b then read_before names v at 1 (owner ∷ []) vs else None) e)

  pub extended-read : ends_extended v at vs ≡ true → (r : Option (List LiteralView)) → r ≡ read_before names v at 2 (small_number (from_end 2 vs) ∷ owner ∷ []) vs → r ≡ extended_read names v at vs
  extended-read e r h = h ∙ sym (ap (λ (b : Bool). if b then read_before names v at 2 (small_number (from_end 2 vs) ∷ owner ∷ []) vs else None) e)

-- a number and the association behind others
pub two_more : (list one all : List Literal) (x : Literal) (l : LiteralView) → one ≡ list ++ x ∷ [] → all ≡ one ++ Owner ∷ [] → literal_view x ≡ l → literals_view all ≡ literals_view list ++ l ∷ owner ∷ []
two_more list one all x l e q h =
    ap literals_view q
    ∙ (map-append literal_view one (Owner ∷ [])
    ∙ (ap (λ (ys : List LiteralView). ys ++ owner ∷ []) (ap literals_view e ∙ map-append literal_view list (x ∷ []))
    ∙ (append_assoc (literals_view list) (literal_view x ∷ []) (owner ∷ []) ∙ ap (λ (z : LiteralView). literals_view list ++ z ∷ owner ∷ []) h)))

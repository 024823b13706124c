-- Lists of kinds: which have no kind in common, and which lie in others.
use Rattle.std.proofs.Common.{◌≡◌, ℕ, Bool, true, false, eqb, ◌||◌, ◌&&◌, not, List, [], ◌∷◌, refl, sym, ap, ◌∙◌, inl, inr}
use Rattle.std.specs.List.{list_any, list_all}
use Rattle.std.proofs.lemmas.Bool.{and_parts, or_cases, not-true, eqb-true, eq-eqb}
use Rattle.st_scan.specs.declared.token.Sort.TheVariants as sorts
use Rattle.st_grammar.specs.declared.leaf.Leaf.{Leaf}
use Rattle.st_grammar.specs.declared.leaf.Kind.{Kind}
use Rattle.st_grammar.specs.declared.leaf.Kind.TheVariants.{Name, Keyword, Operator}
use Rattle.st_grammar.specs.Leaves.{kind_number, among, keywords, operators, openings, closings}
use Rattle.st_grammar.specs.Phrases.{One, names}

abbrev pub contains : List Kind → Kind → Bool
contains js k = list_any (λ j. eqb (kind_number k) (kind_number j)) js

abbrev pub are_apart : List Kind → List Kind → Bool
are_apart ks js = list_all (λ k. not (contains js k)) ks

abbrev pub are_within : List Kind → List Kind → Bool
are_within ks js = list_all (λ k. contains js k) ks

pub apart : (ks js : List Kind) → are_apart ks js ≡ true → (x : Leaf) → among ks x ≡ true → among js x ≡ false
apart [] js e x a = absurd cc
apart (k ∷ ks) js e x a =
    let parts = and_parts (not (contains js k)) (are_apart ks js) e in
    elim (or_cases (eqb (kind_number x.kind) (kind_number k)) (among ks x) a) [
      | inl here ↦ ap (λ (n : ℕ). list_any (λ j. eqb n (kind_number j)) js) (eqb-true (kind_number x.kind) (kind_number k) here) ∙ not-true _ parts.0
      | inr there ↦ apart ks js parts.1 x there
    ]

pub within : (ks js : List Kind) → are_within ks js ≡ true → (x : Leaf) → among ks x ≡ true → among js x ≡ true
within [] js e x a = absurd cc
within (k ∷ ks) js e x a =
    let parts = and_parts (contains js k) (are_within ks js) e in
    elim (or_cases (eqb (kind_number x.kind) (kind_number k)) (among ks x) a) [
      | inl here ↦ ap (λ (n : ℕ). list_any (λ j. eqb n (kind_number j)) js) (eqb-true (kind_number x.kind) (kind_number k) here) ∙ parts.0
      | inr there ↦ within ks js parts.1 x there
    ]

-- each kind is in one of two lists
abbrev pub are_covered : List Kind → List Kind → List Kind → Bool
are_covered ks js ls = list_all (λ k. contains js k || contains ls k) ks

second_true : (a b : Bool) → (a || b) ≡ true → a ≡ false → b ≡ true
second_true true b e f = absurd cc
second_true false b e f = e

pub covered : (ks js ls : List Kind) → are_covered ks js ls ≡ true → (x : Leaf) → among ks x ≡ true → among js x ≡ false → among ls x ≡ true
covered [] js ls e x a f = absurd cc
covered (k ∷ ks) js ls e x a f =
    let parts = and_parts (contains js k || contains ls k) (are_covered ks js ls) e in
    elim (or_cases (eqb (kind_number x.kind) (kind_number k)) (among ks x) a) [
      | inl here ↦
          let same = eqb-true (kind_number x.kind) (kind_number k) here in
          let no : contains js k ≡ false = ap (λ (n : ℕ). list_any (λ j. eqb n (kind_number j)) js) (sym same) ∙ f in
          ap (λ (n : ℕ). list_any (λ j. eqb n (kind_number j)) ls) same ∙ second_true (contains js k) (contains ls k) parts.0 no
      | inr there ↦ covered ks js ls parts.1 x there f
    ]

-- neither opens nor closes a bracket
abbrev pub are_neutral : List Kind → Bool
are_neutral ks = are_apart ks openings && are_apart ks closings

pub neutral : (ks : List Kind) → are_neutral ks ≡ true → (x : Leaf) → among ks x ≡ true → (among openings x ≡ false) × (among closings x ≡ false)
neutral ks e x a = let parts = and_parts (are_apart ks openings) (are_apart ks closings) e in (apart ks openings parts.0 x a, apart ks closings parts.1 x a)

-- a leaf of a kind
abbrev pub sample : Kind → Leaf
sample k = record { kind = k; token = record { start = 0; end = 0; sort = sorts.Name }; place = 0 }

abbrev pub one_of : (k : Kind) → One (k ∷ [])
one_of k = record { leaf = sample k; fits = ap (λ (b : Bool). b || false) (eq-eqb (kind_number k) (kind_number k) refl) }

abbrev pub one_name : One names
one_name = record { leaf = sample Name; fits = refl }

abbrev pub one_keyword : One keywords
one_keyword = record { leaf = sample Keyword; fits = refl }

abbrev pub one_operator : One operators
one_operator = record { leaf = sample Operator; fits = refl }

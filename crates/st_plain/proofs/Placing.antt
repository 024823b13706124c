-- A new entry whose runs begin at the first free places, and the runs before it.
use Rattle.std.proofs.Common.{◌≡◌, ◌≢◌, ℕ, zero, suc, ◌+◌, ◌*◌, ◌/◌, ◌<◌, ◌≤◌, ◌⊎◌, inl, inr, true, false, List, [], ◌∷◌, length, take, drop, map, set, replicate, refl, sym, ap, ◌∙◌, subst, arith, length-set, is_some}
use Rattle.std.specs.Prelude.{slice_get, unwrap_or, Option, Some, None}
use Rattle.std.proofs.lemmas.Bool.{cases_eq}
use Rattle.std.proofs.lemmas.List.{drop-take}
use Rattle.st_model.specs.declared.oop.Oop.{Oop}
use Rattle.st_model.specs.declared.kind.Kind.{Kind}
use Rattle.st_model.specs.Values.{value, value_of, is_small}
use Rattle.st_model.specs.Objects.{Object, nil}
use Rattle.st_model.specs.Table.{Table}
use Rattle.st_model.specs.View.{with_object}
use Rattle.st_model.proofs.Pointers.{value_of-even}
use Rattle.st_plain.specs.declared.entry.Entry.{Entry}
use Rattle.st_counted.specs.inside.Words.{nil_word}
use Rattle.st_plain.specs.inside.Lists.{entry_object, listed_table, slot, new_entry, words_for, IsApart, IsPlaced, AllPlaced, AllApart, IsLaidOut, IsFull, cleared, AreBounded}

-- runs before a place are the same in lists that are the same up to it

take_less : {A : Type 0} (m k : ℕ) (zs : List A) → m ≤ k → take m zs ≡ take m (take k zs)
take_less zero k zs l = refl
take_less (suc m) zero zs l = absurd (omega (arith, l))
take_less (suc m) (suc k) [] l = refl
take_less (suc m) (suc k) (z ∷ zs) l = ap (λ rest. z ∷ rest) (take_less m k zs (omega (arith, l)))

run_before : {A : Type 0} (n a end : ℕ) (xs ys : List A) → a + n ≤ end → take end xs ≡ take end ys → take n (drop a xs) ≡ take n (drop a ys)
run_before n a end xs ys within same =
    sym (drop-take a n xs)
    ∙ ap (drop a) (take_less (a + n) end xs within ∙ ap (take (a + n)) same ∙ sym (take_less (a + n) end ys within))
    ∙ drop-take a n ys

module _ (p q : List Oop) (u v : List ℕ) (nf nu : ℕ) (same_fields : take nf p ≡ take nf q) (same_units : take nu u ≡ take nu v) where
  same_object : (e : Entry) → IsPlaced nf nu e → entry_object p u e ≡ entry_object q v e
  same_object e at =
      let f = run_before e.fields e.fields_at nf p q at.fields_end same_fields in
      let g = run_before e.units e.units_at nu u v at.units_end same_units in
      λ i. record { class = e.class.0 / 2; kind = e.kind; fields = map value (f i); units = g i }

  pub same_table : (es : List (Option Entry)) → AllPlaced nf nu es → listed_table p u es ≡ listed_table q v es
  same_table [] at = refl
  same_table (None ∷ es) at = ap (λ t. None ∷ t) (same_table es (λ i. at (suc i)))
  same_table (Some e ∷ es) at = λ i. Some (same_object e (at 0 e refl) i) ∷ same_table es (λ j. at (suc j)) i

-- a new object of nil and 0

nil_values : (n : ℕ) → map value (replicate n nil_word) ≡ replicate n nil
unfolding value_of
nil_values zero = refl
nil_values (suc n) = ap (λ xs. nil ∷ xs) (nil_values n)

pub cleared_object : (p : List Oop) (u : List ℕ) (class : Oop) (kind : Kind) (nf fields nu units : ℕ) → take fields (drop nf p) ≡ replicate fields nil_word → take units (drop nu u) ≡ replicate units 0
    → entry_object p u (new_entry class kind nf fields nu units) ≡ cleared (class.0 / 2) kind fields units
cleared_object p u class kind nf fields nu units f g =
    let h = ap (map value) f ∙ nil_values fields in
    λ i. record { class = class.0 / 2; kind = kind; fields = h i; units = g i }

slice_get-set_same : {A : Type 0} (xs : List A) (i : ℕ) (y : A) → i < length xs → slice_get (set xs i y) i ≡ Some y
slice_get-set_same [] i y h = absurd (omega (arith, h))
slice_get-set_same (x ∷ xs) zero y h = refl
slice_get-set_same (x ∷ xs) (suc i) y h = slice_get-set_same xs i y (omega arith)

pub slice_get-set_other : {A : Type 0} (xs : List A) (i j : ℕ) (y : A) → j ≢ i → slice_get (set xs i y) j ≡ slice_get xs j
slice_get-set_other [] i j y n = refl
slice_get-set_other (x ∷ xs) zero zero y n = absurd (n refl)
slice_get-set_other (x ∷ xs) zero (suc j) y n = refl
slice_get-set_other (x ∷ xs) (suc i) zero y n = refl
slice_get-set_other (x ∷ xs) (suc i) (suc j) y n = slice_get-set_other xs i j y (λ q. n (ap (λ m. suc m) q))

pub slot-set_same : (es : List (Option Entry)) (k : ℕ) (x : Option Entry) → k < length es → slot (set es k x) k ≡ x
slot-set_same es k x l = ap (λ y. unwrap_or y None) (slice_get-set_same es k x l)

pub slot-set_other : (es : List (Option Entry)) (k j : ℕ) (x : Option Entry) → j ≢ k → slot (set es k x) j ≡ slot es j
slot-set_other es k j x d = ap (λ y. unwrap_or y None) (slice_get-set_other es k j x d)

pub full_more : (es : List (Option Entry)) (k end : ℕ) (e : Entry) → k < length es → IsFull es end → IsFull (set es k (Some e)) end
full_more es k end e within full = λ j low high. elim (cases_eq j k) [
  | inl q ↦ subst (λ i. is_some (slot (set es k (Some e)) i) ≡ true) (sym q) (ap is_some (slot-set_same es k (Some e) within))
  | inr d ↦ ap is_some (slot-set_other es k j (Some e) d) ∙ full j low high
]

-- an entry at an empty place
module _ (es : List (Option Entry)) (size_fields size_units end nf nu : ℕ) (laid : IsLaidOut es size_fields size_units end nf nu) (class : Oop) (kind : Kind) (fields units : ℕ) (fields_end : nf + fields ≤ size_fields) (units_end : nu + units ≤ size_units) where
  abbrev e : Entry
  e = new_entry class kind nf fields nu units

  module _ (k top : ℕ) (even : is_small (value class) ≡ false) (small : 2 * fields + units ≤ 131066) (parts : 2 * fields + units ≤ 2 * words_for kind fields units) (below : k < top) (above : end ≤ top) (within : top ≤ 32768) where
    in_table : k < length es
    in_table = let a = laid.places in omega arith

    there_is : (i : ℕ) (d : Entry) → slice_get (set es k (Some e)) i ≡ Some (Some d) → ((i ≡ k) × (e ≡ d)) ⊎ ((i ≢ k) × (slice_get es i ≡ Some (Some d)))
    there_is i d h = elim (cases_eq i k) [
      | inl same ↦
          let at = slice_get-set_same es k (Some e) in_table in
          let g : slice_get (set es k (Some e)) k ≡ Some (Some d) = subst (λ n. slice_get (set es k (Some e)) n ≡ Some (Some d)) same h in
          let here : e ≡ d = cc in inl (same, here)
      | inr other ↦ inr (other, sym (slice_get-set_other es k i (Some e) other) ∙ h)
    ]

    new_placed : IsPlaced (nf + fields) (nu + units) e
    new_placed = record { fields_end = omega arith; units_end = omega arith; class = even; small = small; parts = parts }

    old_placed : (d : Entry) → IsPlaced nf nu d → IsPlaced (nf + fields) (nu + units) d
    old_placed d was = record { fields_end = let a = was.fields_end in omega arith; units_end = let a = was.units_end in omega arith; class = was.class; small = was.small; parts = was.parts }

    all_placed : AllPlaced (nf + fields) (nu + units) (set es k (Some e))
    all_placed i d h = elim (there_is i d h) [
      | inl s ↦ subst (λ (b : Entry). IsPlaced (nf + fields) (nu + units) b) s.1 new_placed
      | inr s ↦ old_placed d (laid.placed i d s.1)
    ]

    before : (d : Entry) → IsPlaced nf nu d → IsApart d e × IsApart e d
    before d was =
        let a = was.fields_end in let b = was.units_end in (
          record { fields = λ n p q r s. omega (arith, p, q, r, s, a); units = λ n p q r s. omega (arith, p, q, r, s, b) },
          record { fields = λ n p q r s. omega (arith, p, q, r, s, a); units = λ n p q r s. omega (arith, p, q, r, s, b) },
        )

    all_apart : AllApart (set es k (Some e))
    all_apart i j d b ne hi hj = elim (there_is i d hi) [
      | inl s ↦ elim (there_is j b hj) [
        | inl t ↦ absurd (ne (s.0 ∙ sym t.0))
        | inr t ↦ subst (λ (x : Entry). IsApart x b) s.1 (before b (laid.placed j b t.1)).1
      ]
      | inr s ↦ elim (there_is j b hj) [
        | inl t ↦ subst (λ (x : Entry). IsApart d x) t.1 (before d (laid.placed i d s.1)).0
        | inr t ↦ laid.apart i j d b ne s.1 t.1
      ]
    ]

    pub place_laid_out : IsLaidOut (set es k (Some e)) size_fields size_units top (nf + fields) (nu + units)
    place_laid_out = record {
      places = length-set es k (Some e) ∙ laid.places;
      within = within;
      empty = λ j l. let other : j ≢ k = omega arith in slot-set_other es k j (Some e) other ∙ laid.empty j (omega arith);
      placed = all_placed;
      apart = all_apart;
      fields_end = fields_end;
      units_end = units_end;
      bounded = laid.bounded;
    }

-- where all places are empty nothing overlaps

no_entry : (es : List (Option Entry)) (i : ℕ) (e : Entry) → slot es i ≡ None → slice_get es i ≡ Some (Some e) → ⊥
no_entry es i e none there = let h = ap (λ x. unwrap_or x None) there in cc

pub none_laid_out : (es : List (Option Entry)) (size_fields size_units : ℕ) → length es ≡ 32768 → ((k : ℕ) → slot es k ≡ None) → AreBounded size_fields size_units → IsLaidOut es size_fields size_units 0 0 0
none_laid_out es size_fields size_units places none bounded = record {
  places = places;
  within = omega arith;
  empty = λ k l. none k;
  placed = λ i e h. absurd (no_entry es i e (none i) h);
  apart = λ i j d e ne hi hj. absurd (no_entry es i d (none i) hi);
  fields_end = omega arith;
  units_end = omega arith;
  bounded = bounded;
}

-- an object at the place of a pointer
pub set_object : (t : Table) (w : ℕ) (o : Object) → is_small (value_of w) ≡ false → set t (w / 2) (Some o) ≡ with_object t (value_of w) o
unfolding with_object
set_object t w o even = ap (λ v. with_object t v o) (sym (value_of-even w even))

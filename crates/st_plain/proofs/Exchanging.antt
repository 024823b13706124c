-- Two entries in each other's place.
use Rattle.std.proofs.Common.{◌≡◌, ◌≢◌, ℕ, ◌+◌, ◌<◌, ◌≤◌, zero, suc, Bool, true, false, List, [], ◌∷◌, set, refl, sym, ap, ◌∙◌, subst, arith, inl, inr, is_some, length-set}
use Rattle.std.specs.Prelude.{slice_get, unwrap_or, Option, Some, None, ◌==◌, if◌then◌else◌}
use Rattle.std.specs.Option.{option_map}
use Rattle.std.proofs.lemmas.Bool.{cases_eq, cases_lt}
use Rattle.std.proofs.lemmas.Bool.Decides.{nat_tests}
use Rattle.std.proofs.lemmas.List.{map-set}
use Rattle.st_model.specs.declared.oop.Oop.{Oop}
use Rattle.st_model.specs.Values.{Value, Ref}
use Rattle.st_model.specs.Table.{Table, entry, changed, exchanged}
use Rattle.st_model.specs.View.{with_exchanged}
use Rattle.st_model.proofs.Exchanging.{other_of, exchanged_is}
use Rattle.st_plain.specs.declared.entry.Entry.{Entry}
use Rattle.st_plain.specs.inside.Lists.{slot, entry_object, entry_total, listed_table, IsLaidOut, IsFull}
use Rattle.st_plain.proofs.Slots.{slice_get-slot, slot-slice_get, entry-slot}
use Rattle.st_heap.proofs.Changing.{changed-set}
use Rattle.st_plain.proofs.Placing.{slice_get-set_other}

-- a sum with another entry at a place
total-replaced : (w : Entry → ℕ) (es : List (Option Entry)) (k : ℕ) (e f : Entry) → slot es k ≡ Some e → entry_total w (set es k (Some f)) + w e ≡ entry_total w es + w f
total-replaced w [] k e f h = cc
total-replaced w (None ∷ es) zero e f h = cc
total-replaced w (Some d ∷ es) zero e f h = let same : w d ≡ w e = cc in omega (arith, same)
total-replaced w (None ∷ es) (suc k) e f h = total-replaced w es k e f h
total-replaced w (Some d ∷ es) (suc k) e f h = let a = total-replaced w es k e f h in omega (arith, a)

slice_get-set_here : {A : Type 0} (xs : List A) (k : ℕ) (x y : A) → slice_get xs k ≡ Some y → slice_get (set xs k x) k ≡ Some x
slice_get-set_here [] k x y h = cc
slice_get-set_here (z ∷ xs) zero x y h = refl
slice_get-set_here (z ∷ xs) (suc k) x y h = slice_get-set_here xs k x y h

within_slot : (es : List (Option Entry)) (k end : ℕ) (e : Entry) → ((j : ℕ) → end ≤ j → slot es j ≡ None) → slot es k ≡ Some e → k < end
within_slot es k end e empty h = elim (cases_lt k end) [
  | inl l ↦ l
  | inr l ↦ let z = empty k l in absurd (cc)
]

other_of-distinct : (a b i j : ℕ) → i ≢ j → other_of a b i ≢ other_of a b j
other_of-distinct a b i j d e = elim (cases_eq i a) [
  | inl ia ↦ d (grind (arith, nat_tests))
  | inr na ↦ d (grind (arith, nat_tests))
]

module _ (es : List (Option Entry)) (a b : ℕ) (e f : Entry) (at_a : slot es a ≡ Some e) (at_b : slot es b ≡ Some f) where
  abbrev pub new : List (Option Entry)
  new = set (set es a (Some f)) b (Some e)

  half_way : slice_get (set es a (Some f)) b ≡ Some (Some f)
  half_way = elim (cases_eq b a) [
    | inl q ↦ subst (λ n. slice_get (set es a (Some f)) n ≡ Some (Some f)) (sym q) (slice_get-set_here es a (Some f) (Some e) (slice_get-slot es a e at_a))
    | inr d ↦ slice_get-set_other es a b (Some f) d ∙ slice_get-slot es b f at_b
  ]

  parts : (n : ℕ) (x y : Bool) → (n == a) ≡ x → (n == b) ≡ y → slice_get new n ≡ slice_get es (if x then b else if y then a else n)
  parts n true y p q =
      let is_a : n ≡ a = grind (arith, nat_tests) in
      elim (cases_eq a b) [
        | inl same ↦
            let at : slice_get new n ≡ Some (Some e) = subst (λ m. slice_get new m ≡ Some (Some e)) (sym (is_a ∙ same)) (slice_get-set_here (set es a (Some f)) b (Some e) (Some f) half_way) in
            at ∙ sym (slice_get-slot es a e at_a) ∙ ap (slice_get es) same
        | inr d ↦
            subst (λ m. slice_get new m ≡ slice_get es b) (sym is_a)
            (slice_get-set_other (set es a (Some f)) b a (Some e) d ∙ slice_get-set_here es a (Some f) (Some e) (slice_get-slot es a e at_a) ∙ sym (slice_get-slot es b f at_b))
      ]
  parts n false true p q =
      let is_b : n ≡ b = grind (arith, nat_tests) in
      subst (λ m. slice_get new m ≡ slice_get es a) (sym is_b) (slice_get-set_here (set es a (Some f)) b (Some e) (Some f) half_way ∙ sym (slice_get-slot es a e at_a))
  parts n false false p q =
      let no_a : n ≢ a = grind (arith, nat_tests) in
      let no_b : n ≢ b = grind (arith, nat_tests) in
      slice_get-set_other (set es a (Some f)) b n (Some e) no_b ∙ slice_get-set_other es a n (Some f) no_a

  -- at each place stands what stood at the other one
  slice_get-new : (n : ℕ) → slice_get new n ≡ slice_get es (other_of a b n)
  slice_get-new n = parts n (n == a) (n == b) refl refl

  slot-new : (n : ℕ) → slot new n ≡ slot es (other_of a b n)
  slot-new n = ap (λ x. unwrap_or x None) (slice_get-new n)

  pub exchanged_total : (w : Entry → ℕ) → entry_total w new ≡ entry_total w es
  exchanged_total w =
      let first = total-replaced w es a e f at_a in
      let second = total-replaced w (set es a (Some f)) b f e (slot-slice_get (set es a (Some f)) b f half_way) in
      omega (arith, first, second)

  some_other : (k : ℕ) → is_some (slot es k) ≡ true → is_some (slot es (other_of a b k)) ≡ true
  some_other k h = by_case (k == a) (k == b)
    where
      by_case : (x y : Bool) → is_some (slot es (if x then b else if y then a else k)) ≡ true
      by_case true y = ap is_some at_b
      by_case false true = ap is_some at_a
      by_case false false = h

  pub exchanged_full : (end : ℕ) → IsFull es end → IsFull new end
  exchanged_full end full = λ k low high. ap is_some (slot-new k) ∙ some_other k (full k low high)

  pub exchanged_laid_out : (fields units end nf nu : ℕ) → IsLaidOut es fields units end nf nu → IsLaidOut new fields units end nf nu
  exchanged_laid_out fields units end nf nu laid = record {
    places = length-set (set es a (Some f)) b (Some e) ∙ length-set es a (Some f) ∙ laid.places;
    within = laid.within;
    empty = λ k l.
        let before_a = within_slot es a end e laid.empty at_a in
        let before_b = within_slot es b end f laid.empty at_b in
        let no_a : k ≢ a = omega (arith, before_a, l) in
        let no_b : k ≢ b = omega (arith, before_b, l) in
        let same : other_of a b k ≡ k = grind (arith, nat_tests) in
        slot-new k ∙ ap (slot es) same ∙ laid.empty k l;
    placed = λ i d h. laid.placed (other_of a b i) d (sym (slice_get-new i) ∙ h);
    apart = λ i j c d ne h g. laid.apart (other_of a b i) (other_of a b j) c d (other_of-distinct a b i j ne) (sym (slice_get-new i) ∙ h) (sym (slice_get-new j) ∙ g);
    fields_end = laid.fields_end;
    units_end = laid.units_end;
    bounded = laid.bounded;
  }

  module _ (p : List Oop) (u : List ℕ) where
    abbrev t : Table
    t = listed_table p u es

    entries_exchanged : listed_table p u new ≡ exchanged t a b
    entries_exchanged =
        let object = entry_object p u in
        let first = entry-slot p u es a e at_a in
        let second = entry-slot p u es b f at_b in
        let half : entry (listed_table p u (set es a (Some f))) b ≡ Some (object f) = entry-slot p u (set es a (Some f)) b f (slot-slice_get (set es a (Some f)) b f half_way) in
        let once : listed_table p u (set es a (Some f)) ≡ changed t a (object f) = map-set (option_map object) es a (Some f) ∙ sym (changed-set t a (object e) (object f) first) in
        map-set (option_map object) (set es a (Some f)) b (Some e)
        ∙ sym (changed-set (listed_table p u (set es a (Some f))) b (object f) (object e) half)
        ∙ ap (λ x. changed x b (object e)) once
        ∙ sym (exchanged_is t a b (object e) (object f) first second)

module _ (p : List Oop) (u : List ℕ) (es : List (Option Entry)) (x y : Value) (a b : ℕ) (e f : Entry) (x_is : x ≡ Ref a) (y_is : y ≡ Ref b) (at_a : slot es a ≡ Some e) (at_b : slot es b ≡ Some f) where
  pub exchanged_objects : listed_table p u (set (set es a (Some f)) b (Some e)) ≡ with_exchanged (listed_table p u es) x y
  unfolding with_exchanged
  exchanged_objects = entries_exchanged es a b e f at_a at_b p u ∙ (λ i. with_exchanged (listed_table p u es) (sym x_is i) (sym y_is i))

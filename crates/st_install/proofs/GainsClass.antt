-- What the search comes to in one class, as a matter of its dictionary's fields.
use Rattle.std.proofs.Common.{◌≡◌, ◌≢◌, ℕ, ◌+◌, ◌<◌, ◌≤◌, zero, suc, length, Option, Some, None, Bool, true, false, refl, ap, ◌∙◌, subst, arith}
use Rattle.std.specs.Prelude.{◌-◌, slice_get, bit_and, nat_lt}
use Rattle.std.proofs.lemmas.Bool.Decides.{nat_tests}
use Rattle.st_model.specs.declared.dead.Dead.TheVariants as dead
use Rattle.st_model.specs.Values.{Value}
use Rattle.st_model.specs.Objects.{Object, nil, is_pointers, is_method}
use Rattle.st_model.specs.Machine.{State, Transition, Went, Step, answer}
use Rattle.st_model.specs.Steps.{same_value, fetch_field, count_fields}
use Rattle.st_model.specs.Methods.{method_header}
use Rattle.st_model.specs.Lookup.{checked_method, method_at, place_says, look_at_place, look_at_places, search_from, search_dictionary, or_above, method_in_class, look_in_class, unless_nil, end_at_nil, find_within, find}
use Rattle.st_model.specs.Table.{Table, table}
use Rattle.st_model.proofs.Runs.{run-then, run-next, after-went, run-passed, run-some, run-answer, run-of_page}
use Rattle.st_model.proofs.Tabular.{fetch_field-as, count_fields-as}
use Rattle.st_install.specs.Dictionaries.{Ending, Holds, Vacant, Nowhere}
use Rattle.st_install.proofs.Goes.{object_at, over, Tells, tells_field, tells_count}
use Rattle.st_install.proofs.GoesSeeking.{at_place, ends_with, ending_among, half_of, start_within, bounded_reads, table_reads, half_tells, page_tells, tells_place}
use Rattle.st_install.proofs.GainsPlaces.{look_from, look_for, look_absent, IsAbsent, IsNotHeld, other_false}
use Rattle.st_install.proofs.GainsFinding.{object_told}

-- a class with a dictionary, and its Array of methods
pub record ClassWith (w : Table) (class d ms : Value) (o a : Object) : Type 0 where
  pub class_object : Object
  pub class_is : object_at w class ≡ Some class_object
  pub class_pointers : is_pointers class_object.kind ≡ true
  pub to_dictionary : slice_get class_object.fields 1 ≡ Some d
  pub is : object_at w d ≡ Some o
  pub pointers : is_pointers o.kind ≡ true
  pub places : 2 < length o.fields
  pub to_methods : slice_get o.fields 1 ≡ Some ms
  pub array_is : object_at w ms ≡ Some a
  pub array_pointers : is_pointers a.kind ≡ true

pub table_field : (w : Table) (v : Value) (o : Object) → object_at w v ≡ Some o → is_pointers o.kind ≡ true → (i : ℕ) (x : Value) → slice_get o.fields i ≡ Some x → Tells (fetch_field table v i) w x
table_field w v o e p i x f = subst (λ y. Tells y w x) (fetch_field-as bounded_reads.tabular v i) (tells_field w v o e p i x f)

table_count : (w : Table) (v : Value) (o : Object) → object_at w v ≡ Some o → is_pointers o.kind ≡ true → Tells (count_fields table v) w (length o.fields)
table_count w v o e p = subst (λ y. Tells y w (length o.fields)) (count_fields-as bounded_reads.tabular v) (tells_count w v o e p)

-- the search in a dictionary with these fields
module _ (w : Table) (d : Value) (o : Object) (is : object_at w d ≡ Some o) (pointers : is_pointers o.kind ≡ true) (places : 2 < length o.fields) (x : Value) (s : State Table) where
  -- what the search answers that ends so
  abbrev pub result : Ending → Transition (State Table) (Option Value)
  result (Holds j) = (method_at table d j).run (over s w)
  result (Vacant j) = Went None (over s w)
  result Nowhere = Went None (over s w)

  says : (k : ℕ) (p q : Bool) (n : Step Table (Option Value)) (e : Ending) → n.run (over s w) ≡ result e → (place_says table d k p q n).run (over s w) ≡ result (ends_with k p q e)
  unfolding place_says answer
  says k true q n e r = refl
  says k false true n e r = refl
  says k false false n e r = r

  at_one : (k : ℕ) (n : Step Table (Option Value)) (e : Ending) → 2 + k < length o.fields → n.run (over s w) ≡ result e
      → (look_at_place table d x k n).run (over s w) ≡ result (ends_with k (same_value (at_place o.fields k) x) (same_value (at_place o.fields k) nil) e)
  unfolding look_at_place
  at_one k n e l r =
      let f = tells_place table table_reads w d o is pointers k l s in
      let g = page_tells table table_reads w s in
      simp (run-then, f, after-went, g) (says k _ _ n e r)

  among : (k left : ℕ) (n : Step Table (Option Value)) (e : Ending) → 2 + k + left ≤ length o.fields → n.run (over s w) ≡ result e
      → (look_at_places table d x k left n).run (over s w) ≡ result (ending_among o.fields x k left e)
  unfolding look_at_places
  among k zero n e l r = r
  among k (suc left) n e l r = at_one k _ _ (omega (arith, l)) (among (suc k) left n e (omega (arith, l)) r)

  from : (start : ℕ) → start ≤ length o.fields - 2 → (search_from table d x (length o.fields - 2) start).run (over s w) ≡ result (look_from o.fields x (length o.fields - 2) start)
  unfolding search_from
  from start l =
      let two = places in
      among start (length o.fields - 2 - start) _ _ (omega (arith, two, l)) (among 0 (length o.fields - 2) _ Nowhere (omega (arith, two)) (run-answer None (over s w)))

  pub searched : (search_dictionary table d x (length o.fields - 2)).run (over s w) ≡ result (look_for w o.fields x)
  unfolding search_dictionary
  searched =
      let f = half_tells table table_reads w x s in
      simp (run-then, f, after-went) (from (bit_and (half_of w x) (length o.fields - 2 - 1)) (start_within (half_of w x) (length o.fields - 2)))

  pub not_held : (e : Ending) → IsNotHeld e → result e ≡ Went None (over s w)
  not_held (Holds j) n = absurd (n j refl)
  not_held (Vacant j) n = refl
  not_held Nowhere n = refl

  -- what stands at no place isn't found, wherever its search begins
  pub none_searched : IsAbsent o.fields x → (search_dictionary table d x (length o.fields - 2)).run (over s w) ≡ Went None (over s w)
  none_searched n = searched ∙ not_held (look_for w o.fields x) (look_absent w o.fields x n)

module _ (w : Table) (class d ms : Value) (o a : Object) (h : ClassWith w class d ms o a) where
  module _ (x : Value) (s : State Table) where
    abbrev ends : Ending → Transition (State Table) (Option Value)
    ends e = result w d o h.is h.pointers h.places x s e

    in_class : (method_in_class table class x).run (over s w) ≡ ends (look_for w o.fields x)
    unfolding method_in_class
    in_class =
        let f = table_field w class h.class_object h.class_is h.class_pointers 1 d h.to_dictionary s in
        let g = table_count w d o h.is h.pointers s in
        let l = h.places in
        let b : nat_lt 2 (length o.fields) ≡ true = grind (arith, nat_tests) in
        simp (run-then, run-next, f, after-went, g, run-passed dead.Places _ (over s w) b) (searched w d o h.is h.pointers h.places x s)

    at_method : (j : ℕ) (m : Value) → slice_get a.fields j ≡ Some m → (method_at table d j).run (over s w) ≡ (checked_method table m).run (over s w)
    unfolding method_at
    at_method j m e =
        let f = table_field w d o h.is h.pointers 1 ms h.to_methods s in
        let g = table_field w ms a h.array_is h.array_pointers j m e s in
        simp (run-then, f, after-went, g) refl

    pub found_in_class : (j : ℕ) (m : Value) → look_for w o.fields x ≡ Holds j → slice_get a.fields j ≡ Some m → (method_in_class table class x).run (over s w) ≡ (checked_method table m).run (over s w)
    found_in_class j m e f = in_class ∙ (ap ends e ∙ at_method j m f)

    pub absent_in_class : IsNotHeld (look_for w o.fields x) → (method_in_class table class x).run (over s w) ≡ Went None (over s w)
    absent_in_class n = in_class ∙ not_held w d o h.is h.pointers h.places x s (look_for w o.fields x) n

  -- a Method with a header is found at once
  module _ (x m : Value) (j : ℕ) (p : Object) (not_nil : class ≢ nil) (e : look_for w o.fields x ≡ Holds j) (f : slice_get a.fields j ≡ Some m)
      (is : object_at w m ≡ Some p) (method : is_method p.kind ≡ true) (header : Value) (first : slice_get p.fields 0 ≡ Some header) (s : State Table) where
    checked : (checked_method table m).run (over s w) ≡ Went (Some m) (over s w)
    unfolding checked_method method_header
    checked =
        let q = object_told w m p s is in
        simp (run-then, run-next, q, after-went, run-passed dead.Kind _ (over s w) method, run-some dead.Field _ header (over s w) first, run-answer) refl

    in_this : (otherwise : Value → Step Table (Option Value)) → (look_in_class table class x otherwise).run (over s w) ≡ Went (Some m) (over s w)
    unfolding look_in_class or_above
    in_this otherwise = let q : (method_in_class table class x).run (over s w) ≡ Went (Some m) (over s w) = found_in_class x s j m e f ∙ checked in simp (run-then, q, after-went, run-answer) refl

    unless : (b : Bool) (n : Step Table (Option Value)) → b ≡ false → (unless_nil b n).run (over s w) ≡ n.run (over s w)
    unfolding unless_nil
    unless true n q = cc
    unless false n q = refl

    not_ended : (n : Step Table (Option Value)) → (end_at_nil table class n).run (over s w) ≡ n.run (over s w)
    unfolding end_at_nil
    not_ended n = simp (run-then, run-of_page, after-went) (unless (same_value class nil) n (other_false class nil not_nil))

    within : (left : ℕ) → 0 < left → (find_within table x left class).run (over s w) ≡ Went (Some m) (over s w)
    unfolding find_within
    within zero l = absurd (omega (arith, l))
    within (suc left) l = not_ended _ ∙ in_this (find_within table x left)

    pub finds_method : (find table class x).run (over s w) ≡ Went (Some m) (over s w)
    unfolding find
    finds_method = within 32767 (omega arith)

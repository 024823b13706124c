-- Where the search for a place ends, as a matter of the dictionary's fields, and how many of them hold nil.
use Rattle.std.proofs.Common.{◌≡◌, ◌≢◌, ℕ, ◌+◌, ◌<◌, ◌≤◌, zero, suc, List, length, Some, Bool, true, false, refl, sym, ap, ◌∙◌, subst, arith, ◌⊎◌, inl, inr}
use Rattle.std.specs.Prelude.{◌-◌, slice_set, get_or, bit_and}
use Rattle.std.proofs.lemmas.Nat.{and_le_r}
use Rattle.std.proofs.lemmas.List.{get_or-set_other}
use Rattle.std.proofs.lemmas.Option.{slice_get-get_or}
use Rattle.st_model.specs.Values.{Value, Small, Ref}
use Rattle.st_model.specs.declared.page.PageObject.TheVariants.{NilObject}
use Rattle.st_model.specs.Objects.{Object, nil, is_pointers}
use Rattle.st_model.specs.Machine.{ObjectMemory, Step, answer}
use Rattle.st_model.specs.Steps.{of_page, same_value, fetch_field, count_fields}
use Rattle.st_model.specs.Lookup.{pointer_if, half_word}
use Rattle.st_model.specs.Table.{Table, entry, table, bounded_table, IsTabular}
use Rattle.st_model.proofs.Tabular.{of_page-as, fetch_field-as, count_fields-as}
use Rattle.st_install.specs.Dictionaries.{Ending, Holds, Vacant, Nowhere, ends_at, seek_at, seek_among, seek_from, count_places, seek, one_more_if, count_vacant}
use Rattle.st_install.proofs.Goes.{object_at, Tells, tells_answer, tells_then, tells_page, tells_field, tells_count}

-- the value at place k
abbrev pub at_place : List Value → ℕ → Value
at_place fs k = get_or fs (2 + k) nil

abbrev pub ends_with : ℕ → Bool → Bool → Ending → Ending
ends_with k true is_nil otherwise = Holds k
ends_with k false true otherwise = Vacant k
ends_with k false false otherwise = otherwise

-- where the search among so many places from k on ends
abbrev pub ending_among : List Value → Value → ℕ → ℕ → Ending → Ending
ending_among fs sought k zero otherwise = otherwise
ending_among fs sought k (suc left) otherwise =
    ends_with k (same_value (at_place fs k) sought) (same_value (at_place fs k) nil) (ending_among fs sought (suc k) left otherwise)

abbrev pub ending_from : List Value → Value → ℕ → ℕ → Ending
ending_from fs sought places start = ending_among fs sought start (places - start) (ending_among fs sought 0 start Nowhere)

-- half of what a value stands for
abbrev pub half_of : Table → Value → ℕ
half_of t (Small n) = n
half_of t (Ref n) = pointer_if bounded_table t n (entry t n)

abbrev pub ending_for : Table → List Value → Value → Value → Ending
ending_for t fs sought selector = ending_from fs sought (length fs - 2) (bit_and (half_of t selector) (length fs - 2 - 1))

pub start_within : (half n : ℕ) → bit_and half (n - 1) ≤ n
start_within half n = let l = and_le_r half (n - 1) in omega (arith, l)

half_told : (t : Table) (v : Value) → Tells (half_word bounded_table v) t (half_of t v)
unfolding half_word answer
half_told t (Small n) s = refl
half_told t (Ref n) s = refl

-- it reads as a bounded table does, and its pointers are the names
pub record ReadsAs (m : ObjectMemory Table) : Type 0 where
  pub tabular : IsTabular m
  pub halves : (v : Value) → half_word m v ≡ half_word bounded_table v

pub bounded_reads : ReadsAs bounded_table
bounded_reads = record { tabular = record { read = refl; replace = refl; exchange = refl; named = refl }; halves = λ v. refl }

same_halves : (v : Value) → half_word table v ≡ half_word bounded_table v
unfolding half_word
same_halves (Small n) = refl
same_halves (Ref n) = refl

pub table_reads : ReadsAs table
table_reads = record { tabular = record { read = refl; replace = refl; exchange = refl; named = refl }; halves = same_halves }

tells_end : (t : Table) (k : ℕ) (a b : Bool) (n : Step Table Ending) (e : Ending) → Tells n t e → Tells (ends_at k a b n) t (ends_with k a b e)
unfolding ends_at answer
tells_end t k true b n e h s = refl
tells_end t k false true n e h s = refl
tells_end t k false false n e h s = h s

module _ (m : ObjectMemory Table) (reads : ReadsAs m) where
  pub half_tells : (t : Table) (v : Value) → Tells (half_word m v) t (half_of t v)
  half_tells t v = subst (λ y. Tells y t (half_of t v)) (sym (reads.halves v)) (half_told t v)

  pub page_tells : (t : Table) → Tells (of_page m NilObject) t nil
  page_tells t = subst (λ y. Tells y t nil) (of_page-as bounded_reads.tabular NilObject ∙ sym (of_page-as reads.tabular NilObject)) (tells_page t NilObject)

  module _ (t : Table) (d : Value) (o : Object) (e : object_at t d ≡ Some o) (p : is_pointers o.kind ≡ true) where
    pub tells_place : (k : ℕ) → 2 + k < length o.fields → Tells (fetch_field m d (2 + k)) t (at_place o.fields k)
    tells_place k l = subst (λ y. Tells y t (at_place o.fields k)) (fetch_field-as bounded_reads.tabular d (2 + k) ∙ sym (fetch_field-as reads.tabular d (2 + k)))
        (tells_field t d o e p (2 + k) (at_place o.fields k) (slice_get-get_or o.fields (2 + k) nil l))

    tells_at : (sought : Value) (k : ℕ) (n : Step Table Ending) (end : Ending) → 2 + k < length o.fields → Tells n t end
        → Tells (seek_at m d sought k n) t (ends_with k (same_value (at_place o.fields k) sought) (same_value (at_place o.fields k) nil) end)
    unfolding seek_at
    tells_at sought k n end l h =
        tells_then t (fetch_field m d (2 + k)) _ (at_place o.fields k) _ (tells_place k l)
        (tells_then t (of_page m NilObject) _ nil _ (page_tells t)
        (tells_end t k (same_value (at_place o.fields k) sought) (same_value (at_place o.fields k) nil) n end h))

    tells_among : (sought : Value) (k left : ℕ) (n : Step Table Ending) (end : Ending) → 2 + k + left ≤ length o.fields → Tells n t end
        → Tells (seek_among m d sought k left n) t (ending_among o.fields sought k left end)
    unfolding seek_among
    tells_among sought k zero n end l h = h
    tells_among sought k (suc left) n end l h =
        tells_at sought k (seek_among m d sought (suc k) left n) (ending_among o.fields sought (suc k) left end) (omega (arith, l))
        (tells_among sought (suc k) left n end (omega (arith, l)) h)

    tells_from : (sought : Value) (start : ℕ) → 2 ≤ length o.fields → start ≤ length o.fields - 2
        → Tells (seek_from m d sought (length o.fields - 2) start) t (ending_from o.fields sought (length o.fields - 2) start)
    unfolding seek_from
    tells_from sought start two l =
        tells_among sought start (length o.fields - 2 - start) _ _ (omega (arith, two, l)) (tells_among sought 0 start _ Nowhere (omega (arith, two, l)) (tells_answer t Nowhere))

    pub tells_places : Tells (count_places m d) t (length o.fields - 2)
    unfolding count_places
    tells_places = tells_then t (count_fields m d) _ (length o.fields) (length o.fields - 2) (subst (λ y. Tells y t (length o.fields)) (count_fields-as bounded_reads.tabular d ∙ sym (count_fields-as reads.tabular d)) (tells_count t d o e p)) (tells_answer t (length o.fields - 2))

    pub tells_seek : (sought selector : Value) → 2 ≤ length o.fields → Tells (seek m d sought selector) t (ending_for t o.fields sought selector)
    unfolding seek
    tells_seek sought selector two =
        tells_then t (count_places m d) _ (length o.fields - 2) _ tells_places
        (tells_then t (half_word m selector) _ (half_of t selector) _ (half_tells t selector)
        (tells_from sought (bit_and (half_of t selector) (length o.fields - 2 - 1)) two (start_within (half_of t selector) (length o.fields - 2))))

-- ENDINGS

-- it ends at one of so many places
abbrev pub IsWithin : ℕ → Ending → Type 0
IsWithin n (Holds k) = k < n
IsWithin n (Vacant k) = k < n
IsWithin n Nowhere = Unit {0}

with_within : (n k : ℕ) (a b : Bool) (e : Ending) → k < n → IsWithin n e → IsWithin n (ends_with k a b e)
with_within n k true b e l h = l
with_within n k false true e l h = l
with_within n k false false e l h = h

among_within : (fs : List Value) (sought : Value) (n k left : ℕ) (e : Ending) → k + left ≤ n → IsWithin n e → IsWithin n (ending_among fs sought k left e)
among_within fs sought n k zero e l h = h
among_within fs sought n k (suc left) e l h =
    with_within n k _ _ _ (omega (arith, l)) (among_within fs sought n (suc k) left e (omega (arith, l)) h)

pub ending_within : (t : Table) (fs : List Value) (sought selector : Value) → IsWithin (length fs - 2) (ending_for t fs sought selector)
ending_within t fs sought selector =
    let start = bit_and (half_of t selector) (length fs - 2 - 1) in
    let l : start ≤ length fs - 2 = start_within (half_of t selector) (length fs - 2) in
    among_within fs sought (length fs - 2) start (length fs - 2 - start) _ (omega (arith, l)) (among_within fs sought (length fs - 2) 0 start Nowhere (omega (arith, l)) tt)

-- none of so many places from k on holds nil
abbrev pub NoneVacant : List Value → ℕ → ℕ → Type 0
NoneVacant fs k left = (j : ℕ) → k ≤ j → j < k + left → same_value (at_place fs j) nil ≡ false

with_nowhere : (k : ℕ) (a b : Bool) (e : Ending) → ends_with k a b e ≡ Nowhere → (a ≡ false) × (b ≡ false) × (e ≡ Nowhere)
with_nowhere k true b e h = cc
with_nowhere k false true e h = cc
with_nowhere k false false e h = (refl, refl, h)

first_or_later : (j k n : ℕ) → k ≤ j → j < k + suc n → (k ≡ j) ⊎ ((suc k ≤ j) × (j < suc k + n))
first_or_later j k n l m = elim (split j k l) [
  | inl e ↦ inl e
  | inr h ↦ inr (h, omega (arith, m))
]
  where
    split : (j k : ℕ) → k ≤ j → (k ≡ j) ⊎ (suc k ≤ j)
    split j k l = grind arith

among_nowhere : (fs : List Value) (sought : Value) (k left : ℕ) (e : Ending) → ending_among fs sought k left e ≡ Nowhere → NoneVacant fs k left × (e ≡ Nowhere)
among_nowhere fs sought k zero e h = ((λ j l m. absurd (omega (arith, l, m))), h)
among_nowhere fs sought k (suc left) e h =
    let a = with_nowhere k _ _ _ h in
    let b = among_nowhere fs sought (suc k) left e a.2 in (
      (λ j l m. elim (first_or_later j k left l m) [
        | inl q ↦ ap (λ i. same_value (at_place fs i) nil) (sym q) ∙ a.1
        | inr r ↦ b.0 j r.0 r.1
      ]),
      b.1,
    )

-- a search that ends nowhere has met no nil
pub nowhere_full : (t : Table) (fs : List Value) (sought selector : Value) → ending_for t fs sought selector ≡ Nowhere → NoneVacant fs 0 (length fs - 2)
nowhere_full t fs sought selector h =
    let start = bit_and (half_of t selector) (length fs - 2 - 1) in
    let l : start ≤ length fs - 2 = start_within (half_of t selector) (length fs - 2) in
    let a = among_nowhere fs sought start (length fs - 2 - start) _ h in
    let b = among_nowhere fs sought 0 start Nowhere a.1 in
    λ j z m. elim (before_or_not j start) [
      | inl q ↦ b.0 j z (omega (arith, q))
      | inr q ↦ a.0 j q (omega (arith, m, l))
    ]
  where
    before_or_not : (j n : ℕ) → (j < n) ⊎ (n ≤ j)
    before_or_not j n = grind arith

-- VACANCIES

-- how many of so many places from k on hold nil
abbrev pub vacant_among : List Value → ℕ → ℕ → ℕ
vacant_among fs k zero = 0
vacant_among fs k (suc left) = one_more_if (same_value (at_place fs k) nil) (vacant_among fs (suc k) left)

pub tells_vacant : (m : ObjectMemory Table) (reads : ReadsAs m) (t : Table) (d : Value) (o : Object) (k left : ℕ) → object_at t d ≡ Some o → is_pointers o.kind ≡ true → 2 + k + left ≤ length o.fields
    → Tells (count_vacant m d k left) t (vacant_among o.fields k left)
unfolding count_vacant
tells_vacant m reads t d o k zero e p l = tells_answer t 0
tells_vacant m reads t d o k (suc left) e p l =
    tells_then t (fetch_field m d (2 + k)) _ (at_place o.fields k) _ (tells_place m reads t d o e p k (omega (arith, l)))
    (tells_then t (of_page m NilObject) _ nil _ (page_tells m reads t)
    (tells_then t (count_vacant m d (suc k) left) _ (vacant_among o.fields (suc k) left) _ (tells_vacant m reads t d o (suc k) left e p (omega (arith, l)))
    (tells_answer t _)))

pub none_counted : (fs : List Value) (k left : ℕ) → NoneVacant fs k left → vacant_among fs k left ≡ 0
none_counted fs k zero h = refl
none_counted fs k (suc left) h =
    rw (h k (omega arith) (omega arith)) (none_counted fs (suc k) left (λ j l m. h j (omega (arith, l)) (omega (arith, m))))

same_count : (fs : List Value) (i k left : ℕ) (x : Value) → i < k → vacant_among (slice_set fs (2 + i) x) k left ≡ vacant_among fs k left
same_count fs i k zero x l = refl
same_count fs i k (suc left) x l =
    let e : at_place (slice_set fs (2 + i) x) k ≡ at_place fs k = get_or-set_other fs (2 + i) (2 + k) x nil (omega (arith, l)) in
    let f = same_count fs i (suc k) left x (omega (arith, l)) in
    rw (e, f) refl

one_more_most : (b : Bool) (n : ℕ) → one_more_if b n ≤ suc n
one_more_most true n = omega arith
one_more_most false n = omega arith

one_more_least : (b : Bool) (n : ℕ) → n ≤ one_more_if b n
one_more_least true n = omega arith
one_more_least false n = omega arith

one_more_both : (b : Bool) (m n : ℕ) → m ≤ suc n → one_more_if b m ≤ suc (one_more_if b n)
one_more_both true m n l = omega (arith, l)
one_more_both false m n l = l

same_place : (a b : ℕ) → (a ≡ b) ⊎ (a ≢ b)
same_place a b = grind arith

module _ (fs : List Value) (i k left : ℕ) (x : Value) (h : vacant_among fs (suc k) left ≤ suc (vacant_among (slice_set fs (2 + i) x) (suc k) left)) where
  fewer_at : i ≡ k → vacant_among fs k (suc left) ≤ suc (vacant_among (slice_set fs (2 + i) x) k (suc left))
  fewer_at q =
      let a = one_more_most (same_value (at_place fs k) nil) (vacant_among fs (suc k) left) in
      let b = one_more_least (same_value (at_place (slice_set fs (2 + i) x) k) nil) (vacant_among (slice_set fs (2 + i) x) (suc k) left) in
      let c = same_count fs i (suc k) left x (omega (arith, q)) in
      omega (arith, a, b, c)

  fewer_later : i ≢ k → vacant_among fs k (suc left) ≤ suc (vacant_among (slice_set fs (2 + i) x) k (suc left))
  fewer_later q =
      let e : at_place (slice_set fs (2 + i) x) k ≡ at_place fs k = get_or-set_other fs (2 + i) (2 + k) x nil (λ r. q (omega (arith, r))) in
      rw e (one_more_both (same_value (at_place fs k) nil) _ _ h)

  fewer_here : vacant_among fs k (suc left) ≤ suc (vacant_among (slice_set fs (2 + i) x) k (suc left))
  fewer_here = elim (same_place i k) [
    | inl q ↦ fewer_at q
    | inr q ↦ fewer_later q
  ]

-- a store into one place takes one vacancy at most
pub one_fewer : (fs : List Value) (i k left : ℕ) (x : Value) → vacant_among fs k left ≤ suc (vacant_among (slice_set fs (2 + i) x) k left)
one_fewer fs i k zero x = omega arith
one_fewer fs i k (suc left) x = fewer_here fs i k left x (one_fewer fs i (suc k) left x)

-- where all of so many places hold nil, all are counted
pub all_counted : (fs : List Value) (k left : ℕ) → ((j : ℕ) → k ≤ j → j < k + left → same_value (at_place fs j) nil ≡ true) → vacant_among fs k left ≡ left
all_counted fs k zero h = refl
all_counted fs k (suc left) h =
    rw (h k (omega arith) (omega arith)) (ap (λ n. suc n) (all_counted fs (suc k) left (λ j l m. h j (omega (arith, l)) (omega (arith, m)))))

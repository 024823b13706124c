-- The table of a draft: objects made behind it, changes noted one after the other, and fields read from the last change back.
use Rattle.std.proofs.Common.{◌≡◌, ◌≢◌, ℕ, ◌+◌, ◌-◌, ◌*◌, ◌/◌, ◌%◌, ◌<◌, ◌≤◌, ◌⊎◌, inl, inr, zero, suc, true, false, Bool, List, [], ◌∷◌, length, take, drop, set, refl, sym, ap, ◌∙◌, subst, arith, get_or-set_same, get_or-set_other}
use Rattle.std.specs.Prelude.{◌==◌, slice_get, slice_index_or, Some, if◌then◌else◌}
use Rattle.std.proofs.lemmas.Bool.{cases_lt}
use Rattle.std.proofs.lemmas.Bool.Decides.{nat_tests}
use Rattle.std.proofs.lemmas.List.{length-take, length-drop}
use Rattle.st_model.specs.declared.word.Word.{Word}
use Rattle.st_model.specs.Values.{Value, Small, Ref, word, value_of}
use Rattle.st_model.specs.Objects.{is_pointers}
use Rattle.st_model.specs.Table.{Table}
use Rattle.st_model.specs.View.{object_of}
use Rattle.st_draft.specs.declared.change.Change.{Change}
use Rattle.st_draft.specs.declared.change.Change.TheVariants.{Field, Fields}
use Rattle.st_draft.specs.inside.Drafts.{field_value, written, all_written, pointer_fields, after_change, no_change, replayed, HasField, AreLike}
use Rattle.st_draft.proofs.Writing.{likes_self, likes_through, written_like, all_written_like, field_like, written_here, written_else, all_written_else, all_written_here}

-- what changes leave of objects

pub after_like : (t : Table) (c : Change) → AreLike (after_change t c) t
unfolding after_change
after_like t (Field object at value) = written_like t (word object) at (word value)
after_like t (Fields n source from target to) = all_written_like t (word target) to (take n (drop from (pointer_fields t (word source))))

pub replayed_like : (t : Table) (cs : List Change) (k : ℕ) → AreLike (replayed t cs k) t
unfolding replayed
replayed_like t cs zero = likes_self t
replayed_like t cs (suc k) = likes_through (replayed t cs (suc k)) (replayed t cs k) t (after_like (replayed t cs k) (slice_index_or cs k no_change)) (replayed_like t cs k)

-- one change more

replayed_before : (t : Table) (cs : List Change) (n k : ℕ) (c : Change) → k ≤ n → replayed t (set cs n c) k ≡ replayed t cs k
unfolding replayed
replayed_before t cs n zero c l = refl
replayed_before t cs n (suc k) c l =
    let d : k ≢ n = omega (arith, l) in
    ap (λ u. after_change u (slice_index_or (set cs n c) k no_change)) (replayed_before t cs n k c (omega (arith, l)))
    ∙ ap (after_change (replayed t cs k)) (get_or-set_other cs n k c no_change d)

pub replayed_more : (t : Table) (cs : List Change) (n : ℕ) (c : Change) → n < length cs → replayed t (set cs n c) (n + 1) ≡ after_change (replayed t cs n) c
unfolding replayed
replayed_more t cs n c l =
    let e : n + 1 ≡ suc n = omega arith in
    ap (replayed t (set cs n c)) e
    ∙ ap (λ u. after_change u (slice_index_or (set cs n c) n no_change)) (replayed_before t cs n n c (omega arith))
    ∙ ap (after_change (replayed t cs n)) (get_or-set_same cs n c no_change l)

-- words

pub has_name : (t : Table) (v : Value) (i : ℕ) → HasField t v i → (n : ℕ) × (v ≡ Ref n)
unfolding object_of
has_name t (Small k) i has = let l = has.place in absurd (omega (arith, l))
has_name t (Ref n) i has = (n, refl)

abbrev pub back : Value → ℕ
back (Small n) = 2 * n + 1
back (Ref n) = 2 * n

back_if : (w : ℕ) (b : Bool) → (w % 2 == 1) ≡ b → back (if b then Small (w / 2) else Ref (w / 2)) ≡ w
back_if w true e = let odd : w % 2 ≡ 1 = grind (arith, nat_tests) in omega (arith, odd)
back_if w false e = let even : w % 2 ≡ 0 = grind (arith, nat_tests) in omega (arith, even)

pub back_value : (w : ℕ) → back (value_of w) ≡ w
unfolding value_of
back_value w = back_if w (w % 2 == 1) refl

-- different words are different values
pub words_apart : (a b : Word) → a.0 ≢ b.0 → word a ≢ word b
words_apart a b d e = d (sym (back_value a.0) ∙ ap back e ∙ back_value b.0)

words_same : (a b : Word) → a.0 ≡ b.0 → word a ≡ word b
words_same a b e = ap value_of e

-- what was read before one change

written_hit : (t : Table) (v : Value) (i : ℕ) (x : Value) → HasField t v i → field_value (written t v i x) v i ≡ Some x
written_hit t v i x has =
    let r = has_name t v i has in
    subst (λ y. field_value (written t y i x) y i ≡ Some x) (sym r.1) (written_here t r.0 i x (subst (λ y. HasField t y i) r.1 has))

module _ (t : Table) (o : Word) (i : ℕ) where
  pub field_hit : (object : Word) (at : ℕ) (value : Word) → object.0 ≡ o.0 → at ≡ i → HasField t (word o) i → field_value (after_change t (Field object at value)) (word o) i ≡ Some (word value)
  unfolding after_change
  field_hit object at value e f has =
      ap (λ v. field_value (written t v at (word value)) (word o) i) (words_same object o e)
      ∙ ap (λ j. field_value (written t (word o) j (word value)) (word o) i) f
      ∙ written_hit t (word o) i (word value) has

  pub field_miss : (object : Word) (at : ℕ) (value : Word) → (object.0 ≢ o.0) ⊎ (at ≢ i) → field_value (after_change t (Field object at value)) (word o) i ≡ field_value t (word o) i
  unfolding after_change
  field_miss object at value (inl d) = written_else t (word o) (word object) i at (word value) (inl (λ e. words_apart object o d (sym e)))
  field_miss object at value (inr d) = written_else t (word o) (word object) i at (word value) (inr (λ e. d (sym e)))

pub got_take : {A : Type 0} (xs : List A) (n k : ℕ) → k < n → slice_get (take n xs) k ≡ slice_get xs k
got_take [] zero k l = refl
got_take [] (suc n) k l = refl
got_take (x ∷ xs) zero k l = absurd (omega (arith, l))
got_take (x ∷ xs) (suc n) zero l = refl
got_take (x ∷ xs) (suc n) (suc k) l = got_take xs n k (omega (arith, l))

pub got_drop : {A : Type 0} (xs : List A) (n k : ℕ) → slice_get (drop n xs) k ≡ slice_get xs (n + k)
got_drop xs zero k = let e : 0 + k ≡ k = omega arith in ap (slice_get xs) (sym e)
got_drop [] (suc n) k = refl
got_drop (x ∷ xs) (suc n) k = let e : suc n + k ≡ suc (n + k) = omega arith in got_drop xs n k ∙ ap (slice_get (x ∷ xs)) (sym e)

got_within : {A : Type 0} (xs : List A) (k : ℕ) → k < length xs → (y : A) × (slice_get xs k ≡ Some y)
got_within [] k l = absurd (omega (arith, l))
got_within (x ∷ xs) zero l = (x, refl)
got_within (x ∷ xs) (suc k) l = got_within xs k (omega (arith, l))

pub field_there : (t : Table) (v : Value) (i : ℕ) → HasField t v i → (y : Value) × (field_value t v i ≡ Some y)
field_there t v i has = got_within (object_of t v).fields i has.place

module _ (t : Table) (source target : Word) (n from to : ℕ) where
  abbrev copied : List Value
  copied = take n (drop from (pointer_fields t (word source)))

  copied_is : (j : ℕ) → j < n → HasField t (word source) (from + j) → slice_get copied j ≡ field_value t (word source) (from + j)
  copied_is j l has =
      got_take (drop from (pointer_fields t (word source))) n j l
      ∙ got_drop (pointer_fields t (word source)) from j
      ∙ ap (λ b. slice_get (if b then (object_of t (word source)).fields else []) (from + j)) has.pointers

  copied_short : (j : ℕ) → (HasField t (word source) (from + j) → ⊥) → length copied ≤ j
  copied_short j lacks = by_kind (is_pointers (object_of t (word source)).kind) refl
    where
      by_kind : (b : Bool) → is_pointers (object_of t (word source)).kind ≡ b → length (take n (drop from (if b then (object_of t (word source)).fields else []))) ≤ j
      by_kind true e = elim (cases_lt (from + j) (length (object_of t (word source)).fields)) [
        | inl l ↦ absurd (lacks (record { pointers = e; place = l }))
        | inr l ↦ simp (length-take, length-drop) (omega (arith, l))
      ]
      by_kind false e = simp (length-take, length-drop) (omega arith)

  module _ (o : Word) (i : ℕ) where
    pub fields_hit : target.0 ≡ o.0 → to ≤ i → i - to < n → HasField t (word o) i → HasField t (word source) (from + (i - to))
        → field_value (after_change t (Fields n source from target to)) (word o) i ≡ field_value t (word source) (from + (i - to))
    unfolding after_change
    fields_hit e low high has from_has =
        let r = has_name t (word o) i has in
        let y = field_there t (word source) (from + (i - to)) from_has in
        let split : i ≡ to + (i - to) = omega (arith, low) in
        let here : HasField t (Ref r.0) (to + (i - to)) = subst (HasField t (Ref r.0)) split (subst (λ v. HasField t v i) r.1 has) in
        ap (λ v. field_value (all_written t v to copied) (word o) i) (words_same target o e ∙ r.1)
        ∙ ap (λ v. field_value (all_written t (Ref r.0) to copied) v i) r.1
        ∙ ap (field_value (all_written t (Ref r.0) to copied) (Ref r.0)) split
        ∙ all_written_here copied t r.0 to (i - to) y.0 here (copied_is (i - to) high from_has ∙ y.1)
        ∙ sym y.1

    pub fields_miss : (target.0 ≢ o.0) ⊎ (i < to) ⊎ (n ≤ i - to) ⊎ (HasField t (word source) (from + (i - to)) → ⊥) → field_value (after_change t (Fields n source from target to)) (word o) i ≡ field_value t (word o) i
    unfolding after_change
    fields_miss apart = all_written_else copied t (word o) (word target) i to (where_apart apart)
      where
        fewer : length copied ≤ n
        fewer = simp (length-take) (omega arith)

        where_apart : (target.0 ≢ o.0) ⊎ (i < to) ⊎ (n ≤ i - to) ⊎ (HasField t (word source) (from + (i - to)) → ⊥) → (word o ≢ word target) ⊎ ((j : ℕ) → j < length copied → i ≢ to + j)
        where_apart (inl d) = inl (λ e. words_apart target o d (sym e))
        where_apart (inr (inl l)) = inr (λ j k e. omega (arith, l, k, e))
        where_apart (inr (inr (inl l))) = inr (λ j k e. let f = fewer in omega (arith, l, k, e, f))
        where_apart (inr (inr (inr lacks))) = inr (λ j k e. let f = copied_short (i - to) lacks in omega (arith, f, k, e))

-- what was read before change number k of a draft's

module _ (t : Table) (cs : List Change) (k : ℕ) (o : Word) (i : ℕ) (has : HasField t (word o) i) where
  has_then : HasField (replayed t cs k) (word o) i
  has_then = field_like (replayed t cs k) t (word o) i (replayed_like t cs k) has

  step_is : (c : Change) → slice_index_or cs k no_change ≡ c → replayed t cs (k + 1) ≡ after_change (replayed t cs k) c
  unfolding replayed
  step_is c e = let q : k + 1 ≡ suc k = omega arith in ap (replayed t cs) q ∙ ap (after_change (replayed t cs k)) e

  pub from_value : (object : Word) (at : ℕ) (value : Word) → slice_index_or cs k no_change ≡ Field object at value → object.0 ≡ o.0 → at ≡ i → field_value (replayed t cs (k + 1)) (word o) i ≡ Some (word value)
  from_value object at value e f g = ap (λ u. field_value u (word o) i) (step_is (Field object at value) e) ∙ field_hit (replayed t cs k) o i object at value f g has_then

  pub from_field : (object : Word) (at : ℕ) (value : Word) → slice_index_or cs k no_change ≡ Field object at value → (object.0 ≢ o.0) ⊎ (at ≢ i)
      → HasField t (word o) i × (field_value (replayed t cs (k + 1)) (word o) i ≡ field_value (replayed t cs k) (word o) i)
  from_field object at value e apart = (has, ap (λ u. field_value u (word o) i) (step_is (Field object at value) e) ∙ field_miss (replayed t cs k) o i object at value apart)

  module _ (source target : Word) (n from to : ℕ) (e : slice_index_or cs k no_change ≡ Fields n source from target to) where
    pub from_source : (j : ℕ) → target.0 ≡ o.0 → to ≤ i → i - to < n → (j ≡ from + (i - to)) × HasField t (word source) j
        → HasField t (word source) j × (field_value (replayed t cs (k + 1)) (word o) i ≡ field_value (replayed t cs k) (word source) j)
    from_source j f low high found =
        let then_has = field_like (replayed t cs k) t (word source) j (replayed_like t cs k) found.1 in (
          found.1,
          ap (λ u. field_value u (word o) i) (step_is (Fields n source from target to) e)
              ∙ fields_hit (replayed t cs k) source target n from to o i f low high has_then (subst (HasField (replayed t cs k) (word source)) found.0 then_has)
              ∙ ap (field_value (replayed t cs k) (word source)) (sym found.0),
        )

    pub from_before : (target.0 ≢ o.0) ⊎ (i < to) ⊎ (n ≤ i - to) ⊎ (HasField t (word source) (from + (i - to)) → ⊥)
        → HasField t (word o) i × (field_value (replayed t cs (k + 1)) (word o) i ≡ field_value (replayed t cs k) (word o) i)
    from_before apart = (
      has,
      ap (λ u. field_value u (word o) i) (step_is (Fields n source from target to) e)
          ∙ fields_miss (replayed t cs k) source target n from to o i (apart_then apart),
    )
      where
        apart_then : (target.0 ≢ o.0) ⊎ (i < to) ⊎ (n ≤ i - to) ⊎ (HasField t (word source) (from + (i - to)) → ⊥) → (target.0 ≢ o.0) ⊎ (i < to) ⊎ (n ≤ i - to) ⊎ (HasField (replayed t cs k) (word source) (from + (i - to)) → ⊥)
        apart_then (inl d) = inl d
        apart_then (inr (inl l)) = inr (inl l)
        apart_then (inr (inr (inl l))) = inr (inr (inl l))
        apart_then (inr (inr (inr lacks))) = inr (inr (inr (λ h. lacks (record {
          pointers = ap is_pointers (sym ((replayed_like t cs k).objects (word source)).kind) ∙ h.pointers;
          place = subst (λ m. from + (i - to) < m) ((replayed_like t cs k).objects (word source)).count h.place;
        }))))

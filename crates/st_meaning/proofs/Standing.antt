-- What stands in fields, in variables and on the stack once a word was stored, pushed or popped.
use Rattle.std.proofs.Common.{◌≡◌, ◌≢◌, ◌⊎◌, inl, inr, ℕ, zero, suc, ◌+◌, ◌<◌, ◌≤◌, List, [], ◌∷◌, length, true, Some, None, refl, sym, ap, ◌∙◌, subst, arith}
use Rattle.std.specs.Prelude.{◌-◌, slice_get, slice_set}
use Rattle.st_model.specs.Values.{Value, Small, Ref}
use Rattle.st_model.specs.Objects.{Object, is_pointers, with_field}
use Rattle.st_model.specs.Machine.{ObjectMemory}
use Rattle.st_model.proofs.Transfers.{same_or_not}
use Rattle.st_meaning.specs.inside.Machines.{KeepsOthers, field_in, literal_in, object_in, field_at, words_from}
use Rattle.st_meaning.proofs.Inverting.{Stored}
use Rattle.st_model.proofs.KindTests.{no_method}

get_same : {A : Type 0} (xs : List A) (i : ℕ) (x : A) → i < length xs → slice_get (slice_set xs i x) i ≡ Some x
get_same [] i x l = absurd (omega (arith, l))
get_same (y ∷ ys) zero x l = refl
get_same (y ∷ ys) (suc i) x l = get_same ys i x (omega (arith, l))

get_other : {A : Type 0} (xs : List A) (i j : ℕ) (x : A) → j ≢ i → slice_get (slice_set xs i x) j ≡ slice_get xs j
get_other [] i j x d = refl
get_other (y ∷ ys) zero zero x d = absurd (d refl)
get_other (y ∷ ys) zero (suc j) x d = refl
get_other (y ∷ ys) (suc i) zero x d = refl
get_other (y ∷ ys) (suc i) (suc j) x d = get_other ys i j x (λ e. d (ap suc e))

field_of_kind : (o : Object) (i : ℕ) → is_pointers o.kind ≡ true → field_in (Some o) i ≡ slice_get o.fields i
field_of_kind o i k = rw k refl

no_literal : (o : Object) (i : ℕ) → is_pointers o.kind ≡ true → literal_in (Some o) i ≡ None
no_literal o i k = rw (no_method o.kind k) refl

module _ {H : Type 0} (m : ObjectMemory H) (laws : KeepsOthers m) where
  module _ (h g : H) (v : Value) (i : ℕ) (x : Value) (st : Stored m h g v i x) where
    abbrev new_object : Object
    new_object = with_field st.object i x

    object_new : object_in m g v ≡ Some new_object
    object_new =
        subst (λ w. object_in m g w ≡ Some new_object) (sym st.is)
        (subst (λ z. m.read z st.name ≡ Some new_object) (sym st.new) (laws.same h st.name new_object st.object st.read))

    object_old : object_in m h v ≡ Some st.object
    object_old = subst (λ w. object_in m h w ≡ Some st.object) (sym st.is) st.read

    object_other : (w : Value) → w ≢ v → object_in m g w ≡ object_in m h w
    object_other (Small n) d = refl
    object_other (Ref n) d = subst (λ z. m.read z n ≡ m.read h n) (sym st.new) (laws.other h st.name n new_object (λ e. d (ap Ref e ∙ sym st.is)))

    pub field_same : field_at m g v i ≡ Some x
    field_same = ap (λ o. field_in o i) object_new ∙ field_of_kind new_object i st.kind ∙ get_same st.object.fields i x st.range

    pub field_else : (j : ℕ) → j ≢ i → field_at m g v j ≡ field_at m h v j
    field_else j d =
        ap (λ o. field_in o j) object_new ∙ field_of_kind new_object j st.kind ∙ get_other st.object.fields i j x d
        ∙ sym (field_of_kind st.object j st.kind) ∙ sym (ap (λ o. field_in o j) object_old)

    pub field_other : (w : Value) (j : ℕ) → w ≢ v → field_at m g w j ≡ field_at m h w j
    field_other w j d = ap (λ o. field_in o j) (object_other w d)

    -- another object, or another of its fields
    pub field_apart : (w : Value) (j : ℕ) → (w ≡ v → j ≢ i) → field_at m g w j ≡ field_at m h w j
    field_apart w j d = elim (same_or_not w v) [
      | inl e ↦ subst (λ z. field_at m g z j ≡ field_at m h z j) (sym e) (field_else j (d e))
      | inr e ↦ field_other w j e
    ]

    literal_same : (j : ℕ) → literal_in (object_in m g v) j ≡ literal_in (object_in m h v) j
    literal_same j =
        ap (λ o. literal_in o j) object_new ∙ no_literal new_object j st.kind ∙ sym (no_literal st.object j st.kind) ∙ sym (ap (λ o. literal_in o j) object_old)

    -- a method's literals stay
    pub literal_kept : (w : Value) (j : ℕ) → literal_in (object_in m g w) j ≡ literal_in (object_in m h w) j
    literal_kept w j = elim (same_or_not w v) [
      | inl e ↦ subst (λ z. literal_in (object_in m g z) j ≡ literal_in (object_in m h z) j) (sym e) (literal_same j)
      | inr e ↦ ap (λ o. literal_in o j) (object_other w e)
    ]

    -- words of a context stay where none of its fields among them was stored into
    pub words_kept : (c : Value) (at n : ℕ) → (c ≡ v → (i + n ≤ at) ⊎ (at < i)) → words_from m g c at n ≡ words_from m h c at n
    words_kept c at zero d = refl
    words_kept c at (suc n) d =
        let first : field_at m g c at ≡ field_at m h c at = field_apart c at (λ e. elim (d e) [
          | inl l ↦ (λ q. absurd (omega (arith, l, q)))
          | inr l ↦ (λ q. absurd (omega (arith, l, q)))
        ]) in
        let rest : words_from m g c (at - 1) n ≡ words_from m h c (at - 1) n = words_kept c (at - 1) n (λ e. elim (d e) [
          | inl l ↦ inl (omega (arith, l))
          | inr l ↦ inr (omega (arith, l))
        ]) in
        rw (first, rest) refl

  -- the stack with a word more

  pub pushed_words : (h : H) (c : Value) (sp below : ℕ) (x : Value) → 5 + below ≤ sp → field_at m h c (sp + 1) ≡ Some x
      → words_from m h c (sp + 1) ((sp + 1) - (5 + below)) ≡ Some x ∷ words_from m h c sp (sp - (5 + below))
  pushed_words h c sp below x l e =
      let n : (sp + 1) - (5 + below) ≡ suc (sp - (5 + below)) = omega (arith, l) in
      let p : (sp + 1) - 1 ≡ sp = omega arith in
      rw (n, e, p) refl

  pub popped_words : (h : H) (c : Value) (sp below : ℕ) (x : Value) → 5 + below < sp → field_at m h c sp ≡ Some x
      → words_from m h c sp (sp - (5 + below)) ≡ Some x ∷ words_from m h c (sp - 1) ((sp - 1) - (5 + below))
  popped_words h c sp below x l e =
      let n : sp - (5 + below) ≡ suc ((sp - 1) - (5 + below)) = omega (arith, l) in
      rw (n, e) refl

-- Reading a field after fields were written, and what a written field leaves of objects.
use Rattle.std.proofs.Common.{◌≡◌, ◌≢◌, ℕ, ◌+◌, ◌<◌, ◌⊎◌, inl, inr, zero, suc, true, false, Bool, List, [], ◌∷◌, length, set, refl, sym, ap, ◌∙◌, subst, arith, length-set, is_some}
use Rattle.std.specs.Prelude.{slice_get, unwrap_or, Option, Some, None, if◌then◌else◌}
use Rattle.std.proofs.lemmas.Bool.{cases_eq}
use Rattle.st_model.specs.Values.{Value, Small, Ref}
use Rattle.st_model.specs.Objects.{Object, is_pointers, with_field}
use Rattle.st_model.specs.Table.{Table, entry, changed}
use Rattle.st_model.specs.View.{nothing, is_live, object_of, with_stored}
use Rattle.st_model.proofs.TableLemmas.{changed-some, changed-none, changed-other}
use Rattle.st_draft.specs.inside.Drafts.{field_value, written, all_written, HasField, IsLike, AreLike}

got_set : (fs : List Value) (j : ℕ) (x : Value) → j < length fs → slice_get (set fs j x) j ≡ Some x
got_set [] j x l = absurd (omega (arith, l))
got_set (f ∷ fs) zero x l = refl
got_set (f ∷ fs) (suc j) x l = got_set fs j x (omega (arith, l))

got_other : (fs : List Value) (i j : ℕ) (x : Value) → i ≢ j → slice_get (set fs j x) i ≡ slice_get fs i
got_other [] i j x d = refl
got_other (f ∷ fs) zero zero x d = absurd (d refl)
got_other (f ∷ fs) zero (suc j) x d = refl
got_other (f ∷ fs) (suc i) zero x d = refl
got_other (f ∷ fs) (suc i) (suc j) x d = got_other fs i j x (λ e. d (ap (λ k. suc k) e))

-- the table with an object in place of one that is there

here_changed : (t : Table) (n : ℕ) (e : Option Object) (o : Object) → entry t n ≡ e → (is_some e ≡ true → unwrap_or (entry (changed t n o) n) nothing ≡ o) × (is_some e ≡ false → unwrap_or (entry (changed t n o) n) nothing ≡ nothing)
here_changed t n None o at = (λ h. absurd (cc), λ h. ap (λ x. unwrap_or x nothing) (changed-none t n o at))
here_changed t n (Some a) o at = (λ h. ap (λ x. unwrap_or x nothing) (changed-some t n o a at), λ h. absurd (cc))

module _ (t : Table) (n : ℕ) (o : Object) where
  pub object_changed : is_some (entry t n) ≡ true → object_of (changed t n o) (Ref n) ≡ o
  unfolding object_of
  object_changed = (here_changed t n (entry t n) o refl).0

  pub object_absent : is_some (entry t n) ≡ false → object_of (changed t n o) (Ref n) ≡ object_of t (Ref n)
  unfolding object_of
  object_absent h = (here_changed t n (entry t n) o refl).1 h ∙ sym (absent (entry t n) h)
    where
      absent : (e : Option Object) → is_some e ≡ false → unwrap_or e nothing ≡ nothing
      absent None h = refl
      absent (Some a) h = cc

  pub object_other : (k : ℕ) → k ≢ n → object_of (changed t n o) (Ref k) ≡ object_of t (Ref k)
  unfolding object_of
  object_other k d = ap (λ x. unwrap_or x nothing) (changed-other t n k o d)

  pub live_changed : (v : Value) → is_live (changed t n o) v ≡ is_live t v
  unfolding is_live
  live_changed (Small k) = refl
  live_changed (Ref k) = elim (cases_eq k n) [
    | inl e ↦ subst (λ j. is_some (entry (changed t n o) j) ≡ is_some (entry t j)) (sym e) (same (entry t n) refl)
    | inr d ↦ ap is_some (changed-other t n k o d)
  ]
    where
      same : (e : Option Object) → entry t n ≡ e → is_some (entry (changed t n o) n) ≡ is_some (entry t n)
      same None at = ap is_some (changed-none t n o at) ∙ sym (ap is_some at)
      same (Some a) at = ap is_some (changed-some t n o a at) ∙ sym (ap is_some at)

-- what writing leaves

like_self : (a : Object) → IsLike a a
like_self a = record { class = refl; kind = refl; count = refl; units = refl; same = λ h. refl }

like_is : (a b : Object) → a ≡ b → IsLike a b
like_is a b e = subst (λ (x : Object). IsLike a x) e (like_self a)

pub likes_self : (t : Table) → AreLike t t
likes_self t = record { objects = λ v. like_self (object_of t v); live = λ v. refl }

like_through : (a b c : Object) → IsLike a b → IsLike b c → IsLike a c
like_through a b c p q = record {
  class = p.class ∙ q.class;
  kind = p.kind ∙ q.kind;
  count = p.count ∙ q.count;
  units = p.units ∙ q.units;
  same = λ h. p.same (ap is_pointers q.kind ∙ h) ∙ q.same h;
}

pub likes_through : (t u w : Table) → AreLike t u → AreLike u w → AreLike t w
likes_through t u w p q = record { objects = λ v. like_through (object_of t v) (object_of u v) (object_of w v) (p.objects v) (q.objects v); live = λ v. p.live v ∙ q.live v }

like_field : (o : Object) (i : ℕ) (x : Value) → is_pointers o.kind ≡ true → IsLike (with_field o i x) o
like_field o i x h = record { class = refl; kind = refl; count = length-set o.fields i x; units = refl; same = λ g. absurd (cc) }

like_here : (t : Table) (n i : ℕ) (x : Value) (b : Bool) → is_pointers (object_of t (Ref n)).kind ≡ true → is_some (entry t n) ≡ b → IsLike (object_of (changed t n (with_field (object_of t (Ref n)) i x)) (Ref n)) (object_of t (Ref n))
like_here t n i x true h e = subst (λ (a : Object). IsLike a (object_of t (Ref n))) (sym (object_changed t n (with_field (object_of t (Ref n)) i x) e)) (like_field (object_of t (Ref n)) i x h)
like_here t n i x false h e = like_is _ _ (object_absent t n (with_field (object_of t (Ref n)) i x) e)

like_all : (t : Table) (n i : ℕ) (x v : Value) → is_pointers (object_of t (Ref n)).kind ≡ true → IsLike (object_of (changed t n (with_field (object_of t (Ref n)) i x)) v) (object_of t v)
unfolding object_of
like_all t n i x (Small k) h = like_self nothing
like_all t n i x (Ref k) h = elim (cases_eq k n) [
  | inl e ↦ subst (λ j. IsLike (object_of (changed t n (with_field (object_of t (Ref n)) i x)) (Ref j)) (object_of t (Ref j))) (sym e) (like_here t n i x (is_some (entry t n)) h refl)
  | inr d ↦ like_is _ _ (object_other t n (with_field (object_of t (Ref n)) i x) k d)
]

stored_like : (t : Table) (n i : ℕ) (x : Value) → is_pointers (object_of t (Ref n)).kind ≡ true → AreLike (changed t n (with_field (object_of t (Ref n)) i x)) t
stored_like t n i x h = record { objects = λ v. like_all t n i x v h; live = live_changed t n (with_field (object_of t (Ref n)) i x) }

pub written_like : (t : Table) (v : Value) (i : ℕ) (x : Value) → AreLike (written t v i x) t
unfolding written with_stored
written_like t (Small n) i x = by_kind (is_pointers (object_of t (Small n)).kind)
  where
    by_kind : (b : Bool) → AreLike (if b then t else t) t
    by_kind true = likes_self t
    by_kind false = likes_self t
written_like t (Ref n) i x = by_kind (is_pointers (object_of t (Ref n)).kind) refl
  where
    by_kind : (b : Bool) → is_pointers (object_of t (Ref n)).kind ≡ b → AreLike (if b then changed t n (with_field (object_of t (Ref n)) i x) else t) t
    by_kind true e = stored_like t n i x e
    by_kind false e = likes_self t

pub all_written_like : (t : Table) (v : Value) (i : ℕ) (xs : List Value) → AreLike (all_written t v i xs) t
unfolding all_written
all_written_like t v i [] = likes_self t
all_written_like t v i (x ∷ xs) = likes_through (all_written (written t v i x) v (suc i) xs) (written t v i x) t (all_written_like (written t v i x) v (suc i) xs) (written_like t v i x)

pub field_like : (t u : Table) (v : Value) (i : ℕ) → AreLike t u → HasField u v i → HasField t v i
field_like t u v i like has = record {
  pointers = ap is_pointers (like.objects v).kind ∙ has.pointers;
  place = subst (λ n. i < n) (sym (like.objects v).count) has.place;
}

-- what reading a field gives after writing

written_is : (t : Table) (n i : ℕ) (x : Value) → is_pointers (object_of t (Ref n)).kind ≡ true → written t (Ref n) i x ≡ changed t n (with_field (object_of t (Ref n)) i x)
unfolding written with_stored
written_is t n i x h = ap (λ b. if b then changed t n (with_field (object_of t (Ref n)) i x) else t) h

there : (t : Table) (n i : ℕ) → HasField t (Ref n) i → is_some (entry t n) ≡ true
unfolding object_of
there t n i has = some (entry t n) has.place
  where
    some : (e : Option Object) → i < length (unwrap_or e nothing).fields → is_some e ≡ true
    some None l = absurd (omega (arith, l))
    some (Some o) l = refl

pub written_here : (t : Table) (n i : ℕ) (x : Value) → HasField t (Ref n) i → field_value (written t (Ref n) i x) (Ref n) i ≡ Some x
written_here t n i x has =
    let o = with_field (object_of t (Ref n)) i x in
    ap (λ u. field_value u (Ref n) i) (written_is t n i x has.pointers)
    ∙ ap (λ (a : Object). slice_get a.fields i) (object_changed t n o (there t n i has))
    ∙ got_set (object_of t (Ref n)).fields i x has.place

other_field : (t : Table) (n i j : ℕ) (x : Value) (b : Bool) → is_some (entry t n) ≡ b → i ≢ j → field_value (changed t n (with_field (object_of t (Ref n)) j x)) (Ref n) i ≡ field_value t (Ref n) i
other_field t n i j x true e d = ap (λ (a : Object). slice_get a.fields i) (object_changed t n (with_field (object_of t (Ref n)) j x) e) ∙ got_other (object_of t (Ref n)).fields i j x d
other_field t n i j x false e d = ap (λ (a : Object). slice_get a.fields i) (object_absent t n (with_field (object_of t (Ref n)) j x) e)

elsewhere : (t : Table) (w : Value) (n i j : ℕ) (x : Value) → (w ≢ Ref n) ⊎ (i ≢ j) → field_value (changed t n (with_field (object_of t (Ref n)) j x)) w i ≡ field_value t w i
unfolding object_of
elsewhere t (Small k) n i j x apart = refl
elsewhere t (Ref k) n i j x apart = elim (cases_eq k n) [
  | inl e ↦ subst (λ m. field_value (changed t n (with_field (object_of t (Ref n)) j x)) (Ref m) i ≡ field_value t (Ref m) i) (sym e) (other_field t n i j x (is_some (entry t n)) refl (elim apart [ inl d ↦ absurd (d (ap Ref e)) | inr d ↦ d ]))
  | inr d ↦ ap (λ (a : Object). slice_get a.fields i) (object_other t n (with_field (object_of t (Ref n)) j x) k d)
]

pub written_else : (t : Table) (v q : Value) (i j : ℕ) (x : Value) → (v ≢ q) ⊎ (i ≢ j) → field_value (written t q j x) v i ≡ field_value t v i
unfolding written with_stored
written_else t v (Small n) i j x apart = by_kind (is_pointers (object_of t (Small n)).kind)
  where
    by_kind : (b : Bool) → field_value (if b then t else t) v i ≡ field_value t v i
    by_kind true = refl
    by_kind false = refl
written_else t v (Ref n) i j x apart = by_kind (is_pointers (object_of t (Ref n)).kind)
  where
    by_kind : (b : Bool) → field_value (if b then changed t n (with_field (object_of t (Ref n)) j x) else t) v i ≡ field_value t v i
    by_kind true = elsewhere t v n i j x apart
    by_kind false = refl

pub all_written_else : (xs : List Value) (t : Table) (v q : Value) (i to : ℕ) → (v ≢ q) ⊎ ((j : ℕ) → j < length xs → i ≢ to + j) → field_value (all_written t q to xs) v i ≡ field_value t v i
unfolding all_written
all_written_else [] t v q i to apart = refl
all_written_else (x ∷ xs) t v q i to apart =
    all_written_else xs (written t q to x) v q i (suc to) (rest apart) ∙ written_else t v q i to x (first apart)
  where
    first : (v ≢ q) ⊎ ((j : ℕ) → j < suc (length xs) → i ≢ to + j) → (v ≢ q) ⊎ (i ≢ to)
    first (inl d) = inl d
    first (inr f) = inr (λ e. f 0 (omega arith) (omega (arith, e)))

    rest : (v ≢ q) ⊎ ((j : ℕ) → j < suc (length xs) → i ≢ to + j) → (v ≢ q) ⊎ ((j : ℕ) → j < length xs → i ≢ suc to + j)
    rest (inl d) = inl d
    rest (inr f) = inr (λ j l e. f (suc j) (omega (arith, l)) (omega (arith, e)))

pub all_written_here : (xs : List Value) (t : Table) (n to j : ℕ) (y : Value) → HasField t (Ref n) (to + j) → slice_get xs j ≡ Some y → field_value (all_written t (Ref n) to xs) (Ref n) (to + j) ≡ Some y
unfolding all_written
all_written_here [] t n to j y has at = cc
all_written_here (x ∷ xs) t n to zero y has at =
    let e : to + 0 ≡ to = omega arith in
    let here : HasField t (Ref n) to = subst (HasField t (Ref n)) e has in
    let same : x ≡ y = cc in
    ap (field_value (all_written (written t (Ref n) to x) (Ref n) (suc to) xs) (Ref n)) e
    ∙ all_written_else xs (written t (Ref n) to x) (Ref n) (Ref n) to (suc to) (inr (λ k l q. omega (arith, q)))
    ∙ written_here t n to x here ∙ ap Some same
all_written_here (x ∷ xs) t n to (suc j) y has at =
    let e : to + suc j ≡ suc to + j = omega arith in
    ap (field_value (all_written (written t (Ref n) to x) (Ref n) (suc to) xs) (Ref n)) e
    ∙ all_written_here xs (written t (Ref n) to x) n (suc to) j y (field_like (written t (Ref n) to x) t (Ref n) (suc to + j) (written_like t (Ref n) to x) (subst (HasField t (Ref n)) e has)) at

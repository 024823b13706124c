-- Fields of a table after some of them were stored, and what the copying of several comes to.
use Rattle.std.proofs.Common.{◌≡◌, ◌≢◌, ℕ, zero, suc, ◌+◌, ◌<◌, ◌≤◌, List, [], ◌∷◌, ◌++◌, length, Bool, true, false, Some, None, refl, sym, ◌∙◌, ap, subst, arith, is_some, set, length-set, ◌⊎◌, inl, inr}
use Rattle.std.proofs.lemmas.List.{get_or-set_same, get_or-set_other}
use Rattle.std.proofs.lemmas.Bool.{cases_eq, false≢true}
use Rattle.std.specs.Prelude.{unwrap_or}
use Rattle.st_model.specs.Values.{Value, Small, Ref}
use Rattle.st_model.specs.Objects.{Object, with_field, nil}
use Rattle.st_model.specs.Table.{Table, entry, changed}
use Rattle.st_model.specs.View.{is_live, object_of, with_stored, with_fields, field_of, fields_from, nothing}
use Rattle.st_model.proofs.TableLemmas.{changed-some, changed-other}
use Rattle.st_model.proofs.WholeLemmas.{named}

some_changed : (t : Table) (n k : ℕ) (o : Object) → is_some (entry (changed t k o) n) ≡ is_some (entry t n)
some_changed [] n k o = refl
some_changed (None ∷ t) zero zero o = refl
some_changed (Some a ∷ t) zero zero o = refl
some_changed (e ∷ t) zero (suc k) o = refl
some_changed (None ∷ t) (suc n) zero o = refl
some_changed (Some a ∷ t) (suc n) zero o = refl
some_changed (e ∷ t) (suc n) (suc k) o = some_changed t n k o

live_at : (t : Table) (v : Value) (i : ℕ) (x : Value) (n : ℕ) → is_some (entry (with_stored t v i x) n) ≡ is_some (entry t n)
unfolding with_stored
live_at t (Small k) i x n = refl
live_at t (Ref k) i x n = some_changed t n k (with_field (object_of t (Ref k)) i x)

pub live_stored : (t : Table) (v : Value) (i : ℕ) (x u : Value) → is_live (with_stored t v i x) u ≡ is_live t u
unfolding is_live
live_stored t v i x (Small n) = refl
live_stored t v i x (Ref n) = live_at t v i x n

stored_some : (t : Table) (n i : ℕ) (x : Value) (a : Object) → entry t n ≡ Some a → object_of (with_stored t (Ref n) i x) (Ref n) ≡ with_field (object_of t (Ref n)) i x
unfolding object_of with_stored
stored_some t n i x a e = rw (changed-some t n (with_field (unwrap_or (entry t n) nothing) i x) a e) refl

pub object_stored : (t : Table) (v : Value) (i : ℕ) (x : Value) → is_live t v ≡ true → object_of (with_stored t v i x) v ≡ with_field (object_of t v) i x
object_stored t v i x live =
    let r = named t v live in
    rw r.2 (stored_some t r.0 i x r.1 r.3)

other_at : (t : Table) (n k i : ℕ) (x : Value) → n ≢ k → object_of (with_stored t (Ref k) i x) (Ref n) ≡ object_of t (Ref n)
unfolding object_of with_stored
other_at t n k i x other = rw (changed-other t k n (with_field (unwrap_or (entry t k) nothing) i x) other) refl

pub object_stored-other : (t : Table) (v : Value) (i : ℕ) (x u : Value) → u ≢ v → object_of (with_stored t v i x) u ≡ object_of t u
unfolding object_of with_stored
object_stored-other t v i x (Small n) other = refl
object_stored-other t (Small k) i x (Ref n) other = refl
object_stored-other t (Ref k) i x (Ref n) other = other_at t n k i x (λ e. other (ap Ref e))

abbrev name_in : Value → ℕ
name_in (Small k) = k
name_in (Ref k) = k

abbrev is_ref : Value → Bool
is_ref (Small k) = false
is_ref (Ref k) = true

-- two values are the same, or not
pub same_or_not : (u v : Value) → (u ≡ v) ⊎ (u ≢ v)
same_or_not (Small m) (Small n) = elim (cases_eq m n) [
  | inl e ↦ inl (ap Small e)
  | inr d ↦ inr (λ e. d (ap name_in e))
]
same_or_not (Small m) (Ref n) = inr (λ e. false≢true (ap is_ref e))
same_or_not (Ref m) (Small n) = inr (λ e. false≢true (sym (ap is_ref e)))
same_or_not (Ref m) (Ref n) = elim (cases_eq m n) [
  | inl e ↦ inl (ap Ref e)
  | inr d ↦ inr (λ e. d (ap name_in e))
]

module _ (t : Table) (v : Value) (i : ℕ) (x : Value) (live : is_live t v ≡ true) where
  -- the number of fields stays
  pub count_stored : (u : Value) → length (object_of (with_stored t v i x) u).fields ≡ length (object_of t u).fields
  count_stored u = elim (same_or_not u v) [
    | inl e ↦ rw (e, object_stored t v i x live) (length-set (object_of t v).fields i x)
    | inr d ↦ rw (object_stored-other t v i x u d) refl
  ]

  pub kind_stored : (u : Value) → (object_of (with_stored t v i x) u).kind ≡ (object_of t u).kind
  kind_stored u = elim (same_or_not u v) [
    | inl e ↦ rw (e, object_stored t v i x live) refl
    | inr d ↦ rw (object_stored-other t v i x u d) refl
  ]

  pub field_stored : i < length (object_of t v).fields → field_of (with_stored t v i x) v i ≡ x
  unfolding field_of
  field_stored l = rw (object_stored t v i x live) (get_or-set_same (object_of t v).fields i x nil l)

  pub field_stored-beside : (u : Value) (j : ℕ) → j ≢ i → field_of (with_stored t v i x) u j ≡ field_of t u j
  unfolding field_of
  field_stored-beside u j d = elim (same_or_not u v) [
    | inl e ↦ rw (e, object_stored t v i x live) (get_or-set_other (object_of t v).fields i j x nil d)
    | inr o ↦ rw (object_stored-other t v i x u o) refl
  ]

  pub field_stored-other : (u : Value) (j : ℕ) → u ≢ v → field_of (with_stored t v i x) u j ≡ field_of t u j
  unfolding field_of
  field_stored-other u j o = rw (object_stored-other t v i x u o) refl

-- several fields

pub live_with_fields : (t : Table) (v : Value) (i : ℕ) (xs : List Value) (u : Value) → is_live (with_fields t v i xs) u ≡ is_live t u
unfolding with_fields
live_with_fields t v i [] u = refl
live_with_fields t v i (x ∷ xs) u = live_with_fields (with_stored t v i x) v (suc i) xs u ∙ live_stored t v i x u

pub count_with_fields : (t : Table) (v : Value) (i : ℕ) (xs : List Value) (u : Value) → is_live t v ≡ true
    → length (object_of (with_fields t v i xs) u).fields ≡ length (object_of t u).fields
unfolding with_fields
count_with_fields t v i [] u live = refl
count_with_fields t v i (x ∷ xs) u live =
    count_with_fields (with_stored t v i x) v (suc i) xs u (live_stored t v i x v ∙ live) ∙ count_stored t v i x live u

pub kind_with_fields : (t : Table) (v : Value) (i : ℕ) (xs : List Value) (u : Value) → is_live t v ≡ true
    → (object_of (with_fields t v i xs) u).kind ≡ (object_of t u).kind
unfolding with_fields
kind_with_fields t v i [] u live = refl
kind_with_fields t v i (x ∷ xs) u live =
    kind_with_fields (with_stored t v i x) v (suc i) xs u (live_stored t v i x v ∙ live) ∙ kind_stored t v i x live u

pub field_with_fields-other : (t : Table) (v : Value) (i : ℕ) (xs : List Value) (u : Value) (j : ℕ) → is_live t v ≡ true → u ≢ v
    → field_of (with_fields t v i xs) u j ≡ field_of t u j
unfolding with_fields
field_with_fields-other t v i [] u j live o = refl
field_with_fields-other t v i (x ∷ xs) u j live o =
    field_with_fields-other (with_stored t v i x) v (suc i) xs u j (live_stored t v i x v ∙ live) o ∙ field_stored-other t v i x live u j o

-- below or above the stored ones
pub field_with_fields-beside : (t : Table) (v : Value) (i : ℕ) (xs : List Value) (u : Value) (j : ℕ) → is_live t v ≡ true → (j < i) ⊎ (i + length xs ≤ j)
    → field_of (with_fields t v i xs) u j ≡ field_of t u j
unfolding with_fields
field_with_fields-beside t v i [] u j live l = refl
field_with_fields-beside t v i (x ∷ xs) u j live l =
    field_with_fields-beside (with_stored t v i x) v (suc i) xs u j (live_stored t v i x v ∙ live) (later l)
    ∙ field_stored-beside t v i x live u j (λ e. apart l e)
  where
    later : (j < i) ⊎ (i + length (x ∷ xs) ≤ j) → (j < suc i) ⊎ (suc i + length xs ≤ j)
    later (inl h) = inl (omega (arith, h))
    later (inr h) = inr (omega (arith, h))

    apart : (j < i) ⊎ (i + length (x ∷ xs) ≤ j) → j ≢ i
    apart (inl h) e = omega (arith, h, e)
    apart (inr h) e = omega (arith, h, e)

pub fields_from-length : (t : Table) (v : Value) (i n : ℕ) → length (fields_from t v i n) ≡ n
unfolding fields_from
fields_from-length t v i zero = refl
fields_from-length t v i (suc n) = ap suc (fields_from-length t v (suc i) n)

pub fields_from-more : (t : Table) (v : Value) (i n : ℕ) → fields_from t v i (suc n) ≡ fields_from t v i n ++ (field_of t v (i + n) ∷ [])
unfolding fields_from
fields_from-more t v i zero = let e : i + 0 ≡ i = omega arith in rw e refl
fields_from-more t v i (suc n) =
    let e : suc i + n ≡ i + suc n = omega arith in
    ap (λ xs. field_of t v i ∷ xs) (subst (λ k. fields_from t v (suc i) (suc n) ≡ fields_from t v (suc i) n ++ (field_of t v k ∷ [])) e (fields_from-more t v (suc i) n))

pub with_fields-more : (t : Table) (v : Value) (i : ℕ) (xs : List Value) (x : Value) → with_fields t v i (xs ++ (x ∷ [])) ≡ with_stored (with_fields t v i xs) v (i + length xs) x
unfolding with_fields
with_fields-more t v i [] x = let e : i + 0 ≡ i = omega arith in rw e refl
with_fields-more t v i (y ∷ xs) x =
    let e : suc i + length xs ≡ i + suc (length xs) = omega arith in
    subst (λ k. with_fields (with_stored t v i y) v (suc i) (xs ++ (x ∷ [])) ≡ with_stored (with_fields (with_stored t v i y) v (suc i) xs) v k x) e
    (with_fields-more (with_stored t v i y) v (suc i) xs x)

-- the order of two stores in different fields is all one

set-apart : (xs : List Value) (i j : ℕ) (x y : Value) → i ≢ j → set (set xs i x) j y ≡ set (set xs j y) i x
set-apart [] i j x y d = refl
set-apart (z ∷ xs) zero zero x y d = absurd (d refl)
set-apart (z ∷ xs) zero (suc j) x y d = refl
set-apart (z ∷ xs) (suc i) zero x y d = refl
set-apart (z ∷ xs) (suc i) (suc j) x y d = ap (λ ys. z ∷ ys) (set-apart xs i j x y (λ e. d (ap suc e)))

changed-again : (t : Table) (k : ℕ) (a b : Object) → changed (changed t k a) k b ≡ changed t k b
changed-again [] k a b = refl
changed-again (None ∷ t) zero a b = refl
changed-again (Some o ∷ t) zero a b = refl
changed-again (None ∷ t) (suc k) a b = ap (λ u. None ∷ u) (changed-again t k a b)
changed-again (Some o ∷ t) (suc k) a b = ap (λ u. Some o ∷ u) (changed-again t k a b)

module _ (t : Table) (i j : ℕ) (x y : Value) where
  twice : (n : ℕ) (a : Object) → entry t n ≡ Some a → with_stored (with_stored t (Ref n) i x) (Ref n) j y ≡ changed t n (with_field (with_field a i x) j y)
  unfolding with_stored object_of
  twice n a e =
      let f : entry (changed t n (with_field a i x)) n ≡ Some (with_field a i x) = changed-some t n (with_field a i x) a e in
      rw e (rw f (changed-again t n (with_field a i x) (with_field (with_field a i x) j y)))

with_field-apart : (o : Object) (i j : ℕ) (x y : Value) → i ≢ j → with_field (with_field o i x) j y ≡ with_field (with_field o j y) i x
with_field-apart o i j x y d = λ k. record { class = o.class; kind = o.kind; fields = set-apart o.fields i j x y d k; units = o.units }

pub stored-apart : (t : Table) (v : Value) (i j : ℕ) (x y : Value) → is_live t v ≡ true → i ≢ j
    → with_stored (with_stored t v i x) v j y ≡ with_stored (with_stored t v j y) v i x
stored-apart t v i j x y live d =
    let r = named t v live in
    rw r.2 (twice t i j x y r.0 r.1 r.3 ∙ ap (λ o. changed t r.0 o) (with_field-apart r.1 i j x y d) ∙ sym (twice t j i y x r.0 r.1 r.3))

pub stored-below : (t : Table) (v : Value) (i j : ℕ) (x : Value) (ys : List Value) → is_live t v ≡ true → i < j
    → with_stored (with_fields t v j ys) v i x ≡ with_fields (with_stored t v i x) v j ys
unfolding with_fields
stored-below t v i j x [] live l = refl
stored-below t v i j x (y ∷ ys) live l =
    stored-below (with_stored t v j y) v i (suc j) x ys (live_stored t v j y v ∙ live) (omega (arith, l))
    ∙ ap (λ u. with_fields u v (suc j) ys) (stored-apart t v j i y x live (λ e. absurd (omega (arith, l, e))))

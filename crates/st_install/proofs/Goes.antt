-- Steps over a bounded table that go, and what they leave of its objects.
use Rattle.std.proofs.Common.{◌≡◌, ◌≢◌, ℕ, ◌<◌, ◌≤◌, List, length, Option, Some, None, Bool, true, false, refl, sym, ap, ◌∙◌, subst, arith, ◌⊎◌, inl, inr, is_some, length-set}
use Rattle.std.specs.Prelude.{◌-◌, ◌==◌, slice_get, slice_set, nat_lt, nat_le}
use Rattle.std.proofs.lemmas.Bool.Decides.{nat_tests}
use Rattle.st_model.specs.declared.dead.Dead.TheVariants as dead
use Rattle.st_model.specs.Values.{Value, Small, Ref}
use Rattle.st_model.specs.declared.page.PageObject.{PageObject}
use Rattle.st_model.specs.Objects.{Object, place_of, is_pointers, is_method, has_bytes, first_unit, with_field, with_units}
use Rattle.st_model.specs.Machine.{Head, State, Went, Step, is_there, answer, ◌>>=◌, ◌>>◌}
use Rattle.st_model.specs.Steps.{of_page, check, found, object_named, object, stored_at, store_at, set_field, fit_units, units_set, set_units_at, set_units, fetch_field, store_field, count_fields, store_method_field, store_byte}
use Rattle.st_model.specs.Table.{Table, entry, changed, bounded_table}
use Rattle.st_model.proofs.Runs.{run-then, run-next, after-went, run-answer, run-passed, run-some}
use Rattle.st_model.proofs.TableLemmas.{changed-some, changed-other}

-- OBJECTS

-- the object of a value, where it is one
abbrev pub object_at : Table → Value → Option Object
object_at t (Small n) = None
object_at t (Ref n) = entry t n

-- the table with o as the object of a value
unfoldable pub replaced : Table → Value → Object → Table
replaced t (Small n) o = t
replaced t (Ref n) o = changed t n o

pub replaced-it : (t : Table) (v : Value) (o a : Object) → object_at t v ≡ Some a → object_at (replaced t v o) v ≡ Some o
unfolding replaced
replaced-it t (Small n) o a e = cc
replaced-it t (Ref n) o a e = changed-some t n o a e

pub replaced-other : (t : Table) (v w : Value) (o : Object) → w ≢ v → object_at (replaced t v o) w ≡ object_at t w
unfolding replaced
replaced-other t (Small n) w o d = refl
replaced-other t (Ref n) (Small k) o d = refl
replaced-other t (Ref n) (Ref k) o d = changed-other t n k o (λ e. d (ap (λ x. Ref x) e))

nat_same : (a b : ℕ) → (a ≡ b) ⊎ (a ≢ b)
nat_same a b = grind arith

small_same : (a b : ℕ) → Small a ≡ Small b → a ≡ b
small_same a b e = cc

ref_same : (a b : ℕ) → Ref a ≡ Ref b → a ≡ b
ref_same a b e = cc

pub same_or_other : (v w : Value) → (v ≡ w) ⊎ (v ≢ w)
same_or_other (Small a) (Ref b) = inr (λ e. cc)
same_or_other (Ref a) (Small b) = inr (λ e. cc)
same_or_other (Small a) (Small b) = elim (nat_same a b) [
  | inl e ↦ inl (ap (λ x. Small x) e)
  | inr d ↦ inr (λ e. d (small_same a b e))
]
same_or_other (Ref a) (Ref b) = elim (nat_same a b) [
  | inl e ↦ inl (ap (λ x. Ref x) e)
  | inr d ↦ inr (λ e. d (ref_same a b e))
]

-- the same but for what stands in its fields and units
pub record IsLike (o p : Object) : Type 0 where
  pub kind : p.kind ≡ o.kind
  pub fields : length p.fields ≡ length o.fields
  pub units : length p.units ≡ length o.units

pub like_itself : (o : Object) → IsLike o o
like_itself o = record { kind = refl; fields = refl; units = refl }

pub like_then : (o p q : Object) → IsLike o p → IsLike p q → IsLike o q
like_then o p q h k = record { kind = k.kind ∙ h.kind; fields = k.fields ∙ h.fields; units = k.units ∙ h.units }

pub like_with_field : (o : Object) (i : ℕ) (x : Value) → IsLike o (with_field o i x)
like_with_field o i x = record { kind = refl; fields = length-set _ i x; units = refl }

pub record LikeAt (u : Table) (v : Value) (o : Object) : Type 0 where
  pub object : Object
  pub is : object_at u v ≡ Some object
  pub like : IsLike o object

-- all that is there stays, of the same kind and size
pub record IsKept (t u : Table) : Type 0 where
  pub at : (v : Value) (o : Object) → object_at t v ≡ Some o → LikeAt u v o

pub all_kept : (t : Table) → IsKept t t
all_kept t = record { at = λ v o e. record { object = o; is = e; like = like_itself o } }

pub kept_then : (t u w : Table) → IsKept t u → IsKept u w → IsKept t w
kept_then t u w h k = record {
  at = λ v o e.
      let a = h.at v o e in
      let b = k.at v a.object a.is in
      record { object = b.object; is = b.is; like = like_then o a.object b.object a.like b.like };
}

-- an object of the same kind and size takes the place of one
pub kept_replaced : (t : Table) (v : Value) (o p : Object) → object_at t v ≡ Some o → IsLike o p → IsKept t (replaced t v p)
kept_replaced t v o p e l = record {
  at = λ w q f. elim (same_or_other w v) as (λ m. LikeAt (replaced t v p) w q) [
    | inl s ↦ let g : o ≡ q = some_same (sym e ∙ (ap (object_at t) (sym s) ∙ f)) in
        record { object = p; is = ap (object_at (replaced t v p)) s ∙ replaced-it t v p o e; like = subst (λ y. IsLike y p) g l }
    | inr d ↦ record { object = q; is = replaced-other t v w p d ∙ f; like = like_itself q }
  ];
}
  where
    some_same : {a b : Object} → Some a ≡ Some b → a ≡ b
    some_same e = cc

there_some : (a b : Option Object) → is_some a ≡ true → ((o : Object) → a ≡ Some o → is_some b ≡ true) → is_some b ≡ true
there_some None b e f = cc
there_some (Some o) b e f = f o refl

pub there_kept : (t u : Table) (x : Value) → IsKept t u → is_there bounded_table t x ≡ true → is_there bounded_table u x ≡ true
there_kept t u (Small n) h e = e
there_kept t u (Ref n) h e = there_some (entry t n) (entry u n) e (λ o f. let a = h.at (Ref n) o f in rw a.is refl)

-- STEPS

-- the same state over another table
abbrev pub over : State Table → Table → State Table
over s t = record s { memory = t }

-- under a head a step goes from one table to another, of which something is known, as of its answer
pub record Goes {A : Type 0} (head : Head) (m : Step Table A) (t : Table) (Q : A → Table → Type 0) : Type 0 where
  pub value : A
  pub next : Table
  pub goes : (s : State Table) → s.head ≡ head → m.run (over s t) ≡ Went value (over s next)
  pub leaves : Q value next

-- a step that only reads
abbrev pub Tells : {A : Type 0} → Step Table A → Table → A → Type 0
Tells m t a = (s : State Table) → m.run (over s t) ≡ Went a (over s t)

module _ {A B : Type 0} (head : Head) (t : Table) (P : A → Table → Type 0) (Q : B → Table → Type 0) where
  pub then_goes : (m : Step Table A) (f : A → Step Table B) → Goes head m t P → ((a : A) (u : Table) → P a u → Goes head (f a) u Q) → Goes head (m >>= f) t Q
  then_goes m f g k =
      let h = k g.value g.next g.leaves in
      record { value = h.value; next = h.next; goes = λ s e. let p = g.goes s e in let q = h.goes s e in simp (run-then, p, after-went, q) refl; leaves = h.leaves }

  pub next_goes : (m : Step Table A) (n : Step Table B) → Goes head m t P → ((a : A) (u : Table) → P a u → Goes head n u Q) → Goes head (m >> n) t Q
  next_goes m n g k =
      let h = k g.value g.next g.leaves in
      record { value = h.value; next = h.next; goes = λ s e. let p = g.goes s e in let q = h.goes s e in simp (run-next, p, after-went, q) refl; leaves = h.leaves }

pub read_goes : {A B : Type 0} (head : Head) (t : Table) (Q : B → Table → Type 0) (m : Step Table A) (f : A → Step Table B) (a : A) → Tells m t a → Goes head (f a) t Q → Goes head (m >>= f) t Q
read_goes head t Q m f a e h =
    record { value = h.value; next = h.next; goes = λ s g. let p = e s in let q = h.goes s g in simp (run-then, p, after-went, q) refl; leaves = h.leaves }

pub answer_goes : {B : Type 0} (head : Head) (t : Table) (Q : B → Table → Type 0) (b : B) → Q b t → Goes head (answer b) t Q
answer_goes head t Q b q = record { value = b; next = t; goes = λ s e. run-answer b (over s t); leaves = q }

pub tells_answer : {B : Type 0} (t : Table) (b : B) → Tells (answer b) t b
tells_answer t b s = run-answer b (over s t)

module _ {A B : Type 0} (t : Table) where
  pub tells_then : (m : Step Table A) (f : A → Step Table B) (a : A) (b : B) → Tells m t a → Tells (f a) t b → Tells (m >>= f) t b
  tells_then m f a b e h s = let p = e s in let q = h s in simp (run-then, p, after-went, q) refl

-- READING

found_it : (x : Option Object) (o : Object) (s : State Table) → x ≡ Some o → (found x).run s ≡ Went o s
unfolding found answer
found_it None o s e = cc
found_it (Some a) o s e = let q : a ≡ o = cc in ap (λ y. Went y s) q

pub tells_object : (t : Table) (v : Value) (o : Object) → object_at t v ≡ Some o → Tells (object bounded_table v) t o
unfolding object object_named
tells_object t (Small n) o e s = cc
tells_object t (Ref n) o e s = found_it (entry t n) o (over s t) e

pub tells_page : (t : Table) (q : PageObject) → Tells (of_page bounded_table q) t (Ref (place_of q))
unfolding of_page
tells_page t q s = refl

module _ (t : Table) (v : Value) (o : Object) (e : object_at t v ≡ Some o) (p : is_pointers o.kind ≡ true) where
  pub tells_field : (i : ℕ) (x : Value) → slice_get o.fields i ≡ Some x → Tells (fetch_field bounded_table v i) t x
  unfolding fetch_field
  tells_field i x g s =
      let q = tells_object t v o e s in
      simp (run-then, run-next, q, after-went, run-passed dead.Kind _ (over s t) p, run-some dead.Field _ x (over s t) g) refl

  pub tells_count : Tells (count_fields bounded_table v) t (length o.fields)
  unfolding count_fields
  tells_count s =
      let q = tells_object t v o e s in
      simp (run-then, run-next, q, after-went, run-passed dead.Kind _ (over s t) p, run-answer) refl

-- STORING

-- nothing but one object has changed, which is like it was
pub record Stores (v : Value) (o p : Object) (t u : Table) : Type 0 where
  pub is : u ≡ replaced t v p
  pub like : IsLike o p

stored_it : (n i : ℕ) (x : Value) (s : State Table) (a : Option Object) (o : Object) (b : Bool) → a ≡ Some o → b ≡ true
    → stored_at bounded_table n i x s a b ≡ Went tt (record s { memory = changed s.memory n (with_field o i x) })
unfolding stored_at
stored_it n i x s None o b e f = cc
stored_it n i x s (Some a) o false e f = cc
stored_it n i x s (Some a) o true e f = let q : a ≡ o = cc in ap (λ y. Went tt (record s { memory = changed s.memory n (with_field y i x) })) q

set_goes : (t : Table) (v : Value) (o : Object) (i : ℕ) (x : Value) (s : State Table) → object_at t v ≡ Some o → is_there bounded_table t x ≡ true
    → (set_field bounded_table v i x).run (over s t) ≡ Went tt (over s (replaced t v (with_field o i x)))
unfolding set_field store_at replaced
set_goes t (Small n) o i x s e k = cc
set_goes t (Ref n) o i x s e k = stored_it n i x (over s t) (entry t n) o (is_there bounded_table t x) e k

module _ (t : Table) (v : Value) (o : Object) (s : State Table) (e : object_at t v ≡ Some o) where
  -- a field of an object of a kind is set
  set_runs : (of_kind : Object → Bool) (i : ℕ) (x : Value) → of_kind o ≡ true → i < length o.fields → is_there bounded_table t x ≡ true
      → (object bounded_table v >>= (λ a. check dead.Kind (of_kind a) >> (check dead.Field (nat_lt i (length a.fields)) >> set_field bounded_table v i x))).run (over s t) ≡ Went tt (over s (replaced t v (with_field o i x)))
  set_runs of_kind i x p l k =
      let q = tells_object t v o e s in
      let r : nat_lt i (length o.fields) ≡ true = grind (arith, nat_tests) in
      simp (run-then, run-next, q, after-went, run-passed dead.Kind _ (over s t) p, run-passed dead.Field _ (over s t) r, set_goes t v o i x s e k) refl

  pub store_runs : (i : ℕ) (x : Value) → is_pointers o.kind ≡ true → i < length o.fields → is_there bounded_table t x ≡ true
      → (store_field bounded_table v i x).run (over s t) ≡ Went tt (over s (replaced t v (with_field o i x)))
  unfolding store_field
  store_runs = set_runs (λ a. is_pointers a.kind)

  method_runs : (i : ℕ) (x : Value) → is_method o.kind ≡ true → i < length o.fields → is_there bounded_table t x ≡ true
      → (store_method_field bounded_table v i x).run (over s t) ≡ Went tt (over s (replaced t v (with_field o i x)))
  unfolding store_method_field
  method_runs = set_runs (λ a. is_method a.kind)

pub store_goes : (t : Table) (v : Value) (o : Object) (head : Head) → object_at t v ≡ Some o → (i : ℕ) (x : Value) → is_pointers o.kind ≡ true → i < length o.fields → is_there bounded_table t x ≡ true
    → Goes head (store_field bounded_table v i x) t (λ a u. Stores v o (with_field o i x) t u)
store_goes t v o head e i x p l k =
    record { value = tt; next = replaced t v (with_field o i x); goes = λ s f. store_runs t v o s e i x p l k; leaves = record { is = refl; like = like_with_field o i x } }

pub store_method_goes : (t : Table) (v : Value) (o : Object) (head : Head) → object_at t v ≡ Some o → (i : ℕ) (x : Value) → is_method o.kind ≡ true → i < length o.fields → is_there bounded_table t x ≡ true
    → Goes head (store_method_field bounded_table v i x) t (λ a u. Stores v o (with_field o i x) t u)
store_method_goes t v o head e i x p l k =
    record { value = tt; next = replaced t v (with_field o i x); goes = λ s f. method_runs t v o s e i x p l k; leaves = record { is = refl; like = like_with_field o i x } }

units_it : (n : ℕ) (us : List ℕ) (s : State Table) (a : Option Object) (o : Object) → a ≡ Some o → length us ≡ length o.units
    → units_set bounded_table n us s a (fit_units us a) ≡ Went tt (record s { memory = changed s.memory n (with_units o us) })
unfolding units_set
units_it n us s None o e f = cc
units_it n us s (Some a) o e f =
    let q : a ≡ o = cc in
    let b : (length us == length a.units) ≡ true = rw q (grind (arith, nat_tests)) in
    rw b (ap (λ y. Went tt (record s { memory = changed s.memory n (with_units y us) })) q)

units_go : (t : Table) (v : Value) (o : Object) (us : List ℕ) (s : State Table) → object_at t v ≡ Some o → length us ≡ length o.units
    → (set_units bounded_table v us).run (over s t) ≡ Went tt (over s (replaced t v (with_units o us)))
unfolding set_units set_units_at replaced
units_go t (Small n) o us s e f = cc
units_go t (Ref n) o us s e f = units_it n us (over s t) (entry t n) o e f

byte_runs : (t : Table) (v : Value) (o : Object) (s : State Table) (i x : ℕ) → object_at t v ≡ Some o → has_bytes o.kind ≡ true → first_unit o ≤ i → i - first_unit o < length o.units
    → (store_byte bounded_table v i x).run (over s t) ≡ Went tt (over s (replaced t v (with_units o (slice_set o.units (i - first_unit o) x))))
unfolding store_byte
byte_runs t v o s i x e p l k =
    let q = tells_object t v o e s in
    let a : nat_le (first_unit o) i ≡ true = grind (arith, nat_tests) in
    let r : nat_lt (i - first_unit o) (length o.units) ≡ true = grind (arith, nat_tests) in
    simp (run-then, run-next, q, after-went, run-passed dead.Kind _ (over s t) p, run-passed dead.Field _ (over s t) a, run-passed dead.Field _ (over s t) r, units_go t v o _ s e (length-set o.units (i - first_unit o) x)) refl

pub store_byte_goes : (t : Table) (v : Value) (o : Object) (head : Head) (i x : ℕ) → object_at t v ≡ Some o → has_bytes o.kind ≡ true → first_unit o ≤ i → i - first_unit o < length o.units
    → Goes head (store_byte bounded_table v i x) t (λ a u. Stores v o (with_units o (slice_set o.units (i - first_unit o) x)) t u)
store_byte_goes t v o head i x e p l k = record {
  value = tt;
  next = replaced t v (with_units o (slice_set o.units (i - first_unit o) x));
  goes = λ s f. byte_runs t v o s i x e p l k;
  leaves = record { is = refl; like = record { kind = refl; fields = refl; units = length-set o.units (i - first_unit o) x } };
}

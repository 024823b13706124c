-- The copying of several fields over the table: all of them are there and are copied, or a check fails.
use Rattle.std.proofs.Common.{◌≡◌, ℕ, zero, suc, ◌+◌, ◌<◌, ◌≤◌, List, [], ◌∷◌, length, true, false, refl, ◌∙◌, ap, arith, inl, inr}
use Rattle.std.proofs.lemmas.Bool.{cases_lt}
use Rattle.std.proofs.lemmas.Bool.Decides.{nat_tests}
use Rattle.std.proofs.lemmas.Option.{slice_get-get_or, slice_get_past}
use Rattle.std.specs.Prelude.{nat_lt}
use Rattle.st_model.specs.declared.dead.Dead.{Dead}
use Rattle.st_model.specs.declared.dead.Dead.TheVariants as dead
use Rattle.st_model.specs.Values.{Value}
use Rattle.st_model.specs.Objects.{is_pointers, nil}
use Rattle.st_model.specs.Machine.{State, Died, Went}
use Rattle.st_model.specs.Steps.{object, fetch_field, store_field, fetch_fields, store_fields, transfer}
use Rattle.st_model.specs.Table.{Table, table}
use Rattle.st_model.specs.Formed.{IsWord}
use Rattle.st_model.specs.View.{Has, Lacks, SmallInteger, Gone, OtherKind, TooFew, IsKnown, is_live, object_of, with_stored, with_fields, field_of, fields_from}
use Rattle.st_model.proofs.Runs.{run-then, run-next, after-went, after-died, run-answer, run-passed, run-failed, run-some, run-none, run-small, run-live, run-gone, run-store}
use Rattle.st_model.proofs.Transfers.{live_stored, count_stored, kind_stored, fields_from-length}

-- fetching

field_died : (v : Value) (i : ℕ) (s : State Table) (k : Dead) → (object table v).run s ≡ Died k → (fetch_field table v i).run s ≡ Died k
unfolding fetch_field
field_died v i s k e = simp (run-then, e, after-died) refl

field_of_kind : (v : Value) (i : ℕ) (s : State Table) → is_live s.memory v ≡ true → is_pointers (object_of s.memory v).kind ≡ false → (fetch_field table v i).run s ≡ Died dead.Kind
unfolding fetch_field
field_of_kind v i s live kind = simp (run-then, run-next, after-went, after-died, run-live v s live, run-failed dead.Kind _ s kind) refl

field_past : (v : Value) (i : ℕ) (s : State Table) → is_live s.memory v ≡ true → is_pointers (object_of s.memory v).kind ≡ true → length (object_of s.memory v).fields ≤ i
    → (fetch_field table v i).run s ≡ Died dead.Field
unfolding fetch_field
field_past v i s live kind l =
    simp (run-then, run-next, after-went, run-live v s live, run-passed dead.Kind _ s kind, run-none dead.Field _ s (slice_get_past (object_of s.memory v).fields i l)) refl

pub run-field : (v : Value) (i : ℕ) (s : State Table) → is_live s.memory v ≡ true → is_pointers (object_of s.memory v).kind ≡ true → i < length (object_of s.memory v).fields
    → (fetch_field table v i).run s ≡ Went (field_of s.memory v i) s
unfolding fetch_field field_of
run-field v i s live kind l =
    simp (run-then, run-next, after-went, run-live v s live, run-passed dead.Kind _ s kind, run-some dead.Field _ _ s (slice_get-get_or (object_of s.memory v).fields i nil l)) refl

fields_died : (v : Value) (from n : ℕ) (s : State Table) (k : Dead) → (fetch_field table v from).run s ≡ Died k → (fetch_fields table v from (suc n)).run s ≡ Died k
unfolding fetch_fields
fields_died v from n s k e = simp (run-then, e, after-died) refl

pub run-fields : (v : Value) (from n : ℕ) (s : State Table) → Has s.memory v from n → (fetch_fields table v from n).run s ≡ Went (fields_from s.memory v from n) s
unfolding fetch_fields fields_from
run-fields v from zero s h = run-answer [] s
run-fields v from (suc n) s h =
    let one = run-field v from s h.live h.kind (let l = h.fields in omega (arith, l)) in
    let more = run-fields v (suc from) n s (record { live = h.live; kind = h.kind; fields = let l = h.fields in omega (arith, l) }) in
    simp (run-then, one, after-went, more, run-answer) refl

fields_go_on : (v : Value) (from n : ℕ) (s : State Table) (x : Value) (k : Dead) → (fetch_field table v from).run s ≡ Went x s → (fetch_fields table v (suc from) n).run s ≡ Died k
    → (fetch_fields table v from (suc n)).run s ≡ Died k
unfolding fetch_fields
fields_go_on v from n s x k e f = simp (run-then, e, after-went, f, after-died) refl

fields_past : (v : Value) (from n : ℕ) (s : State Table) → is_live s.memory v ≡ true → is_pointers (object_of s.memory v).kind ≡ true → length (object_of s.memory v).fields < from + suc n
    → (fetch_fields table v from (suc n)).run s ≡ Died dead.Field
fields_past v from zero s live kind l = fields_died v from 0 s dead.Field (field_past v from s live kind (omega (arith, l)))
fields_past v from (suc n) s live kind l = elim (cases_lt from (length (object_of s.memory v).fields)) [
  | inl m ↦ fields_go_on v from (suc n) s _ dead.Field (run-field v from s live kind m) (fields_past v (suc from) n s live kind (omega (arith, l)))
  | inr m ↦ fields_died v from (suc n) s dead.Field (field_past v from s live kind (omega (arith, m)))
]

pub run-fields_lacking : (v : Value) (from n : ℕ) (s : State Table) (k : Dead) → Lacks s.memory v from (suc n) k → (fetch_fields table v from (suc n)).run s ≡ Died k
run-fields_lacking v from n s k (SmallInteger small) = fields_died v from n s dead.Small (field_died v from s dead.Small (run-small v s small))
run-fields_lacking v from n s k (Gone big gone) = fields_died v from n s dead.Kind (field_died v from s dead.Kind (run-gone v s big gone))
run-fields_lacking v from n s k (OtherKind live kind) = fields_died v from n s dead.Kind (field_of_kind v from s live kind)
run-fields_lacking v from n s k (TooFew live kind l) = fields_past v from n s live kind l

-- storing

store_died : (v : Value) (i : ℕ) (x : Value) (s : State Table) (k : Dead) → (object table v).run s ≡ Died k → (store_field table v i x).run s ≡ Died k
unfolding store_field
store_died v i x s k e = simp (run-then, e, after-died) refl

store_of_kind : (v : Value) (i : ℕ) (x : Value) (s : State Table) → is_live s.memory v ≡ true → is_pointers (object_of s.memory v).kind ≡ false → (store_field table v i x).run s ≡ Died dead.Kind
unfolding store_field
store_of_kind v i x s live kind = simp (run-then, run-next, after-went, after-died, run-live v s live, run-failed dead.Kind _ s kind) refl

store_past : (v : Value) (i : ℕ) (x : Value) (s : State Table) → is_live s.memory v ≡ true → is_pointers (object_of s.memory v).kind ≡ true → length (object_of s.memory v).fields ≤ i
    → (store_field table v i x).run s ≡ Died dead.Field
unfolding store_field
store_past v i x s live kind l =
    let r : nat_lt i (length (object_of s.memory v).fields) ≡ false = grind (arith, nat_tests) in
    simp (run-then, run-next, after-went, after-died, run-live v s live, run-passed dead.Kind _ s kind, run-failed dead.Field _ s r) refl

stores_died : (v : Value) (to : ℕ) (x : Value) (xs : List Value) (s : State Table) (k : Dead) → (store_field table v to x).run s ≡ Died k → (store_fields table v to (x ∷ xs)).run s ≡ Died k
unfolding store_fields
stores_died v to x xs s k e = simp (run-next, e, after-died) refl

stores_go_on : (v : Value) (to : ℕ) (x : Value) (xs : List Value) (s t : State Table) → (store_field table v to x).run s ≡ Went tt t → (store_fields table v to (x ∷ xs)).run s ≡ (store_fields table v (suc to) xs).run t
unfolding store_fields
stores_go_on v to x xs s t e = simp (run-next, e, after-went) refl

-- each of these is a SmallInteger or live
abbrev pub AreKnown : Table → List Value → Type 0
AreKnown t [] = Unit {0}
AreKnown t (x ∷ xs) = (IsKnown t x × IsWord x) × AreKnown t xs

known_stored : (t : Table) (v : Value) (i : ℕ) (y x : Value) → IsKnown t x → IsKnown (with_stored t v i y) x
known_stored t v i y x known small = live_stored t v i y x ∙ known small

are_known_stored : (t : Table) (v : Value) (i : ℕ) (y : Value) (xs : List Value) → AreKnown t xs → AreKnown (with_stored t v i y) xs
are_known_stored t v i y [] h = tt
are_known_stored t v i y (x ∷ xs) h = ((known_stored t v i y x h.0.0, h.0.1), are_known_stored t v i y xs h.1)

has_stored : (t : Table) (v : Value) (i : ℕ) (y : Value) (from n : ℕ) → Has t v from n → Has (with_stored t v i y) v from n
has_stored t v i y from n h = record {
  live = live_stored t v i y v ∙ h.live;
  kind = ap is_pointers (kind_stored t v i y h.live v) ∙ h.kind;
  fields = rw (count_stored t v i y h.live v) h.fields;
}

has_rest : (t : Table) (v : Value) (from n : ℕ) → Has t v from (suc n) → Has t v (suc from) n
has_rest t v from n h = record { live = h.live; kind = h.kind; fields = let l = h.fields in omega (arith, l) }

pub run-stores : (v : Value) (to : ℕ) (xs : List Value) (s : State Table) → Has s.memory v to (length xs) → AreKnown s.memory xs
    → (store_fields table v to xs).run s ≡ Went tt (record s { memory = with_fields s.memory v to xs })
unfolding with_fields store_fields
run-stores v to [] s h known = run-answer tt s
run-stores v to (x ∷ xs) s h known =
    let t : State Table = record s { memory = with_stored s.memory v to x } in
    stores_go_on v to x xs s t (run-store v to x s h.live h.kind (let l = h.fields in omega (arith, l)) known.0.0 known.0.1)
    ∙ run-stores v (suc to) xs t (has_rest t.memory v to (length xs) (has_stored s.memory v to x to (suc (length xs)) h)) (are_known_stored s.memory v to x xs known.1)

stores_past : (v : Value) (to : ℕ) (x : Value) (xs : List Value) (s : State Table) → is_live s.memory v ≡ true → is_pointers (object_of s.memory v).kind ≡ true
    → length (object_of s.memory v).fields < to + suc (length xs) → AreKnown s.memory (x ∷ xs) → (store_fields table v to (x ∷ xs)).run s ≡ Died dead.Field
stores_past v to x [] s live kind l known = stores_died v to x [] s dead.Field (store_past v to x s live kind (omega (arith, l)))
stores_past v to x (y ∷ ys) s live kind l known = elim (cases_lt to (length (object_of s.memory v).fields)) [
  | inl m ↦
      let t : State Table = record s { memory = with_stored s.memory v to x } in
      stores_go_on v to x (y ∷ ys) s t (run-store v to x s live kind m known.0.0 known.0.1)
      ∙ stores_past v (suc to) y ys t (live_stored s.memory v to x v ∙ live) (ap is_pointers (kind_stored s.memory v to x live v) ∙ kind)
      (rw (count_stored s.memory v to x live v) (omega (arith, l))) (are_known_stored s.memory v to x (y ∷ ys) known.1)
  | inr m ↦ stores_died v to x (y ∷ ys) s dead.Field (store_past v to x s live kind (omega (arith, m)))
]

pub run-stores_lacking : (v : Value) (to : ℕ) (x : Value) (xs : List Value) (s : State Table) (k : Dead) → Lacks s.memory v to (suc (length xs)) k → AreKnown s.memory (x ∷ xs)
    → (store_fields table v to (x ∷ xs)).run s ≡ Died k
run-stores_lacking v to x xs s k (SmallInteger small) known = stores_died v to x xs s dead.Small (store_died v to x s dead.Small (run-small v s small))
run-stores_lacking v to x xs s k (Gone big gone) known = stores_died v to x xs s dead.Kind (store_died v to x s dead.Kind (run-gone v s big gone))
run-stores_lacking v to x xs s k (OtherKind live kind) known = stores_died v to x xs s dead.Kind (store_of_kind v to x s live kind)
run-stores_lacking v to x xs s k (TooFew live kind l) known = stores_past v to x xs s live kind l known

-- copying

module _ (n : ℕ) (source : Value) (from : ℕ) (target : Value) (to : ℕ) (s : State Table) where
  pub run-transfer_none : n ≡ 0 → (transfer table n source from target to).run s ≡ Went tt s
  unfolding transfer fetch_fields store_fields
  run-transfer_none e = rw e (simp (run-then, run-answer, after-went) refl)

  pub run-transfer : Has s.memory source from n → Has s.memory target to n → AreKnown s.memory (fields_from s.memory source from n)
      → (transfer table n source from target to).run s ≡ Went tt (record s { memory = with_fields s.memory target to (fields_from s.memory source from n) })
  unfolding transfer
  run-transfer h k known =
      simp (
        run-then,
        run-fields source from n s h,
        after-went,
        run-stores target to (fields_from s.memory source from n) s (rw (fields_from-length s.memory source from n) k) known,
      ) refl

pub run-transfer_unread : (n : ℕ) (source : Value) (from : ℕ) (target : Value) (to : ℕ) (s : State Table) (k : Dead) → Lacks s.memory source from (suc n) k
    → (transfer table (suc n) source from target to).run s ≡ Died k
unfolding transfer
run-transfer_unread n source from target to s k h = simp (run-then, run-fields_lacking source from n s k h, after-died) refl

pub run-transfer_unwritten : (n : ℕ) (source : Value) (from : ℕ) (target : Value) (to : ℕ) (s : State Table) (k : Dead) → Has s.memory source from (suc n)
    → Lacks s.memory target to (suc n) k → AreKnown s.memory (fields_from s.memory source from (suc n)) → (transfer table (suc n) source from target to).run s ≡ Died k
unfolding transfer fields_from
run-transfer_unwritten n source from target to s k h lacks known =
    simp (
      run-then,
      run-fields source from (suc n) s h,
      after-went,
      run-stores_lacking target to (field_of s.memory source from) (fields_from s.memory source (suc from) n) s k
          (rw (fields_from-length s.memory source (suc from) n) lacks) known,
    ) refl

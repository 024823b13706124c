-- What the calls of a draft that change something come to.
use Rattle.std.proofs.Common.{◌≡◌, ℕ, ◌+◌, ◌*◌, ◌/◌, ◌<◌, ◌≤◌, inl, inr, zero, suc, true, false, ◌≢◌, List, [], ◌∷◌, length, take, drop, get_or, Ok, Err, refl, sym, ap, ◌∙◌, subst, arith, is_some}
use Rattle.std.specs.Prelude.{nat_lt, slice_get, Option, Some, None, if◌then◌else◌}
use Rattle.std.proofs.lemmas.Bool.{cases_lt}
use Rattle.std.proofs.lemmas.Bool.Decides.{nat_tests}
use Rattle.std.proofs.Math.Seq.{drop-cons}
use Rattle.st_model.specs.declared.dead.Dead.{Dead}
use Rattle.st_model.specs.declared.dead.Dead.TheVariants as dead
use Rattle.st_model.specs.declared.kind.Kind.{Kind}
use Rattle.st_model.specs.declared.word.Word.{Word}
use Rattle.st_model.specs.Values.{Value, Small, Ref, word, is_small}
use Rattle.st_model.specs.Objects.{Object, is_pointers, nil}
use Rattle.st_model.specs.Machine.{Head, State, Died, Went, is_there, die}
use Rattle.st_model.specs.Formed.{IsWord, fresh}
use Rattle.st_model.specs.Steps.{transfer, store_field, set_field, store_at, stored_at, make, make_named, made, new_of}
use Rattle.st_model.specs.Table.{Table, table, apart, entry, joined}
use Rattle.st_model.specs.View.{IsKnown, is_live, object_of, with_stored, with_fields, field_of, fields_from, Has, Lacks, SmallInteger, Gone, OtherKind, TooFew}
use Rattle.st_model.specs.inside.Calls.{Changes, itself}
use Rattle.st_model.proofs.Pointers.{value_of-even}
use Rattle.st_model.proofs.Runs.{run-then, run-next, after-went, after-died, run-small, run-gone, run-live, run-passed, run-failed, run-set_field}
use Rattle.st_model.proofs.Copies.{AreKnown, run-transfer_none, run-transfer, run-transfer_unread, run-transfer_unwritten}
use Rattle.st_model.proofs.Tabular.{store_field-as, transfer-as}
use Rattle.st_memory.specs.declared.made.Made.{Made}
use Rattle.st_draft.specs.declared.change.Change.{Change}
use Rattle.st_draft.specs.declared.change.Change.TheVariants.{Fields}
use Rattle.st_memory.specs.inside.Tabular.{apart_tabular}
use Rattle.st_draft.specs.inside.Drafts.{AllThere, with_made, draft_table, written, all_written, after_change}
use Rattle.st_draft.proofs.Writing.{written_like}
use Rattle.st_draft.proofs.Behind.{length_replayed, length-with_made}
use Rattle.st_draft.proofs.Replaying.{back, back_value}
use Rattle.st_model.proofs.TableLemmas.{entry_past}

-- what is there has a word before the end of the table

below_end : (t : Table) (v : Value) → is_live t v ≡ true → back v < 2 * length t
unfolding is_live
below_end t (Small n) h = cc
below_end t (Ref n) h = elim (cases_lt n (length t)) [
  | inl l ↦ omega (arith, l)
  | inr l ↦ let e = ap is_some (entry_past t n l) in absurd (cc)
]

pub live_below : (t : Table) (o : Word) → is_live t (word o) ≡ true → o.0 < 2 * length t
live_below t o h = subst (λ n. n < 2 * length t) (back_value o.0) (below_end t (word o) h)

-- below the end of a draft's table
pub below_draft : (t : Table) (ms : List Made) (n : ℕ) (cs : List Change) (k : ℕ) (o : Word) → length t ≡ 32768 → n ≤ length ms → is_live (draft_table t ms n cs k) (word o) ≡ true → o.0 < 65536 + 2 * n
below_draft t ms n cs k o places few h =
    let l = live_below (draft_table t ms n cs k) o h in
    let a = length_replayed (with_made t ms n) cs k in
    let b = length-with_made t ms n few in
    omega (arith, l, a, b, places)

-- a store over the table

module _ (v : Value) (i : ℕ) (x : Value) (s : State Table) (live : is_live s.memory v ≡ true) (kind : is_pointers (object_of s.memory v).kind ≡ true) where
  store_went : i < length (object_of s.memory v).fields → is_there table s.memory x ≡ true → (store_field table v i x).run s ≡ Went tt (record s { memory = with_stored s.memory v i x })
  unfolding store_field
  store_went l there =
      let r : nat_lt i (length (object_of s.memory v).fields) ≡ true = grind (arith, nat_tests) in
      simp (run-then, run-next, after-went, run-live v s live, run-passed dead.Kind _ s kind, run-passed dead.Field _ s r, run-set_field v i x s live there) refl

  store_past : length (object_of s.memory v).fields ≤ i → (store_field table v i x).run s ≡ Died dead.Field
  unfolding store_field
  store_past l =
      let r : nat_lt i (length (object_of s.memory v).fields) ≡ false = grind (arith, nat_tests) in
      simp (run-then, run-next, after-went, after-died, run-live v s live, run-passed dead.Kind _ s kind, run-failed dead.Field _ s r) refl

pub stored_absent : (n i : ℕ) (x : Value) (s : State Table) (e : Option Object) → stored_at table n i x s e false ≡ Died dead.Kind
unfolding stored_at
stored_absent n i x s None = refl
stored_absent n i x s (Some o) = refl

set_absent : (v : Value) (i : ℕ) (x : Value) (s : State Table) → is_live s.memory v ≡ true → is_there table s.memory x ≡ false → (set_field table v i x).run s ≡ Died dead.Kind
unfolding set_field store_at is_live
set_absent (Small n) i x s live e = cc
set_absent (Ref n) i x s live e = ap (stored_at table n i x s (entry s.memory n)) e ∙ stored_absent n i x s (entry s.memory n)

store_absent : (v : Value) (i : ℕ) (x : Value) (s : State Table) → is_live s.memory v ≡ true → is_pointers (object_of s.memory v).kind ≡ true → i < length (object_of s.memory v).fields → is_there table s.memory x ≡ false → (store_field table v i x).run s ≡ Died dead.Kind
unfolding store_field
store_absent v i x s live kind l e =
    let r : nat_lt i (length (object_of s.memory v).fields) ≡ true = grind (arith, nat_tests) in
    simp (run-then, run-next, after-went, run-live v s live, run-passed dead.Kind _ s kind, run-passed dead.Field _ s r, set_absent v i x s live e) refl

-- a store into what isn't there

store_lacking : (v : Value) (i : ℕ) (x : Value) (s : State Table) (k : Dead) → Lacks s.memory v i 1 k → (store_field table v i x).run s ≡ Died k
unfolding store_field
store_lacking v i x s k (SmallInteger small) = simp (run-then, run-next, run-small v s small, after-died) refl
store_lacking v i x s k (Gone big gone) = simp (run-then, run-next, run-gone v s big gone, after-died) refl
store_lacking v i x s k (OtherKind live kind) = simp (run-then, run-next, run-live v s live, after-went, run-failed dead.Kind _ s kind, after-died) refl
store_lacking v i x s k (TooFew live kind l) = store_past v i x s live kind (omega (arith, l))

pub written_stored : (t : Table) (v : Value) (i : ℕ) (x : Value) → is_pointers (object_of t v).kind ≡ true → written t v i x ≡ with_stored t v i x
unfolding written
written_stored t v i x h = ap (λ b. if b then with_stored t v i x else t) h

-- the calls that store a field

module _ (t u : Table) (v : Value) (i : ℕ) (x : Value) (a : Head) where
  pub stores_lacking : (k : Dead) → Lacks t v i 1 k → Changes (store_field apart v i x) itself t a (Err k) u
  stores_lacking k lacks = λ s over h. subst (λ m. m.run s ≡ Died k) (sym (store_field-as apart_tabular v i x)) (store_lacking v i x s k (subst (λ w. Lacks w v i 1 k) (sym over) lacks))

  module _ (has : Has t v i 1) where
    pub stores_absent : is_there apart t x ≡ false → Changes (store_field apart v i x) itself t a (Err dead.Kind) u
    stores_absent gone = λ s over h.
        let f : Has s.memory v i 1 = subst (λ w. Has w v i 1) (sym over) has in
        subst (λ m. m.run s ≡ Died dead.Kind) (sym (store_field-as apart_tabular v i x))
        (store_absent v i x s f.live f.kind (let l = f.fields in omega (arith, l)) (ap (λ w. is_there table w x) over ∙ there_table x ∙ gone))
      where
        there_table : (y : Value) → is_there table t y ≡ is_there apart t y
        there_table (Small n) = refl
        there_table (Ref n) = refl

    pub stores : is_there apart t x ≡ true → u ≡ written t v i x → Changes (store_field apart v i x) itself t a (Ok tt) u
    stores there is = λ s over h.
        let f : Has s.memory v i 1 = subst (λ w. Has w v i 1) (sym over) has in
        subst (λ m. m.run s ≡ Went tt (record s { memory = u })) (sym (store_field-as apart_tabular v i x))
        (store_went v i x s f.live f.kind (let l = f.fields in omega (arith, l)) (ap (λ w. is_there table w x) over ∙ there_table x ∙ there)
        ∙ ap (λ w. Went tt (record s { memory = w })) (ap (λ w. with_stored w v i x) over ∙ sym (written_stored t v i x has.kind) ∙ sym is))
      where
        there_table : (y : Value) → is_there table t y ≡ is_there apart t y
        there_table (Small n) = refl
        there_table (Ref n) = refl

-- the calls that copy fields

all_written_is : (xs : List Value) (t : Table) (v : Value) (i : ℕ) → is_pointers (object_of t v).kind ≡ true → all_written t v i xs ≡ with_fields t v i xs
unfolding all_written with_fields
all_written_is [] t v i h = refl
all_written_is (x ∷ xs) t v i h =
    ap (λ u. all_written u v (suc i) xs) (written_stored t v i x h)
    ∙ all_written_is xs (with_stored t v i x) v (suc i) (subst (λ u. is_pointers (object_of u v).kind ≡ true) (written_stored t v i x h) (ap is_pointers ((written_like t v i x).objects v).kind ∙ h))

fields_from_is : (t : Table) (v : Value) (from n : ℕ) → from + n ≤ length (object_of t v).fields → fields_from t v from n ≡ take n (drop from (object_of t v).fields)
unfolding fields_from field_of
fields_from_is t v from zero l = refl
fields_from_is t v from (suc n) l =
    ap (λ xs. get_or (object_of t v).fields from nil ∷ xs) (fields_from_is t v (suc from) n (omega (arith, l)))
    ∙ sym (ap (take (suc n)) (drop-cons (object_of t v).fields from nil (omega (arith, l))))

copied_is : (t : Table) (source target : Word) (n from to : ℕ) → Has t (word source) from n → Has t (word target) to n
    → after_change t (Fields n source from target to) ≡ with_fields t (word target) to (fields_from t (word source) from n)
unfolding after_change
copied_is t source target n from to h k =
    ap (λ b. all_written t (word target) to (take n (drop from (if b then (object_of t (word source)).fields else [])))) h.kind
    ∙ ap (all_written t (word target) to) (sym (fields_from_is t (word source) from n h.fields))
    ∙ all_written_is (fields_from t (word source) from n) t (word target) to k.kind

there_known : (t : Table) (x : Value) → is_there table t x ≡ true → IsKnown t x × IsWord x
unfolding is_live
there_known t (Small n) h = (λ big. absurd (cc), grind (arith, nat_tests))
there_known t (Ref n) h = (λ big. h, tt)

get_some : (xs : List Value) (i : ℕ) (d : Value) → i < length xs → slice_get xs i ≡ Some (get_or xs i d)
get_some [] i d l = absurd (omega (arith, l))
get_some (x ∷ xs) zero d l = refl
get_some (x ∷ xs) (suc i) d l = get_some xs i d (omega (arith, l))

are_known : (t : Table) (v : Value) (from n : ℕ) → AllThere t → from + n ≤ length (object_of t v).fields → AreKnown t (fields_from t v from n)
unfolding fields_from field_of
are_known t v from zero closed l = tt
are_known t v from (suc n) closed l = (
  there_known t (get_or (object_of t v).fields from nil) (closed v from (get_or (object_of t v).fields from nil) (get_some (object_of t v).fields from nil (omega (arith, l)))),
  are_known t v (suc from) n closed (omega (arith, l)),
)

module _ (t u : Table) (source target : Word) (from to : ℕ) (a : Head) where
  pub copies_none : (n : ℕ) → n ≡ 0 → u ≡ t → Changes (transfer apart n (word source) from (word target) to) itself t a (Ok tt) u
  copies_none n e is = λ s over h.
      subst (λ m. m.run s ≡ Went tt (record s { memory = u })) (sym (transfer-as apart_tabular n (word source) from (word target) to))
      (run-transfer_none n (word source) from (word target) to s e ∙ ap (λ w. Went tt (record s { memory = w })) (over ∙ sym is))

  pub copies_unread : (n : ℕ) (k : Dead) → n ≢ 0 → Lacks t (word source) from n k → Changes (transfer apart n (word source) from (word target) to) itself t a (Err k) u
  copies_unread zero k some lacks = absurd (some refl)
  copies_unread (suc n) k some lacks = λ s over h.
      subst (λ m. m.run s ≡ Died k) (sym (transfer-as apart_tabular (suc n) (word source) from (word target) to))
      (run-transfer_unread n (word source) from (word target) to s k (subst (λ w. Lacks w (word source) from (suc n) k) (sym over) lacks))

  module _ (closed : AllThere t) where
    pub copies_unwritten : (n : ℕ) (k : Dead) → n ≢ 0 → Has t (word source) from n → Lacks t (word target) to n k → Changes (transfer apart n (word source) from (word target) to) itself t a (Err k) u
    copies_unwritten zero k some has lacks = absurd (some refl)
    copies_unwritten (suc n) k some has lacks = λ s over h.
        subst (λ m. m.run s ≡ Died k) (sym (transfer-as apart_tabular (suc n) (word source) from (word target) to))
        (run-transfer_unwritten n (word source) from (word target) to s k (subst (λ w. Has w (word source) from (suc n)) (sym over) has) (subst (λ w. Lacks w (word target) to (suc n) k) (sym over) lacks)
        (subst (λ w. AreKnown w (fields_from w (word source) from (suc n))) (sym over) (are_known t (word source) from (suc n) closed has.fields)))

    pub copies : (n : ℕ) → Has t (word source) from n → Has t (word target) to n → u ≡ after_change t (Fields n source from target to) → Changes (transfer apart n (word source) from (word target) to) itself t a (Ok tt) u
    copies n has hold is = λ s over h.
        subst (λ m. m.run s ≡ Went tt (record s { memory = u })) (sym (transfer-as apart_tabular n (word source) from (word target) to))
        (run-transfer n (word source) from (word target) to s (subst (λ w. Has w (word source) from n) (sym over) has) (subst (λ w. Has w (word target) to n) (sym over) hold)
        (subst (λ w. AreKnown w (fields_from w (word source) from n)) (sym over) (are_known t (word source) from n closed has.fields))
        ∙ ap (λ w. Went tt (record s { memory = w })) (ap (λ w. with_fields w (word target) to (fields_from w (word source) from n)) over ∙ sym (copied_is t source target n from to has hold) ∙ sym is))

-- the call that makes an object

module _ (t u : Table) (class : Word) (k : Kind) (n l : ℕ) (a : Head) where
  new_small : (v : Value) → is_small v ≡ true → (s : State Table) → (make apart v k n l).run s ≡ Died dead.Small
  unfolding make die
  new_small (Small j) h s = refl
  new_small (Ref j) h s = cc

  pub makes_small : is_small (word class) ≡ true → Changes (make apart (word class) k n l) word t a (Err dead.Small) u
  makes_small h = λ s over g. new_small (word class) h s

  new_absent : (v : Value) (s : State Table) → is_small v ≡ false → is_there apart s.memory v ≡ false → (make apart v k n l).run s ≡ Died dead.Kind
  unfolding make make_named made
  new_absent (Small j) s h e = cc
  new_absent (Ref j) s h e = ap (λ b. made apart (new_of apart s.memory j k n l) s b true) e

  pub makes_absent : is_small (word class) ≡ false → is_there apart t (word class) ≡ false → Changes (make apart (word class) k n l) word t a (Err dead.Kind) u
  makes_absent h e = λ s over g. new_absent (word class) s h (ap (λ w. is_there apart w (word class)) over ∙ e)

  new_there : (v : Value) (c : ℕ) (s : State Table) → v ≡ Ref c → is_there apart s.memory v ≡ true
      → (make apart v k n l).run s ≡ Went (Ref (length s.memory)) (record s { memory = joined s.memory (fresh c k n l) })
  unfolding make make_named made
  new_there (Small j) c s q e = cc
  new_there (Ref j) c s q e =
      let same : j ≡ c = cc in
      ap (λ b. made apart (new_of apart s.memory j k n l) s b true) e
      ∙ ap (λ i. Went (Ref (length s.memory)) (record s { memory = joined s.memory (fresh i k n l) })) same

  pub makes : (o : Word) → is_small (word class) ≡ false → is_there apart t (word class) ≡ true → word o ≡ Ref (length t) → u ≡ joined t (fresh (class.0 / 2) k n l)
      → Changes (make apart (word class) k n l) word t a (Ok o) u
  makes o h e name is = λ s over g.
      new_there (word class) (class.0 / 2) s (value_of-even class.0 h) (ap (λ w. is_there apart w (word class)) over ∙ e)
      ∙ ap (λ w. Went (Ref (length w)) (record s { memory = joined w (fresh (class.0 / 2) k n l) })) over
      ∙ ap (λ w. Went w (record s { memory = joined t (fresh (class.0 / 2) k n l) })) (sym name)
      ∙ ap (λ w. Went (word o) (record s { memory = w })) (sym is)

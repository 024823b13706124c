-- What an outcome names is the word at the top of the stack: a field of the active context, which is a root. So reclaiming
-- keeps it. What was pushed is at the top.
use Rattle.std.proofs.Common.{◌≡◌, ℕ, zero, suc, ◌+◌, ◌≤◌, List, [], ◌∷◌, length, Option, Some, None, Bool, true, false, refl, sym, ◌∙◌, ap, subst, arith}
use Rattle.std.specs.Prelude.{◌-◌, slice_get, slice_set, nat_lt, nat_le}
use Rattle.std.proofs.lemmas.Bool.Decides.{nat_tests}
use Rattle.st_model.specs.declared.dead.Dead.{Dead}
use Rattle.st_model.specs.declared.dead.Dead.TheVariants as dead
use Rattle.st_model.specs.Values.{Value, Small, Ref, IsLive}
use Rattle.st_model.specs.Objects.{Object, is_pointers, with_field}
use Rattle.st_model.specs.Outcomes.{Outcome, IsLiveOutcome}
use Rattle.st_model.specs.Outcomes as outcome
use Rattle.st_model.specs.Machine.{State, Transition, Died, Went, is_there, answer, die, after, or_left, tried, ◌>>=◌, ◌>>◌}
use Rattle.st_model.specs.Steps.{found, object_named, object, stored_at, store_at, set_field, check, or_die, fetch_field, store_field, count_fields, get_sp, get_active, set_sp, put, push, top, pop}
use Rattle.st_model.specs.Primitives.{pop_words, answer_with, succeed, primitive, check_bytes}
use Rattle.st_model.specs.Storage.{primitive_say}
use Rattle.st_model.specs.Table.{Table, table, bounded_table, entry, changed}
use Rattle.st_model.specs.Settled.{reclaim}
use Rattle.st_model.specs.Show.{IsUsed, IsClosed}
use Rattle.st_model.proofs.TableLemmas.{changed-some}
use Rattle.st_model.proofs.WholeLemmas.{live_at}
use Rattle.st_model.proofs.Reclaiming.{reclaim_closed, root_stays}

-- a field that was fetched

pub record HasField (t : Table) (x : Value) (i : ℕ) (v : Value) : Type 0 where
  pub name : ℕ
  pub object : Object
  pub is : x ≡ Ref name
  pub there : entry t name ≡ Some object
  pub field : slice_get object.fields i ≡ Some v

there : (k : Dead) (x : Option Value) (v : Value) (s t : State Table) → (or_die k x).run s ≡ Went v t → x ≡ Some v
unfolding or_die answer die
there k None v s t e = cc
there k (Some a) v s t e = cc

checked : (k : Dead) (x : Option Value) (b : Bool) (v : Value) (s t : State Table) → after ((check dead.Kind b).run s) (λ u s'. (or_die k x).run s') ≡ Went v t → x ≡ Some v
unfolding check answer die after
checked k x true v s t e = there k x v s t e
checked k x false v s t e = cc

read : (t : Table) (n i : ℕ) (v : Value) (x : Option Object) (s u : State Table) → entry t n ≡ x
    → after ((found x).run s) (λ o s'. after ((check dead.Kind (is_pointers o.kind)).run s') (λ b s''. (or_die dead.Field (slice_get o.fields i)).run s'')) ≡ Went v u
    → HasField t (Ref n) i v
unfolding found answer die after
read t n i v None s u q e = cc
read t n i v (Some o) s u q e = record { name = n; object = o; is = refl; there = q; field = checked dead.Field (slice_get o.fields i) (is_pointers o.kind) v s u e }

fetched : (x v : Value) (i : ℕ) (s u : State Table) → (fetch_field bounded_table x i).run s ≡ Went v u → HasField s.memory x i v
unfolding fetch_field ◌>>=◌ ◌>>◌ object object_named die after
fetched (Small n) v i s u e = cc
fetched (Ref n) v i s u e = read s.memory n i v (entry s.memory n) s u refl e

top_if : (v : Value) (i : ℕ) (s u : State Table) (b : Bool) → after ((check dead.Sp b).run s) (λ a s'. (fetch_field bounded_table s'.registers.active i).run s') ≡ Went v u
    → HasField s.memory s.registers.active i v
unfolding check answer die after
top_if v i s u true e = fetched s.registers.active v i s u e
top_if v i s u false e = cc

top_field : (v : Value) (s u : State Table) → (top bounded_table).run s ≡ Went v u → HasField s.memory s.registers.active s.registers.sp v
unfolding top ◌>>=◌ ◌>>◌ get_sp get_active after check answer die
top_field v s u e = top_if v s.registers.sp s u (nat_lt 5 s.registers.sp) e

module _ (d : State Table) (c : IsClosed d) where
  top_stays : (v : Value) (u : State Table) → (top bounded_table).run d ≡ Went v u → IsLive (IsUsed (reclaim table d).memory) v
  top_stays v u e =
      let f = top_field v d u e in
      let stays = root_stays d c f.name f.object f.is f.there in
      live_at (IsUsed (reclaim table d).memory) f.object.fields d.registers.sp v ((reclaim_closed d c).objects f.name f.object stays).fields f.field

  pub outcome_stays : (o : Outcome) → ((v : Value) → o ≡ outcome.Say v → (top bounded_table).run d ≡ Went v d) → IsLiveOutcome (IsUsed (reclaim table d).memory) o
  outcome_stays outcome.Went f = tt
  outcome_stays outcome.Snapshot f = tt
  outcome_stays outcome.Quit f = tt
  outcome_stays outcome.Debugger f = tt
  outcome_stays (outcome.Say v) f = top_stays v d (f v refl)

-- what a step that went did before its last part
before_last : {A B : Type 0} (x : Transition (State Table) A) (f : A → State Table → Transition (State Table) B) (b : B) (u : State Table)
    → after x f ≡ Went b u → (a : A) × (t : State Table) × (x ≡ Went a t) × (f a t ≡ Went b u)
unfolding after
before_last (Died k) f b u e = cc
before_last (Went a t) f b u e = (a, t, refl, e)

checked_is : (k : Dead) (b : Bool) (z : Unit {0}) (s u : State Table) → (check k b).run s ≡ Went z u → (b ≡ true) × (u ≡ s)
unfolding check answer die
checked_is k true z s u e = (refl, cc)
checked_is k false z s u e = cc

found_is : (x : Option Object) (o : Object) (s u : State Table) → (found x).run s ≡ Went o u → (x ≡ Some o) × (u ≡ s)
unfolding found answer die
found_is None o s u e = cc
found_is (Some a) o s u e = let q : a ≡ o = cc in (ap (λ y. Some y) q, cc)

-- an object that is there, in a state that stays
pub record IsThere (s : State Table) (v : Value) (o : Object) (u : State Table) : Type 0 where
  pub name : ℕ
  pub is : v ≡ Ref name
  pub there : entry s.memory name ≡ Some o
  pub stays : u ≡ s

object_is : (v : Value) (o : Object) (s u : State Table) → (object bounded_table v).run s ≡ Went o u → IsThere s v o u
unfolding object object_named die
object_is (Small n) o s u e = cc
object_is (Ref n) o s u e = let h = found_is (entry s.memory n) o s u e in record { name = n; is = refl; there = h.0; stays = h.1 }

or_die_is : {A : Type 0} (k : Dead) (x : Option A) (a : A) (s u : State Table) → (or_die k x).run s ≡ Went a u → (x ≡ Some a) × (u ≡ s)
unfolding or_die answer die
or_die_is k None a s u e = cc
or_die_is k (Some b) a s u e = let q : b ≡ a = cc in (ap (λ y. Some y) q, cc)

fetch_is : (x : Value) (i : ℕ) (v : Value) (s u : State Table) → (fetch_field bounded_table x i).run s ≡ Went v u → u ≡ s
unfolding fetch_field ◌>>=◌ ◌>>◌
fetch_is x i v s u e =
    let a = before_last ((object bounded_table x).run s) (λ o t. after ((check dead.Kind (is_pointers o.kind)).run t) (λ z t'. (or_die dead.Field (slice_get o.fields i)).run t')) v u e in
    let b = before_last ((check dead.Kind (is_pointers a.0.kind)).run a.1) (λ z t'. (or_die dead.Field (slice_get a.0.fields i)).run t') v u a.3 in
    let c = or_die_is dead.Field (slice_get a.0.fields i) v b.1 u b.3 in
    let d = checked_is dead.Kind (is_pointers a.0.kind) b.0 a.1 b.1 b.2 in
    c.1 ∙ (d.1 ∙ (object_is x a.0 s a.1 a.2).stays)

top_is : (v : Value) (s u : State Table) → (top bounded_table).run s ≡ Went v u → (nat_lt 5 s.registers.sp ≡ true) × (u ≡ s)
unfolding top ◌>>=◌ ◌>>◌ get_sp get_active
top_is v s u e =
    let a = before_last ((check dead.Sp (nat_lt 5 s.registers.sp)).run s) (λ z t. (fetch_field bounded_table t.registers.active s.registers.sp).run t) v u e in
    let b = checked_is dead.Sp (nat_lt 5 s.registers.sp) a.0 s a.1 a.2 in
    (b.0, fetch_is a.1.registers.active s.registers.sp v a.1 u a.3 ∙ b.1)

-- once a word is popped, the stack pointer is at least that of an empty stack
popped : (v : Value) (s u : State Table) → (pop bounded_table).run s ≡ Went v u → 5 ≤ u.registers.sp
unfolding pop ◌>>=◌ ◌>>◌ get_sp set_sp answer after
popped v s u e =
    let a = before_last ((top bounded_table).run s) (λ x t. Went x (record t { registers = record t.registers { sp = t.registers.sp - 1 } })) v u e in
    let b = top_is a.0 s a.1 a.2 in
    let q : record a.1 { registers = record a.1.registers { sp = a.1.registers.sp - 1 } } ≡ u = cc in
    let p : a.1.registers.sp ≡ s.registers.sp = ap (λ (y : State Table). y.registers.sp) b.1 in
    let r : a.1.registers.sp - 1 ≡ u.registers.sp = ap (λ (y : State Table). y.registers.sp) q in
    let h = b.0 in
    grind (arith, nat_tests, h, p, r)

popped_words : (z : Unit {0}) (s u : State Table) → (pop_words bounded_table 1).run s ≡ Went z u → 5 ≤ u.registers.sp
unfolding pop_words ◌>>=◌ answer
popped_words z s u e =
    let a = before_last ((pop bounded_table).run s) (λ x t. Went tt t) z u e in
    let q : a.1 ≡ u = cc in
    subst (λ (y : State Table). 5 ≤ y.registers.sp) q (popped a.0 s a.1 a.2)

-- what is stored in a field

pub record Stored (s : State Table) (v : Value) (i : ℕ) (x : Value) (u : State Table) : Type 0 where
  pub name : ℕ
  pub object : Object
  pub is : v ≡ Ref name
  pub there : entry s.memory name ≡ Some object
  pub pointers : is_pointers object.kind ≡ true
  pub within : nat_lt i (length object.fields) ≡ true
  pub now : u ≡ record s { memory = changed s.memory name (with_field object i x) }

stored_is : (n i : ℕ) (x : Value) (z : Unit {0}) (s u : State Table) (a : Option Object) (c : Bool) (o : Object) → a ≡ Some o
    → stored_at bounded_table n i x s a c ≡ Went z u → u ≡ record s { memory = changed s.memory n (with_field o i x) }
unfolding stored_at
stored_is n i x z s u None c o e f = cc
stored_is n i x z s u (Some p) false o e f = cc
stored_is n i x z s u (Some p) true o e f =
    let q : p ≡ o = cc in
    let r : u ≡ record s { memory = changed s.memory n (with_field p i x) } = cc in
    r ∙ ap (λ y. record s { memory = changed s.memory n (with_field y i x) }) q

set_is : (n i : ℕ) (x : Value) (z : Unit {0}) (s u : State Table) (o : Object) → entry s.memory n ≡ Some o → (set_field bounded_table (Ref n) i x).run s ≡ Went z u
    → u ≡ record s { memory = changed s.memory n (with_field o i x) }
unfolding set_field store_at
set_is n i x z s u o e f = stored_is n i x z s u (entry s.memory n) (is_there bounded_table s.memory x) o e f

store_is : (v : Value) (i : ℕ) (x : Value) (z : Unit {0}) (s u : State Table) → (store_field bounded_table v i x).run s ≡ Went z u → Stored s v i x u
unfolding store_field ◌>>=◌ ◌>>◌
store_is v i x z s u e =
    let a = before_last ((object bounded_table v).run s) (λ o t. after ((check dead.Kind (is_pointers o.kind)).run t) (λ y t'. after ((check dead.Field (nat_lt i (length o.fields))).run t') (λ y' t''. (set_field bounded_table v i x).run t''))) z u e in
    let o = object_is v a.0 s a.1 a.2 in
    let b = before_last ((check dead.Kind (is_pointers a.0.kind)).run a.1) (λ y t'. after ((check dead.Field (nat_lt i (length a.0.fields))).run t') (λ y' t''. (set_field bounded_table v i x).run t'')) z u a.3 in
    let k = checked_is dead.Kind (is_pointers a.0.kind) b.0 a.1 b.1 b.2 in
    let c = before_last ((check dead.Field (nat_lt i (length a.0.fields))).run b.1) (λ y' t''. (set_field bounded_table v i x).run t'') z u b.3 in
    let l = checked_is dead.Field (nat_lt i (length a.0.fields)) c.0 b.1 c.1 c.2 in
    let same : c.1 ≡ s = l.1 ∙ (k.1 ∙ o.stays) in
    let set : (set_field bounded_table (Ref o.name) i x).run s ≡ Went z u =
    subst (λ y. (set_field bounded_table y i x).run s ≡ Went z u) o.is (subst (λ (y : State Table). (set_field bounded_table v i x).run y ≡ Went z u) same c.3) in
    record { name = o.name; object = a.0; is = o.is; there = o.there; pointers = k.0; within = l.0; now = set_is o.name i x z s u a.0 o.there set }

count_is : (v : Value) (n : ℕ) (s u : State Table) → (count_fields bounded_table v).run s ≡ Went n u → u ≡ s
unfolding count_fields ◌>>=◌ ◌>>◌ answer
count_is v n s u e =
    let a = before_last ((object bounded_table v).run s) (λ o t. after ((check dead.Kind (is_pointers o.kind)).run t) (λ y t'. Went (length o.fields) t')) n u e in
    let b = before_last ((check dead.Kind (is_pointers a.0.kind)).run a.1) (λ y t'. Went (length a.0.fields) t') n u a.3 in
    let k = checked_is dead.Kind (is_pointers a.0.kind) b.0 a.1 b.1 b.2 in
    let q : u ≡ b.1 = cc in
    q ∙ (k.1 ∙ (object_is v a.0 s a.1 a.2).stays)

put_is : (v : Value) (i : ℕ) (x : Value) (z : Unit {0}) (s u : State Table) → (put bounded_table v i x).run s ≡ Went z u → Stored s v i x u
unfolding put ◌>>=◌ ◌>>◌
put_is v i x z s u e =
    let a = before_last ((count_fields bounded_table v).run s) (λ n t. after ((check dead.Sp (nat_lt i n)).run t) (λ y t'. after ((check dead.Sp (nat_le i 16388)).run t') (λ y' t''. (store_field bounded_table v i x).run t''))) z u e in
    let b = before_last ((check dead.Sp (nat_lt i a.0)).run a.1) (λ y t'. after ((check dead.Sp (nat_le i 16388)).run t') (λ y' t''. (store_field bounded_table v i x).run t'')) z u a.3 in
    let c = before_last ((check dead.Sp (nat_le i 16388)).run b.1) (λ y' t''. (store_field bounded_table v i x).run t'') z u b.3 in
    let k = checked_is dead.Sp (nat_lt i a.0) b.0 a.1 b.1 b.2 in
    let l = checked_is dead.Sp (nat_le i 16388) c.0 b.1 c.1 c.2 in
    let same : c.1 ≡ s = l.1 ∙ (k.1 ∙ count_is v a.0 s a.1 a.2) in
    store_is v i x z s u (subst (λ (y : State Table). (store_field bounded_table v i x).run y ≡ Went z u) same c.3)

got_back : (xs : List Value) (i : ℕ) (x : Value) → nat_lt i (length xs) ≡ true → slice_get (slice_set xs i x) i ≡ Some x
got_back [] i x h = absurd (grind (arith, nat_tests, h))
got_back (y ∷ ys) zero x h = refl
got_back (y ∷ ys) (suc i) x h = got_back ys i x (grind (arith, nat_tests, h))

fetched_back : (v : Value) (n i : ℕ) (x : Value) (u : State Table) (o : Object) → v ≡ Ref n → entry u.memory n ≡ Some o → is_pointers o.kind ≡ true
    → slice_get o.fields i ≡ Some x → (fetch_field bounded_table v i).run u ≡ Went x u
unfolding fetch_field ◌>>=◌ ◌>>◌ object object_named found check or_die answer after
fetched_back v n i x u o r e k g = rw (r, e, k, g) refl

top_by : (x : Value) (u : State Table) → nat_lt 5 u.registers.sp ≡ true → (fetch_field bounded_table u.registers.active u.registers.sp).run u ≡ Went x u → (top bounded_table).run u ≡ Went x u
unfolding top ◌>>=◌ ◌>>◌ get_sp get_active check answer after
top_by x u h e = rw h e

pushed : (x : Value) (z : Unit {0}) (s u : State Table) → 5 ≤ s.registers.sp → (push bounded_table x).run s ≡ Went z u → (top bounded_table).run u ≡ Went x u
unfolding push ◌>>=◌ ◌>>◌ get_sp get_active set_sp
pushed x z s u l e =
    let sp = s.registers.sp + 1 in
    let a = before_last ((put bounded_table s.registers.active sp x).run s) (λ y t. Went tt (record t { registers = record t.registers { sp = sp } })) z u e in
    let st = put_is s.registers.active sp x a.0 s a.1 a.2 in
    let w : State Table = record s { memory = changed s.memory st.name (with_field st.object sp x); registers = record s.registers { sp = sp } } in
    let q : u ≡ record a.1 { registers = record a.1.registers { sp = sp } } = cc in
    let r : u ≡ w = q ∙ ap (λ (y : State Table). record y { registers = record y.registers { sp = sp } }) st.now in
    let there = changed-some s.memory st.name (with_field st.object sp x) st.object st.there in
    let f : (fetch_field bounded_table s.registers.active sp).run w ≡ Went x w =
    fetched_back s.registers.active st.name sp x w (with_field st.object sp x) st.is there st.pointers (got_back st.object.fields sp x st.within) in
    subst (λ (y : State Table). (top bounded_table).run y ≡ Went x y) (sym r) (top_by x w (grind (arith, nat_tests, l)) f)

-- an answer that takes the place of a receiver is at the top
answered : (x : Value) (z : Unit {0}) (s u : State Table) → (answer_with bounded_table 0 x).run s ≡ Went z u → (top bounded_table).run u ≡ Went x u
unfolding answer_with ◌>>=◌ ◌>>◌
answered x z s u e =
    let a = before_last ((pop_words bounded_table 1).run s) (λ y t. (push bounded_table x).run t) z u e in
    pushed x z a.1 u (popped_words a.0 s a.1 a.2) a.3

say_leaves : (r : Value) (x : Transition (State Table) (Unit {0})) (b : Bool) (s u : State Table)
    → after (or_left s x) (λ a t. (succeed bounded_table 0 (λ y. answer r) a).run t) ≡ Went b u → b ≡ true → (top bounded_table).run u ≡ Went r u
unfolding succeed ◌>>=◌ ◌>>◌ answer after
say_leaves r (Died k) b s u e f = cc
say_leaves r (Went y t) b s u e f =
    let a = before_last ((answer_with bounded_table 0 r).run t) (λ z t'. Went true t') b u e in
    let q : a.1 ≡ u = cc in
    answered r a.0 t u (a.2 ∙ ap (λ (y : State Table). Went a.0 y) q)

-- what is said stays at the top
pub said : (r : Value) (b : Bool) (s u : State Table) → (primitive_say bounded_table r).run s ≡ Went b u → b ≡ true → (top bounded_table).run u ≡ Went r u
unfolding primitive_say primitive ◌>>=◌ tried
said r b s u e f = say_leaves r ((check_bytes bounded_table r).run s) b s u e f

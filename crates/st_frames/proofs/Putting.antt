-- A place of a stack, put at one look. A store counts the fields too: where it dies of the field, the place is past them.
use Rattle.std.proofs.Common.{◌≡◌, ◌≢◌, ◌∙◌, ℕ, ◌<◌, ◌≤◌, Bool, true, false, Option, Some, None, refl, sym, arith, length, inl, inr}
use Rattle.std.specs.Prelude.{nat_lt, nat_le}
use Rattle.std.proofs.lemmas.Bool.{cases_Bool}
use Rattle.std.proofs.lemmas.Bool.Decides.{nat_tests}
use Rattle.st_model.specs.declared.dead.Dead.{Dead}
use Rattle.st_model.specs.declared.dead.Dead.TheVariants as dead
use Rattle.st_model.specs.Values.{Value, Small, Ref}
use Rattle.st_model.specs.Objects.{Object, is_pointers}
use Rattle.st_model.specs.Machine.{ObjectMemory, State, Transition, Died, Went, is_there, answer, die}
use Rattle.st_model.specs.Table.{Table}
use Rattle.st_model.specs.Steps.{found, object_named, object, stored_at, store_at, set_field, store_field, count_fields, put}
use Rattle.st_model.proofs.Runs.{run-then, run-next, after-went, after-died, run-answer, run-passed, run-failed}

-- another cause than the field
kind_field : (t : Transition (State Table) (Unit {0})) → t ≡ Died dead.Kind → t ≢ Died dead.Field
kind_field t e = λ f. cc

small_field : (t : Transition (State Table) (Unit {0})) → t ≡ Died dead.Small → t ≢ Died dead.Field
small_field t e = λ f. cc

module _ (m : ObjectMemory Table) (s : State Table) where
  -- an object is read, as the state stands; or the step dies of a SmallInteger or a wrong kind
  by_name : (G : Type 0) (n : ℕ) (a : Option Object) → m.read s.memory n ≡ a → ((object m (Ref n)).run s ≡ Died dead.Kind → G)
      → ((o : Object) → (object m (Ref n)).run s ≡ Went o s → G) → G
  unfolding object object_named found die answer
  by_name G n None e gone there = gone (rw e refl)
  by_name G n (Some o) e gone there = there o (rw e refl)

  by_object : (G : Type 0) (v : Value) → ((object m v).run s ≡ Died dead.Small → G) → ((object m v).run s ≡ Died dead.Kind → G)
      → ((o : Object) → (object m v).run s ≡ Went o s → G) → G
  unfolding object die
  by_object G (Small n) small gone there = small refl
  by_object G (Ref n) small gone there = by_name G n (m.read s.memory n) refl gone there

  -- no field is set past the fields
  stored_within : (n i : ℕ) (x : Value) (a : Option Object) (b : Bool) → stored_at m n i x s a b ≢ Died dead.Field
  unfolding stored_at
  stored_within n i x None b = λ e. cc
  stored_within n i x (Some o) false = λ e. cc
  stored_within n i x (Some o) true = λ e. cc

  set_within : (v : Value) (i : ℕ) (x : Value) → (set_field m v i x).run s ≢ Died dead.Field
  unfolding set_field store_at die
  set_within (Small n) i x = λ e. cc
  set_within (Ref n) i x = stored_within n i x (m.read s.memory n) (is_there m s.memory x)

  module _ (v : Value) (at : ℕ) (x : Value) where
    -- the object isn't read
    store_unread : (k : Dead) → (object m v).run s ≡ Died k → (store_field m v at x).run s ≡ Died k
    unfolding store_field
    store_unread k e = simp (run-then, run-next, e, after-died) refl

    put_unread : (k : Dead) → (object m v).run s ≡ Died k → (put m v at x).run s ≡ Died k
    unfolding put count_fields
    put_unread k e = simp (run-then, run-next, e, after-died) refl

    module _ (o : Object) (e : (object m v).run s ≡ Went o s) where
      -- it is no object of kind Pointers
      store_other : is_pointers o.kind ≡ false → (store_field m v at x).run s ≡ Died dead.Kind
      unfolding store_field
      store_other k = simp (run-then, run-next, e, after-went, after-died, run-failed dead.Kind _ s k) refl

      put_other : is_pointers o.kind ≡ false → (put m v at x).run s ≡ Died dead.Kind
      unfolding put count_fields
      put_other k = simp (run-then, run-next, e, after-went, after-died, run-failed dead.Kind _ s k) refl

      -- the place is past its fields
      store_past : is_pointers o.kind ≡ true → nat_lt at (length o.fields) ≡ false → (store_field m v at x).run s ≡ Died dead.Field
      unfolding store_field
      store_past k l = simp (run-then, run-next, e, after-went, after-died, run-passed dead.Kind _ s k, run-failed dead.Field _ s l) refl

      put_past : is_pointers o.kind ≡ true → nat_lt at (length o.fields) ≡ false → (put m v at x).run s ≡ Died dead.Sp
      unfolding put count_fields
      put_past k l = simp (run-then, run-next, e, after-went, after-died, run-answer, run-passed dead.Kind _ s k, run-failed dead.Sp _ s l) refl

      -- it is within them
      store_within : is_pointers o.kind ≡ true → nat_lt at (length o.fields) ≡ true → (store_field m v at x).run s ≡ (set_field m v at x).run s
      unfolding store_field
      store_within k l = simp (run-then, run-next, e, after-went, run-passed dead.Kind _ s k, run-passed dead.Field _ s l) refl

      put_within : is_pointers o.kind ≡ true → nat_lt at (length o.fields) ≡ true → nat_le at 16388 ≡ true → (put m v at x).run s ≡ (store_field m v at x).run s
      unfolding put count_fields
      put_within k l h = simp (run-then, run-next, e, after-went, run-answer, run-passed dead.Kind _ s k, run-passed dead.Sp _ s l, run-passed dead.Sp _ s h) refl

    -- where it isn't past them, or the object is of another kind
    both : (o : Object) → (object m v).run s ≡ Went o s → at ≤ 16388 → (store_field m v at x).run s ≢ Died dead.Field → (put m v at x).run s ≡ (store_field m v at x).run s
    both o e low within = elim (cases_Bool (is_pointers o.kind)) [
      | inl k ↦ elim (cases_Bool (nat_lt at (length o.fields))) [
        | inl l ↦ put_within o e k l (grind (arith, nat_tests, low))
        | inr l ↦ absurd (within (store_past o e k l))
      ]
      | inr k ↦ put_other o e k ∙ sym (store_other o e k)
    ]

    -- what isn't past the fields is put as it is stored
    pub put-stored : at ≤ 16388 → (store_field m v at x).run s ≢ Died dead.Field → (put m v at x).run s ≡ (store_field m v at x).run s
    put-stored low within =
        by_object ((put m v at x).run s ≡ (store_field m v at x).run s) v (λ e. put_unread dead.Small e ∙ sym (store_unread dead.Small e))
        (λ e. put_unread dead.Kind e ∙ sym (store_unread dead.Kind e)) (λ o e. both o e low within)

    past : (o : Object) → (object m v).run s ≡ Went o s → (store_field m v at x).run s ≡ Died dead.Field → (put m v at x).run s ≡ Died dead.Sp
    past o e beyond = elim (cases_Bool (is_pointers o.kind)) [
      | inl k ↦ elim (cases_Bool (nat_lt at (length o.fields))) [
        | inl l ↦ absurd (set_within v at x (sym (store_within o e k l) ∙ beyond))
        | inr l ↦ put_past o e k l
      ]
      | inr k ↦ absurd (kind_field ((store_field m v at x).run s) (store_other o e k) beyond)
    ]

    -- what is past the fields is at no place of the stack
    pub put-beyond : (store_field m v at x).run s ≡ Died dead.Field → (put m v at x).run s ≡ Died dead.Sp
    put-beyond beyond =
        by_object ((put m v at x).run s ≡ Died dead.Sp) v (λ e. absurd (small_field ((store_field m v at x).run s) (store_unread dead.Small e) beyond))
        (λ e. absurd (kind_field ((store_field m v at x).run s) (store_unread dead.Kind e) beyond)) (λ o e. past o e beyond)

    high : (n : ℕ) → 16388 < at → (count_fields m v).run s ≡ Went n s → (b : Bool) → nat_lt at n ≡ b → (put m v at x).run s ≡ Died dead.Sp
    unfolding put
    high n above e true l =
        let h : nat_le at 16388 ≡ false = grind (arith, nat_tests, above) in
        simp (run-then, run-next, e, after-went, after-died, run-passed dead.Sp _ s l, run-failed dead.Sp _ s h) refl
    high n above e false l = simp (run-then, run-next, e, after-went, after-died, run-failed dead.Sp _ s l) refl

    -- no place of the stack is above 16388, whether within the fields or past them
    pub put-above : (n : ℕ) → 16388 < at → (count_fields m v).run s ≡ Went n s → (put m v at x).run s ≡ Died dead.Sp
    put-above n above e = high n above e (nat_lt at n) refl

    -- where no fields are counted, nothing is put
    pub put-uncounted : (k : Dead) → (count_fields m v).run s ≡ Died k → (put m v at x).run s ≡ Died k
    unfolding put
    put-uncounted k e = simp (run-then, e, after-died) refl

pub ruleset puts = (put-stored, put-beyond)

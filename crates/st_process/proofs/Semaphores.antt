-- What can be a semaphore, and what is done to the timer by the time that was read.
use Rattle.std.proofs.Common.{◌≡◌, ℕ, ◌<◌, ◌≤◌, Option, Some, None, Bool, true, false, length, refl, ap, sym, ◌∙◌, arith}
use Rattle.std.specs.Prelude.{◌&&◌, nat_lt, nat_le, if◌then◌else◌}
use Rattle.std.proofs.lemmas.Bool.Decides.{nat_tests}
use Rattle.st_model.specs.declared.dead.Dead.{Dead}
use Rattle.st_model.specs.declared.dead.Dead.TheVariants as dead
use Rattle.st_model.specs.declared.kind.Kind.{Kind}
use Rattle.st_model.specs.Values.{Value, Small, Ref, is_small}
use Rattle.st_model.specs.Objects.{Object, is_pointers}
use Rattle.st_model.specs.Machine.{ObjectMemory, Head, State, Transition, Died, Went, Step, answer, die, after, ◌>>=◌, ◌>>◌}
use Rattle.st_model.specs.Table.{Table}
use Rattle.st_model.specs.Steps.{found, object, object_named, check, fetch_kind, fetch_bytes, count_fields, count_signals, get_millisecond_clock}
use Rattle.st_model.specs.Primitives.{number_of_bytes}
use Rattle.st_model.specs.Input.{Timing, Rings, Waits, check_four_bytes, can_be_signalled, ring, ring_or_wait, timing}
use Rattle.st_frames.specs.declared.registers.Registers.{Registers as Words}
use Rattle.st_frames.specs.inside.Rows.{row_state}
use Rattle.st_frames.specs.inside.Answering.{number_read}
use Rattle.st_process.specs.inside.Timing.{timing_by}

module _ (m : ObjectMemory Table) where
  -- a look at an object that is there or not
  kind_of : Option Object → Step Table Kind
  kind_of x = found x >>= (λ o. answer o.kind)

  count_of : Option Object → Step Table ℕ
  count_of x = found x >>= (λ o. check dead.Kind (is_pointers o.kind) >> answer (length o.fields))

  signalled : Option Object → Step Table Bool
  signalled x = found x >>= (λ o. answer (is_pointers o.kind && nat_le 3 (length o.fields)))

  pub small-signalled : (v : Value) (s : State Table) → is_small v ≡ true → (can_be_signalled m v).run s ≡ Went false s
  unfolding can_be_signalled answer
  small-signalled (Small n) s e = refl
  small-signalled (Ref n) s e = cc

  died : {A B : Type 0} (a k : Dead) → (let x : Transition (State Table) A = Died a in x ≡ Died k) → (let x : Transition (State Table) B = Died a in x ≡ Died k)
  died a k e = let q : a ≡ k = cc in ap (λ c. Died c) q

  gone : (x : Option Object) (s : State Table) (k : Dead) → (kind_of x).run s ≡ Died k → (signalled x).run s ≡ Died k
  unfolding kind_of signalled found ◌>>=◌ after answer die
  gone None s k e = died dead.Kind k e
  gone (Some o) s k e = cc

  pub kind-died : (v : Value) (s : State Table) (k : Dead) → is_small v ≡ false → (fetch_kind m v).run s ≡ Died k → (can_be_signalled m v).run s ≡ Died k
  unfolding fetch_kind can_be_signalled object object_named kind_of signalled ◌>>=◌
  kind-died (Small n) s k e f = cc
  kind-died (Ref n) s k e f = gone (m.read s.memory n) s k f

  other : (x : Option Object) (s : State Table) (k : Kind) → (kind_of x).run s ≡ Went k s → is_pointers k ≡ false → (signalled x).run s ≡ Went false s
  unfolding kind_of signalled found ◌>>=◌ after answer die
  other None s k e f = cc
  other (Some o) s k e f = let q : o.kind ≡ k = cc in rw (q, f) refl

  pub kind-other : (v : Value) (s : State Table) (k : Kind) → is_small v ≡ false → (fetch_kind m v).run s ≡ Went k s → is_pointers k ≡ false → (can_be_signalled m v).run s ≡ Went false s
  unfolding fetch_kind can_be_signalled object object_named kind_of signalled ◌>>=◌
  kind-other (Small n) s k e f g = cc
  kind-other (Ref n) s k e f g = other (m.read s.memory n) s k f g

  counted : (x : Option Object) (s : State Table) (i : ℕ) → (count_of x).run s ≡ Went i s → (signalled x).run s ≡ Went (nat_le 3 i) s
  unfolding count_of signalled found ◌>>=◌ ◌>>◌ after answer die check
  counted None s i e = cc
  counted (Some o) s i e = of_kind (is_pointers o.kind) e
    where
      of_kind : (b : Bool) → (check dead.Kind b >> answer (length o.fields)).run s ≡ Went i s → (answer {H = Table} (b && nat_le 3 (length o.fields))).run s ≡ Went (nat_le 3 i) s
      of_kind true f = let q : length o.fields ≡ i = cc in rw q refl
      of_kind false f = cc

  pub fields-counted : (v : Value) (s : State Table) (i : ℕ) → is_small v ≡ false → (count_fields m v).run s ≡ Went i s → (can_be_signalled m v).run s ≡ Went (nat_le 3 i) s
  unfolding count_fields can_be_signalled object object_named count_of signalled ◌>>=◌
  fields-counted (Small n) s i e f = cc
  fields-counted (Ref n) s i e f = counted (m.read s.memory n) s i f

  uncounted : (x : Option Object) (s : State Table) (k : Kind) (c : Dead) → (kind_of x).run s ≡ Went k s → is_pointers k ≡ true → (count_of x).run s ≡ Died c → (signalled x).run s ≡ Died c
  unfolding kind_of count_of signalled found ◌>>=◌ ◌>>◌ after answer die check
  uncounted None s k c e f g = cc
  uncounted (Some o) s k c e f g = let q : o.kind ≡ k = cc in let h : is_pointers o.kind ≡ true = rw q f in let i = rw h at g in cc

  -- an object of kind Pointers has a number of fields
  pub fields-uncounted : (v : Value) (s : State Table) (k : Kind) (c : Dead) → is_small v ≡ false → (fetch_kind m v).run s ≡ Went k s → is_pointers k ≡ true → (count_fields m v).run s ≡ Died c
      → (can_be_signalled m v).run s ≡ Died c
  unfolding fetch_kind count_fields can_be_signalled object object_named kind_of count_of signalled ◌>>=◌
  fields-uncounted (Small n) s k c e f g h = cc
  fields-uncounted (Ref n) s k c e f g h = uncounted (m.read s.memory n) s k c f g h

pub ruleset semaphores = (small-signalled, kind-died, kind-other, fields-counted, fields-uncounted)

module _ (t : Table) (a : Head) (r : Words) (time now : ℕ) (is : now ≡ r.world.now.millisecond_clock) where
  clock_is : get_millisecond_clock.run (row_state t a r) ≡ Went now (row_state t a r)
  unfolding get_millisecond_clock row_state
  clock_is = ap (λ n. Went n (row_state t a r)) (sym is)

  by_time : Step Table Timing
  by_time = if nat_le time now then ring else answer (Waits time)

  compared : (ring_or_wait time).run (row_state t a r) ≡ by_time.run (row_state t a r)
  unfolding ring_or_wait ◌>>=◌ after by_time
  compared = ap (λ x. after x (λ n u. (if nat_le time n then ring else answer (Waits time)).run u)) clock_is

  pub due-later : now < time → (ring_or_wait time).run (row_state t a r) ≡ Went (Waits time) (row_state t a r)
  unfolding answer by_time
  due-later l =
      let b : nat_le time now ≡ false = grind (arith, nat_tests) in
      compared ∙ ap (λ (x : Bool). (if x then ring else answer (Waits time)).run (row_state t a r)) b

  module _ (pending : ℕ) (count : pending ≡ length r.world.now.devices.pending) where
    count_is : count_signals.run (row_state t a r) ≡ Went pending (row_state t a r)
    unfolding count_signals row_state
    count_is = ap (λ n. Went n (row_state t a r)) (sym count)

    rung : (b : Bool) → nat_lt pending 4096 ≡ b → time ≤ now → (ring_or_wait time).run (row_state t a r) ≡ (check dead.Excess b >> answer Rings).run (row_state t a r)
    unfolding ring ◌>>=◌ ◌>>◌ after by_time
    rung b e l =
        let c : nat_le time now ≡ true = grind (arith, nat_tests) in
        compared
        ∙ (ap (λ (x : Bool). (if x then ring else answer (Waits time)).run (row_state t a r)) c
        ∙ (ap (λ x. after x (λ n u. (check dead.Excess (nat_lt n 4096) >> answer Rings).run u)) count_is
        ∙ ap (λ (x : Bool). (check dead.Excess x >> answer Rings).run (row_state t a r)) e))

    pub due-full : time ≤ now → 4096 ≤ pending → (ring_or_wait time).run (row_state t a r) ≡ Died dead.Excess
    unfolding ◌>>=◌ ◌>>◌ after check die
    due-full l h = rung false (grind (arith, nat_tests)) l

    pub due-now : time ≤ now → pending < 4096 → (ring_or_wait time).run (row_state t a r) ≡ Went Rings (row_state t a r)
    unfolding ◌>>=◌ ◌>>◌ after check answer
    due-now l h = rung true (grind (arith, nat_tests)) l

pub ruleset dues = (due-later, due-full, due-now)

-- the time is the number of the four bytes
read_on : {A B C : Type 0} (x : Transition (State Table) A) (f : A → B) (g : B → State Table → Transition (State Table) C)
    → after x (λ a t. g (f a) t) ≡ after (after x (λ a t. Went (f a) t)) g
unfolding after
read_on (Died k) f g = refl
read_on (Went a t) f g = refl

checked_then : {B : Type 0} (x : Transition (State Table) (Unit {0})) (f g : State Table → Transition (State Table) B) → ((s : State Table) → f s ≡ g s) → after x (λ u t. f t) ≡ after x (λ u t. g t)
unfolding after
checked_then (Died k) f g h = refl
checked_then (Went u t) f g h = h t

pub timing-read : (m : ObjectMemory Table) (a b : Value) (s : State Table)
    → (timing m a b).run s ≡ after ((check_four_bytes m b).run s) (λ u t. after ((number_read m b 0 4).run t) (λ time w. (timing_by m a time).run w))
unfolding timing timing_by number_read ◌>>=◌ ◌>>◌ answer
timing-read m a b s =
    checked_then ((check_four_bytes m b).run s) _ _ (λ t. read_on ((fetch_bytes m b 0 4).run t) number_of_bytes (λ time w. (timing_by m a time).run w))

pub ruleset timings = (timing-read)

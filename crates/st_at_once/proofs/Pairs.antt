-- Where receiver and argument were read, to drop two words is to pop both: nothing dies then that didn't die before.
use Rattle.std.proofs.Common.{◌≡◌, ℕ, Bool, true, false, Option, Some, None, Result, Ok, Err, refl, sym, ap, ◌∙◌, arith}
use Rattle.std.proofs.lemmas.Bool.Decides.{nat_tests}
use Rattle.std.specs.Prelude.{◌+◌, ◌-◌, nat_lt, nat_le, slice_get, ℤ}
use Rattle.st_model.specs.declared.dead.Dead.{Dead}
use Rattle.st_model.specs.declared.dead.Dead.TheVariants as dead
use Rattle.st_model.specs.declared.integers.IntAnswer.TheVariants.{Number, Truth}
use Rattle.st_model.specs.Values.{Value, Small, Ref}
use Rattle.st_model.specs.Objects.{Object, is_pointers}
use Rattle.st_model.specs.Machine.{ObjectMemory, State, Transition, Died, Went, answer, die, after, ◌>>=◌, ◌>>◌}
use Rattle.st_model.specs.Steps.{get_active, get_sp, set_sp, of_page, found, object_named, object, check, or_die, fetch_field, push, under, top, pop, drop_words}
use Rattle.st_model.specs.Primitives.{pop_words, answer_with, succeed, truth}
use Rattle.st_model.specs.Arithmetic.{value_of_answer}
use Rattle.st_model.specs.Table.{Table}
use Rattle.st_model.proofs.Runs.{run-passed}
use Rattle.st_control.specs.inside.AtOnce.{at_once}
use Rattle.st_at_once.specs.inside.AtOnce.{replace_pair, answered_at_once}

-- what reads, and leaves the state
abbrev pub reads : Result Value Dead → State Table → Transition (State Table) Value
reads (Ok v) s = Went v s
reads (Err cause) s = Died cause

abbrev part : Bool → Option Value → Result Value Dead
part false x = Err dead.Kind
part true None = Err dead.Field
part true (Some v) = Ok v

abbrev field_in : Option Object → ℕ → Result Value Dead
field_in None i = Err dead.Kind
field_in (Some o) i = part (is_pointers o.kind) (slice_get o.fields i)

abbrev field_of : ObjectMemory Table → Table → Value → ℕ → Result Value Dead
field_of m t (Small n) i = Err dead.Small
field_of m t (Ref n) i = field_in (m.read t n) i

part-reads : (b : Bool) (x : Option Value) (s : State Table) → (check dead.Kind b >> or_die dead.Field x).run s ≡ reads (part b x) s
unfolding check or_die answer die after ◌>>=◌ ◌>>◌
part-reads false x s = refl
part-reads true None s = refl
part-reads true (Some v) s = refl

field-reads : (e : Option Object) (i : ℕ) (s : State Table)
    → after ((found e).run s) (λ o t. (check dead.Kind (is_pointers o.kind) >> or_die dead.Field (slice_get o.fields i)).run t) ≡ reads (field_in e i) s
unfolding found answer die after
field-reads None i s = refl
field-reads (Some o) i s = part-reads (is_pointers o.kind) (slice_get o.fields i) s

module _ (m : ObjectMemory Table) where
  fetch-reads : (v : Value) (i : ℕ) (s : State Table) → (fetch_field m v i).run s ≡ reads (field_of m s.memory v i) s
  unfolding fetch_field object object_named ◌>>=◌ die after
  fetch-reads (Small n) i s = refl
  fetch-reads (Ref n) i s = field-reads (m.read s.memory n) i s

  -- a word of the stack, where it isn't below that
  abbrev word_at : Table → Value → Bool → ℕ → Result Value Dead
  word_at t c false i = Err dead.Sp
  word_at t c true i = field_of m t c i

  place-reads : (b : Bool) (i : ℕ) (s : State Table)
      → (check dead.Sp b >> (get_active >>= (λ c. fetch_field m c i))).run s ≡ reads (word_at s.memory s.registers.active b i) s
  unfolding check answer die get_active after ◌>>=◌ ◌>>◌
  place-reads false i s = refl
  place-reads true i s = fetch-reads s.registers.active i s

  -- the word k words below the top
  abbrev pub word_under : ℕ → State Table → Result Value Dead
  word_under k s = word_at s.memory s.registers.active (nat_lt (5 + k) s.registers.sp) (s.registers.sp - k)

  pub under-reads : (k : ℕ) (s : State Table) → (under m k).run s ≡ reads (word_under k s) s
  unfolding under get_sp after ◌>>=◌
  under-reads k s = place-reads (nat_lt (5 + k) s.registers.sp) (s.registers.sp - k) s

  -- the state with so many words on the stack
  abbrev with_sp : State Table → ℕ → State Table
  with_sp s n = record s { registers = record s.registers { sp = n } }

  popped : (x : Value) (b : Bool) (s : State Table) → b ≡ nat_lt 5 s.registers.sp → word_at s.memory s.registers.active b s.registers.sp ≡ Ok x
      → (pop m).run s ≡ Went x (with_sp s (s.registers.sp - 1))
  unfolding pop top get_sp set_sp answer after ◌>>=◌ ◌>>◌
  popped x b s l e =
      let read : (check dead.Sp (nat_lt 5 s.registers.sp) >> (get_active >>= (λ c. fetch_field m c s.registers.sp))).run s ≡ Went x s =
      place-reads (nat_lt 5 s.registers.sp) s.registers.sp s ∙ ap (λ o. reads o s) (ap (λ y. word_at s.memory s.registers.active y s.registers.sp) (sym l) ∙ e) in
      ap (λ o. after o (λ v t. Went v (with_sp t (t.registers.sp - 1)))) read

  above : (t : Table) (c x : Value) (b : Bool) (i : ℕ) → word_at t c b i ≡ Ok x → (b ≡ true) × (field_of m t c i ≡ Ok x)
  above t c x false i e = cc
  above t c x true i e = (refl, e)

  module _ (s : State Table) (x y : Value) (receiver : word_under 1 s ≡ Ok x) (argument : word_under 0 s ≡ Ok y) where
    pops : (pop_words m 2).run s ≡ Went tt (with_sp s (s.registers.sp - 1 - 1))
    unfolding pop_words answer after ◌>>=◌
    pops =
        let r = above s.memory s.registers.active x _ _ receiver in
        let high : nat_lt 5 (s.registers.sp - 1) ≡ true = let l = r.0 in grind (arith, nat_tests, l) in
        let whole : s.registers.sp ≡ s.registers.sp - 0 = omega arith in
        let top : word_at s.memory s.registers.active (nat_lt 5 s.registers.sp) s.registers.sp ≡ Ok y =
        ap (λ i. word_at s.memory s.registers.active (nat_lt 5 s.registers.sp) i) whole ∙ argument in
        ap (λ o. after o (λ v t. after ((pop m).run t) (λ w u. Went tt u))) (popped y _ s refl top)
        ∙ ap (λ o. after o (λ w u. Went tt u)) (popped x true (with_sp s (s.registers.sp - 1)) (sym high) r.1)

    drops : (drop_words 2).run s ≡ Went tt (with_sp s (s.registers.sp - 2))
    unfolding drop_words get_sp set_sp after ◌>>=◌ ◌>>◌
    drops =
        let r = above s.memory s.registers.active x _ _ receiver in
        let high : nat_le 7 s.registers.sp ≡ true = let l = r.0 in grind (arith, nat_tests, l) in
        ap (λ o. after o (λ u t. Went tt (with_sp t (s.registers.sp - 2)))) (run-passed dead.Sp (nat_le 7 s.registers.sp) s high)

    left-same : (drop_words 2).run s ≡ (pop_words m 2).run s
    left-same =
        let same : s.registers.sp - 2 ≡ s.registers.sp - 1 - 1 = omega arith in
        drops ∙ ap (λ n. Went tt (with_sp s n)) same ∙ sym pops

    replaced-same : (v : Value) → (at_once (replace_pair m v)).run s ≡ (at_once (answer_with m 1 v)).run s
    unfolding at_once replace_pair answer_with ◌>>=◌ ◌>>◌
    replaced-same v = ap (λ o. after (after o (λ u t. (push m v).run t)) (λ u t. (answer true).run t)) left-same

    pub number-same : (n : ℤ) → (answered_at_once m (Some (Number n))).run s ≡ (succeed m 1 (value_of_answer m) (Some (Number n))).run s
    unfolding answered_at_once succeed value_of_answer answer after at_once ◌>>=◌
    number-same n = replaced-same _

    pub truth-same : (b : Bool) → (answered_at_once m (Some (Truth b))).run s ≡ (succeed m 1 (value_of_answer m) (Some (Truth b))).run s
    unfolding answered_at_once succeed value_of_answer truth of_page after at_once ◌>>=◌
    truth-same true = replaced-same _
    truth-same false = replaced-same _

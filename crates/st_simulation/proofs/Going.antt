-- What a bytecode is done with that says something: what is so of the receiver where primitive 128 succeeded is so of it. It is at the top of
-- the stack, and over births of kind Bytes.
use Rattle.std.proofs.Common.{◌≡◌, ℕ, Option, Some, None, Bool, true, false, refl, subst}
use Rattle.std.specs.Prelude.{if◌then◌else◌}
use Rattle.st_model.specs.declared.primitive.Primitive.{Primitive}
use Rattle.st_model.specs.declared.primitive.Primitive.TheVariants as named
use Rattle.st_model.specs.PrimitiveTable.{primitive_of}
use Rattle.st_model.specs.declared.dead.Dead.{Dead}
use Rattle.st_model.specs.declared.bytecode.Bytecode.{Bytecode}
use Rattle.st_model.specs.declared.bytecode.Bytecode.TheVariants as code
use Rattle.st_model.specs.Values.{Value, Small, Ref}
use Rattle.st_model.specs.Outcomes.{Outcome}
use Rattle.st_model.specs.Outcomes as outcome
use Rattle.st_model.specs.Machine.{ObjectMemory, State, Transition, Died, Went, Step, answer, die, after, ◌>>=◌, ◌>>◌}
use Rattle.st_model.specs.Births.{Births, births}
use Rattle.st_model.specs.Table.{Table, bounded_table}
use Rattle.st_model.specs.Steps.{top, look_at_words}
use Rattle.st_model.specs.Storage.{primitive_say}
use Rattle.st_model.specs.Sends.{Call}
use Rattle.st_model.specs.Contexts.{activate}
use Rattle.st_model.specs.Executing.{goes_on, if_done, succeeds, says, asks, respond_by, respond_if_any, respond, by_flag, or_activate, respond_by_extension, execute_by, execute_found, perform_found, perform, primitive_perform, perform_fields, primitive_perform_with, perform_by, respond_or_perform, execute, executed, execute_if_any, executed_if_any}
use Rattle.st_model.specs.Bytecodes.{or_send, arithmetic_by, arithmetic_send, primitive_send, bytecode, step}
use Rattle.st_model.specs.inside.Foreseen.{NamesTop}
use Rattle.st_simulation.specs.inside.Laws.{IsOfBytes}
use Rattle.st_simulation.proofs.OnTop.{said}
use Rattle.st_simulation.proofs.SaidBytes.{said_bytes}

module _ {H : Type 0} (M : ObjectMemory H) (so : State H → Value → Type 0)
    (said_so : (r : Value) (b : Bool) (s u : State H) → (primitive_say M r).run s ≡ Went b u → b ≡ true → so u r) where
  -- a step after which, where it answers what names a value, this is so of it
  record Leaves {B : Type 0} (e : Value → B) (m : Step H B) : Type 0 where
    names : (s t : State H) (v : Value) → m.run s ≡ Went (e v) t → so t v

  -- whose outcome names nothing else; and a primitive, whose outcome there may be none of
  abbrev NamesOnlyTop : Step H Outcome → Type 0
  NamesOnlyTop m = Leaves outcome.Say m

  abbrev saying : Value → Option Outcome
  saying v = Some (outcome.Say v)

  abbrev TriesOnlyTop : Step H (Option Outcome) → Type 0
  TriesOnlyTop m = Leaves saying m

  module _ {B : Type 0} (e : Value → B) where
    dead_names : (cause : Dead) → Leaves e (die cause)
    unfolding die
    dead_names cause = record { names = λ s t v h. cc }

    module _ {A : Type 0} (m : Step H A) (f : A → Step H B) (names : (a : A) → Leaves e (f a)) where
      names_after : (x : Transition (State H) A) (t : State H) (v : Value) → after x (λ a u. (f a).run u) ≡ Went (e v) t → so t v
      unfolding after
      names_after (Died cause) t v h = cc
      names_after (Went a u) t v h = (names a).names u t v h

      then_names : Leaves e (m >>= f)
      unfolding ◌>>=◌
      then_names = record { names = λ s t v h. names_after (m.run s) t v h }

    next_names : {A : Type 0} (m : Step H A) (n : Step H B) → Leaves e n → Leaves e (m >> n)
    unfolding ◌>>◌
    next_names m n h = then_names m (λ a. n) (λ a. h)

    if_names : (b : Bool) (m n : Step H B) → Leaves e m → Leaves e n → Leaves e (if b then m else n)
    if_names true m n h k = h
    if_names false m n h k = k

  ruleset naming = (dead_names, then_names, next_names, if_names)

  went_names : NamesOnlyTop (answer outcome.Went)
  unfolding answer
  went_names = record { names = λ s t v e. cc }

  goes_on_names : (m : Step H Unit) → NamesOnlyTop (goes_on m)
  unfolding goes_on
  goes_on_names m = next_names outcome.Say m (answer outcome.Went) went_names

  -- a primitive that fails, goes on, or asks for something

  none_names : TriesOnlyTop (answer None)
  unfolding answer
  none_names = record { names = λ s t v e. cc }

  done_names : TriesOnlyTop (answer (Some outcome.Went))
  unfolding answer
  done_names = record { names = λ s t v e. cc }

  if_done_names : (m : Step H Bool) → TriesOnlyTop (if_done outcome.Went m)
  unfolding if_done
  if_done_names m = then_names saying m _ (λ b. if_names saying b _ _ done_names none_names)

  succeeds_after : (t : State H) (v : Value) (x : Transition (State H) Outcome) → after x (λ a u. (answer (Some a)).run u) ≡ Went (saying v) t → x ≡ Went (outcome.Say v) t
  unfolding after answer
  succeeds_after t v (Died cause) e = cc
  succeeds_after t v (Went a u) e = cc

  succeeds_names : (m : Step H Outcome) → NamesOnlyTop m → TriesOnlyTop (succeeds m)
  unfolding succeeds ◌>>=◌
  succeeds_names m h = record { names = λ s t v e. h.names s t v (succeeds_after t v (m.run s) e) }

  -- where it succeeded, its receiver is at the top
  said_names : (r : Value) (b : Bool) (s t : State H) (v : Value) → (b ≡ true → so s r)
      → (if b then answer (saying r) else answer None).run s ≡ Went (saying v) t → so t v
  unfolding answer
  said_names r false s t v k e = cc
  said_names r true s t v k e =
      let p : r ≡ v = cc in
      let q : s ≡ t = cc in
      subst (λ (y : State H). so y v) q (subst (λ x. so s x) p (k refl))

  say_after : (r : Value) (s t : State H) (v : Value) (x : Transition (State H) Bool) → (primitive_say M r).run s ≡ x
      → after x (λ b u. (if b then answer (saying r) else answer None).run u) ≡ Went (saying v) t → so t v
  unfolding after
  say_after r s t v (Died cause) p e = cc
  say_after r s t v (Went b u) p e = said_names r b u t v (said_so r b s u p) e

  say_names : (r : Value) → TriesOnlyTop (if_done (outcome.Say r) (primitive_say M r))
  unfolding if_done ◌>>=◌
  say_names r = record { names = λ s t v e. say_after r s t v ((primitive_say M r).run s) refl e }

  says_names : TriesOnlyTop (says M)
  unfolding says
  says_names = then_names saying (top M) _ say_names

  snapshot_names : NamesOnlyTop (answer outcome.Snapshot)
  unfolding answer
  snapshot_names = record { names = λ s t v e. cc }

  quit_names : NamesOnlyTop (answer outcome.Quit)
  unfolding answer
  quit_names = record { names = λ s t v e. cc }

  debugger_names : NamesOnlyTop (answer outcome.Debugger)
  unfolding answer
  debugger_names = record { names = λ s t v e. cc }

  ruleset trying = (naming, none_names, if_done_names, succeeds_names, goes_on_names, says_names, snapshot_names, quit_names, debugger_names)

  respond_by_names : (n : ℕ) (p : Primitive) → TriesOnlyTop (respond_by M n p)
  unfolding respond_by asks
  respond_by_names n named.Say = says_names
  respond_by_names n p = search trying depth 16 fits 4000

  if_any_names : (f : Primitive → Step H (Option Outcome)) (p : Option Primitive) → ((q : Primitive) → TriesOnlyTop (f q)) → TriesOnlyTop (respond_if_any M f p)
  unfolding respond_if_any
  if_any_names f None h = none_names
  if_any_names f (Some p) h = h p

  respond_names : (k n : ℕ) → TriesOnlyTop (respond M k n)
  unfolding respond
  respond_names k n = if_any_names _ (primitive_of k n) (respond_by_names n)

  -- what executes a method

  activate_after : (c : Call) (v : Value) (t : State H) (w : Value) (s : State H) (x : Transition (State H) (Option Outcome))
      → (x ≡ Went (saying w) t → so t w)
      → after x (λ a u. (or_activate M c v a).run u) ≡ Went (outcome.Say w) t → so t w
  unfolding after or_activate answer
  activate_after c v t w s (Died cause) h e = cc
  activate_after c v t w s (Went None u) h e = (goes_on_names (activate M c.method v c.arguments)).names u t w e
  activate_after c v t w s (Went (Some a) u) h e = h cc

  or_activate_names : (p : Step H (Option Outcome)) (c : Call) (v : Value) → TriesOnlyTop p → NamesOnlyTop (p >>= or_activate M c v)
  unfolding ◌>>=◌
  or_activate_names p c v h = record { names = λ s t w e. activate_after c v t w s (p.run s) (h.names s t w) e }

  execute_by_names : (f : ℕ → ℕ → Step H (Option Outcome)) (c : Call) → ((k n : ℕ) → TriesOnlyTop (f k n)) → NamesOnlyTop (execute_by M f c)
  unfolding execute_by respond_by_extension by_flag
  execute_by_names f c h = search (or_activate_names, naming, went_names, goes_on_names, h) depth 16 fits 4000

  performed_names : (c : Call) → NamesOnlyTop (execute_by M (respond M) c)
  performed_names c = execute_by_names _ c respond_names

  execute_found_names : (class selector : Value) (n : ℕ) (found : Option Value) → NamesOnlyTop (execute_found M class selector n found)
  unfolding execute_found
  execute_found_names class selector n None = then_names outcome.Say _ _ performed_names
  execute_found_names class selector n (Some method) = performed_names _

  perform_names : (receiver selector : Value) (n : ℕ) (m : Step H Unit) → TriesOnlyTop (perform M receiver selector n m)
  unfolding perform perform_found
  perform_names receiver selector n m = search (naming, none_names, succeeds_names, execute_found_names) depth 16 fits 4000

  perform_fields_names : (r a b : Value) (n : Option ℕ) → TriesOnlyTop (perform_fields M r a b n)
  unfolding perform_fields
  perform_fields_names r a b None = none_names
  perform_fields_names r a b (Some n) = perform_names r a n _

  perform_by_names : (n : ℕ) (p : Primitive) → TriesOnlyTop (perform_by M n p)
  unfolding perform_by primitive_perform primitive_perform_with
  perform_by_names n named.Perform = search (naming, perform_names) depth 16 fits 4000
  perform_by_names n named.PerformWith = search (naming, perform_fields_names) depth 16 fits 4000
  perform_by_names n p = respond_by_names n _

  respond_or_perform_names : (k n : ℕ) → TriesOnlyTop (respond_or_perform M k n)
  unfolding respond_or_perform
  respond_or_perform_names k n = if_any_names _ (primitive_of k n) (perform_by_names n)

  execute_names : (c : Call) → NamesOnlyTop (execute M c)
  unfolding execute
  execute_names c = execute_by_names _ c respond_or_perform_names

  executed_names : (s : Step H Call) → NamesOnlyTop (executed M s)
  unfolding executed
  executed_names s = then_names outcome.Say s _ execute_names

  execute_if_any_names : (c : Option Call) → NamesOnlyTop (execute_if_any M c)
  unfolding execute_if_any
  execute_if_any_names None = went_names
  execute_if_any_names (Some c) = execute_names c

  executed_if_any_names : (s : Step H (Option Call)) → NamesOnlyTop (executed_if_any M s)
  unfolding executed_if_any
  executed_if_any_names s = then_names outcome.Say s _ execute_if_any_names

  or_send_names : (k : ℕ) (m : Step H Bool) → NamesOnlyTop (or_send M k m)
  unfolding or_send
  or_send_names k m = search (naming, went_names, executed_names)

  arithmetic_by_names : (k : ℕ) (v : Value) → NamesOnlyTop (arithmetic_by M k v)
  unfolding arithmetic_by
  arithmetic_by_names k (Small n) = or_send_names k _
  arithmetic_by_names k (Ref n) = executed_names _

  bytecode_names : (b : Bytecode) → NamesOnlyTop (bytecode M b)
  unfolding bytecode arithmetic_send primitive_send
  bytecode_names code.Unused = dead_names outcome.Say _
  bytecode_names b = search (naming, goes_on_names, executed_names, executed_if_any_names, or_send_names, arithmetic_by_names)

  step_only_names : NamesOnlyTop (step M)
  unfolding step
  step_only_names = search (naming, bytecode_names)

  tried_names : (k n : ℕ) → TriesOnlyTop (look_at_words M n >> respond_or_perform M k n)
  tried_names k n = next_names saying (look_at_words M n) (respond_or_perform M k n) (respond_or_perform_names k n)

  pub number_says : (k n : ℕ) (s t : State H) (v : Value) → (look_at_words M n >> respond_or_perform M k n).run s ≡ Went (Some (outcome.Say v)) t → so t v
  number_says k n = (tried_names k n).names

  pub step_says : (s t : State H) (v : Value) → (step M).run s ≡ Went (outcome.Say v) t → so t v
  step_says = step_only_names.names

pub step_names_top : NamesTop bounded_table (step bounded_table)
step_names_top = step_says bounded_table (λ t v. (top bounded_table).run t ≡ Went v t) said

pub step_says_bytes : (s t : State Births) (v : Value) → (step births).run s ≡ Went (outcome.Say v) t → IsOfBytes t.memory v
step_says_bytes = step_says births (λ t v. IsOfBytes t.memory v) said_bytes

pub number_names_top : (k n : ℕ) (s t : State Table) (v : Value) → (look_at_words bounded_table n >> respond_or_perform bounded_table k n).run s ≡ Went (Some (outcome.Say v)) t
    → (top bounded_table).run t ≡ Went v t
number_names_top = number_says bounded_table (λ t v. (top bounded_table).run t ≡ Went v t) said

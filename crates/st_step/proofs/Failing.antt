-- A primitive that failed has changed nothing.
use Rattle.std.proofs.Common.{Result, Ok, Err, ◌≡◌, ℕ, Bool, true, false, Option, Some, None, refl, sym, ◌∙◌}
use Rattle.std.specs.Prelude.{if◌then◌else◌, ℤ}
use Rattle.st_model.specs.declared.dead.Dead.{Dead}
use Rattle.st_model.specs.declared.primitive.StoragePrimitive.{StoragePrimitive}
use Rattle.st_model.specs.declared.primitive.StoragePrimitive.TheVariants as of_objects
use Rattle.st_model.specs.declared.primitive.BlockPrimitive.{BlockPrimitive}
use Rattle.st_model.specs.declared.primitive.BlockPrimitive.TheVariants as of_blocks
use Rattle.st_model.specs.declared.primitive.ProcessPrimitive.{ProcessPrimitive}
use Rattle.st_model.specs.declared.primitive.ProcessPrimitive.TheVariants as of_processes
use Rattle.st_model.specs.declared.primitive.InputPrimitive.{InputPrimitive}
use Rattle.st_model.specs.declared.primitive.InputPrimitive.TheVariants as of_devices
use Rattle.st_model.specs.declared.primitive.Primitive.{Primitive}
use Rattle.st_model.specs.declared.primitive.Primitive.TheVariants as named
use Rattle.st_model.specs.Values.{Value, Small, Ref}
use Rattle.st_model.specs.Objects.{Object}
use Rattle.st_model.specs.Outcomes.{Outcome}
use Rattle.st_model.specs.Machine.{ObjectMemory, State, Transition, Died, Went, Step, answer, die, after, or_left, tried, ◌>>=◌, ◌>>◌}
use Rattle.st_model.specs.Table.{Table}
use Rattle.st_model.specs.Steps.{get_active, get_sp, found, object_named, object, check, or_die, fetch_field, top, under}
use Rattle.st_model.specs.Primitives.{succeed, primitive}
use Rattle.st_model.specs.Arithmetic.{arithmetic, large_arithmetic, shift_large}
use Rattle.st_model.specs.BitBlt.{primitive_copy_bits}
use Rattle.st_model.specs.Storage.{primitive_at, primitive_at_put, primitive_size, primitive_string_at, primitive_string_at_put, primitive_next, primitive_next_put, primitive_at_end, primitive_object_at, primitive_object_at_put, primitive_new, primitive_new_with, primitive_become, primitive_instance_variable_at, primitive_instance_variable_at_put, primitive_as_oop, primitive_as_object, primitive_some_instance, primitive_next_instance, primitive_new_method, primitive_replace, primitive_core_left, primitive_oops_left, primitive_say, storage}
use Rattle.st_model.specs.Blocks.{primitive_block_copy, value_with_words, value_if_any, start_of, primitive_value, passing, value_with_fields, value_with_if_any, primitive_value_with, blocks, Passing}
use Rattle.st_model.specs.Processes.{primitive_signal, primitive_wait, primitive_resume, primitive_suspend, processes}
use Rattle.st_model.specs.Input.{primitive_mouse_point, primitive_move_mouse, primitive_link_cursor, primitive_input_semaphore, primitive_sample_interval, primitive_input_word, primitive_second_clock, primitive_millisecond_clock, primitive_timer, primitive_be_cursor, primitive_be_display, primitive_low_space, input}
use Rattle.st_model.specs.Executing.{if_done, succeeds, says, respond_by}
use Rattle.st_memory.specs.declared.objects.Objects.{Ghosts}
use Rattle.st_frames.specs.declared.registers.Registers.{Registers as Words}
use Rattle.st_frames.specs.declared.ending.RowEnd.{RowEnd}
use Rattle.st_step.specs.inside.Responding.{RowResponds, StaysIfFailed}

-- a step that only reads
record Reads {A : Type 0} (n : Step Table A) : Type 0 where
  still : (s t : State Table) (a : A) → n.run s ≡ Went a t → t ≡ s

-- one that answers so has changed nothing
record Stays {A : Type 0} (n : Step Table A) (x : A) : Type 0 where
  still : (s t : State Table) → n.run s ≡ Went x t → t ≡ s

-- one that never answers so
record Never {A : Type 0} (n : Step Table A) (x : A) : Type 0 where
  none : (s t : State Table) → n.run s ≡ Went x t → ⊥

-- ONE STEP AFTER ANOTHER

read_answer : {A : Type 0} (a : A) → Reads (answer a)
unfolding answer
read_answer a = record { still = λ s t b e. cc }

read_die : {A : Type 0} (k : Dead) → Reads (die {A = A} k)
unfolding die
read_die k = record { still = λ s t b e. cc }

module _ {A B : Type 0} (n : Step Table A) (f : A → Step Table B) where
  read_after : (x : Transition (State Table) A) (s t : State Table) (b : B) → ((a : A) (u : State Table) → x ≡ Went a u → u ≡ s) → ((a : A) → Reads (f a)) → after x (λ a u. (f a).run u) ≡ Went b t → t ≡ s
  unfolding after
  read_after (Died k) s t b h g e = cc
  read_after (Went a u) s t b h g e = (g a).still u t b e ∙ h a u refl

  read_then : Reads n → ((a : A) → Reads (f a)) → Reads (n >>= f)
  unfolding ◌>>=◌
  read_then h g = record { still = λ s t b e. read_after (n.run s) s t b (λ a u q. h.still s u a q) g e }

  stay_after : (x : Transition (State Table) A) (s t : State Table) (b : B) → ((a : A) (u : State Table) → x ≡ Went a u → u ≡ s) → ((a : A) → Stays (f a) b) → after x (λ a u. (f a).run u) ≡ Went b t → t ≡ s
  unfolding after
  stay_after (Died k) s t b h g e = cc
  stay_after (Went a u) s t b h g e = (g a).still u t e ∙ h a u refl

  stay_then : (b : B) → Reads n → ((a : A) → Stays (f a) b) → Stays (n >>= f) b
  unfolding ◌>>=◌
  stay_then b h g = record { still = λ s t e. stay_after (n.run s) s t b (λ a u q. h.still s u a q) g e }

  never_after : (x : Transition (State Table) A) (t : State Table) (b : B) → ((a : A) → Never (f a) b) → after x (λ a u. (f a).run u) ≡ Went b t → ⊥
  unfolding after
  never_after (Died k) t b g e = cc
  never_after (Went a u) t b g e = (g a).none u t e

  never_then : (b : B) → ((a : A) → Never (f a) b) → Never (n >>= f) b
  unfolding ◌>>=◌
  never_then b g = record { none = λ s t e. never_after (n.run s) t b g e }

read_next : {A B : Type 0} (n : Step Table A) (p : Step Table B) → Reads n → Reads p → Reads (n >> p)
unfolding ◌>>◌
read_next n p h g = read_then n (λ a. p) h (λ a. g)

never_next : {A B : Type 0} (n : Step Table A) (p : Step Table B) (b : B) → Never p b → Never (n >> p) b
unfolding ◌>>◌
never_next n p b g = never_then n (λ a. p) b (λ a. g)

stay_read : {A : Type 0} (n : Step Table A) (x : A) → Reads n → Stays n x
stay_read n x h = record { still = λ s t e. h.still s t x e }

stay_never : {A : Type 0} (n : Step Table A) (x : A) → Never n x → Stays n x
stay_never n x h = record { still = λ s t e. absurd (h.none s t e) }

-- a step that is tried, and then fails where it would die
module _ {A B : Type 0} (n : Step Table A) (f : Option A → Step Table B) (b : B) (none : Stays (f None) b) (some : (a : A) → Never (f (Some a)) b) where
  tried_after : (x : Transition (State Table) A) (s t : State Table) → after (or_left s x) (λ a u. (f a).run u) ≡ Went b t → t ≡ s
  unfolding after
  tried_after (Died k) s t e = none.still s t e
  tried_after (Went a u) s t e = absurd ((some a).none u t e)

  tried_stays : Stays (tried n >>= f) b
  unfolding tried ◌>>=◌
  tried_stays = record { still = λ s t e. tried_after (n.run s) s t e }

-- WHAT IS READ

ruleset reading = (read_answer, read_die, read_then, read_next)

read_check : (k : Dead) (b : Bool) → Reads (check k b)
unfolding check
read_check k true = read_answer tt
read_check k false = read_die k

read_or_die : {A : Type 0} (k : Dead) (x : Option A) → Reads (or_die k x)
unfolding or_die
read_or_die k None = read_die k
read_or_die k (Some a) = read_answer a

read_active : Reads get_active
unfolding get_active
read_active = record { still = λ s t a e. cc }

read_sp : Reads get_sp
unfolding get_sp
read_sp = record { still = λ s t a e. cc }

module _ (m : ObjectMemory Table) where
  found_read : (x : Option Object) (s t : State Table) (o : Object) → (found x).run s ≡ Went o t → t ≡ s
  unfolding found answer die
  found_read None s t o e = cc
  found_read (Some a) s t o e = cc

  read_named : (n : ℕ) → Reads (object_named m n)
  unfolding object_named
  read_named n = record { still = λ s t o e. found_read (m.read s.memory n) s t o e }

  read_object : (v : Value) → Reads (object m v)
  unfolding object
  read_object (Small n) = read_die _
  read_object (Ref n) = read_named n

  ruleset bases = (reading, read_check, read_or_die, read_active, read_sp, read_named, read_object)

  read_field : (v : Value) (i : ℕ) → Reads (fetch_field m v i)
  unfolding fetch_field
  read_field v i = search bases depth 12 fits 4000

  read_top : Reads (top m)
  unfolding top
  read_top = search (bases, read_field) depth 12 fits 4000

  read_under : (k : ℕ) → Reads (under m k)
  unfolding under
  read_under k = search (bases, read_field) depth 12 fits 4000

  -- PRIMITIVES THAT FAIL

  failed_stays : Stays (answer {H = Table} false) false
  failed_stays = stay_read _ _ (read_answer false)

  true_never : Never (answer {H = Table} true) false
  unfolding answer
  true_never = record { none = λ s t e. cc }

  succeed_never : {A : Type 0} (n : ℕ) (f : A → Step Table Value) (a : A) → Never (succeed m n f (Some a)) false
  unfolding succeed
  succeed_never n f a = never_then _ _ _ (λ v. never_next _ _ _ true_never)

  none_stays : {A : Type 0} (n : ℕ) (f : A → Step Table Value) → Stays (succeed m n f None) false
  unfolding succeed
  none_stays n f = failed_stays

  primitive_stays : {A : Type 0} (n : ℕ) (c : Step Table A) (f : A → Step Table Value) → Stays (primitive m n c f) false
  unfolding primitive
  primitive_stays n c f = tried_stays c (succeed m n f) false (none_stays n f) (succeed_never n f)

  ruleset fails = (stay_then, primitive_stays, read_top, read_under)

  arithmetic_stays : (k : ℕ) → Stays (arithmetic m k) false
  unfolding arithmetic
  arithmetic_stays k = primitive_stays _ _ _

  large_stays : (k : ℕ) → Stays (large_arithmetic m k) false
  unfolding large_arithmetic
  large_stays k = primitive_stays _ _ _

  shift_stays : Stays (shift_large m) false
  unfolding shift_large
  shift_stays = primitive_stays _ _ _

  storage_stays : (p : StoragePrimitive) → Stays (storage m p) false
  unfolding storage primitive_copy_bits primitive_at primitive_at_put primitive_size primitive_string_at primitive_string_at_put primitive_next primitive_next_put primitive_at_end primitive_object_at primitive_object_at_put primitive_new primitive_new_with primitive_become primitive_instance_variable_at primitive_instance_variable_at_put primitive_as_oop primitive_as_object primitive_some_instance primitive_next_instance primitive_new_method primitive_replace primitive_core_left primitive_oops_left
  storage_stays of_objects.At = search fails depth 12 fits 4000
  storage_stays p = search fails depth 12 fits 4000

  processes_stays : (p : ProcessPrimitive) → Stays (processes m p) false
  unfolding processes primitive_signal primitive_wait primitive_resume primitive_suspend
  processes_stays of_processes.Signal = search fails depth 12 fits 4000
  processes_stays p = search fails depth 12 fits 4000

  input_stays : (p : InputPrimitive) → Stays (input m p) false
  unfolding input primitive_mouse_point primitive_move_mouse primitive_link_cursor primitive_input_semaphore primitive_sample_interval primitive_input_word primitive_second_clock primitive_millisecond_clock primitive_timer primitive_be_cursor primitive_be_display primitive_low_space
  input_stays of_devices.MousePoint = search fails depth 12 fits 4000
  input_stays p = search fails depth 12 fits 4000

  value_never : (block : Value) (n : ℕ) (first : ℤ) → Never (value_if_any m block n (Some first)) false
  unfolding value_if_any value_with_words
  value_never block n first = never_then _ _ _ (λ c. never_then _ _ _ (λ sp. never_next _ _ _ (never_next _ _ _ (never_next _ _ _ true_never))))

  value_none : (block : Value) (n : ℕ) → Stays (value_if_any m block n None) false
  unfolding value_if_any
  value_none block n = failed_stays

  value_stays : (n : ℕ) → Stays (primitive_value m n) false
  unfolding primitive_value
  value_stays n = stay_then _ _ _ (read_under n) (λ r. tried_stays (start_of m r n) (value_if_any m r n) false (value_none r n) (value_never r n))

  fields_never : (block array : Value) (p : Passing) → Never (value_with_if_any m block array (Some p)) false
  unfolding value_with_if_any value_with_fields
  fields_never block array p = never_next _ _ _ (never_next _ _ _ (never_next _ _ _ true_never))

  fields_none : (block array : Value) → Stays (value_with_if_any m block array None) false
  unfolding value_with_if_any
  fields_none block array = failed_stays

  value_with_stays : Stays (primitive_value_with m) false
  unfolding primitive_value_with
  value_with_stays = stay_then _ _ _ (read_under 1) (λ r. stay_then _ _ _ read_top (λ a. tried_stays (passing m r a) (value_with_if_any m r a) false (fields_none r a) (fields_never r a)))

  blocks_stays : (n : ℕ) (p : BlockPrimitive) → Stays (blocks m n p) false
  unfolding blocks primitive_block_copy
  blocks_stays n of_blocks.BlockCopy = search fails depth 12 fits 4000
  blocks_stays n of_blocks.Value = value_stays n
  blocks_stays n of_blocks.ValueWith = value_with_stays

  -- CALLED BY ITS NUMBER

  some_never : {A : Type 0} (a : A) → Never (answer {H = Table} (Some a)) None
  unfolding answer
  some_never a = record { none = λ s t e. cc }

  succeeds_never : (n : Step Table Outcome) → Never (succeeds n) None
  unfolding succeeds
  succeeds_never n = never_then _ _ _ some_never

  succeeds_stays : (n : Step Table Outcome) → Stays (succeeds n) None
  succeeds_stays n = stay_never _ _ (succeeds_never n)

  none_read : Stays (answer {H = Table} {A = Option Outcome} None) None
  none_read = stay_read _ _ (read_answer None)

  done_after : (o : Outcome) (s t : State Table) (x : Transition (State Table) Bool) → ((u : State Table) → x ≡ Went false u → u ≡ s)
      → after x (λ b u. (if b then answer (Some o) else answer None).run u) ≡ Went None t → t ≡ s
  unfolding after answer
  done_after o s t (Died k) h e = cc
  done_after o s t (Went true u) h e = cc
  done_after o s t (Went false u) h e = let q : u ≡ t = cc in sym q ∙ h u refl

  if_done_stays : (o : Outcome) (p : Step Table Bool) → Stays p false → Stays (if_done o p) None
  unfolding if_done ◌>>=◌
  if_done_stays o p h = record { still = λ s t e. done_after o s t (p.run s) (λ u q. h.still s u q) e }

  say_stays : (r : Value) → Stays (primitive_say m r) false
  unfolding primitive_say
  say_stays r = primitive_stays _ _ _

  says_stays : Stays (says m) None
  unfolding says
  says_stays = stay_then _ _ _ read_top (λ r. if_done_stays _ _ (say_stays r))

  ruleset responses = (if_done_stays, succeeds_stays, none_read, arithmetic_stays, large_stays, shift_stays, storage_stays, blocks_stays, processes_stays, input_stays)

  respond_stays : (n : ℕ) (p : Primitive) → Stays (respond_by m n p) None
  unfolding respond_by
  respond_stays n named.Say = says_stays
  respond_stays n p = search responses depth 12 fits 4000

-- so a call that responds by a primitive which failed left the state as it was
pub response_still : {M : Type 0} (o : Ghosts M) (n : ℕ) (p : Primitive) (x : Result (Option RowEnd) Dead) (m k : M) (r q : Words)
    → RowResponds o (respond_by o.names n p) m r x k q → StaysIfFailed o m r x k q
response_still o n p (Err cause) m k r q h = tt
response_still o n p (Ok None) m k r q h = λ e. (respond_stays o.names n p).still _ _ h.does
response_still o n p (Ok (Some end)) m k r q h = λ e. cc

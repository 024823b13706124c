-- Registers that are fetched from the scheduled context.
use Rattle.std.proofs.Common.{◌≡◌, Ok, Err, refl, sym, subst, true}
use Rattle.std.specs.Prelude.{ℕ, ◌-ℤ◌, ◌+ℤ◌, ℤ, pos, negsuc, Result}
use Rattle.st_model.specs.declared.dead.Dead.{Dead}
use Rattle.st_model.specs.declared.word.Word.{Word}
use Rattle.st_model.specs.declared.page.PageObject.TheVariants.{SchedulerAssociation}
use Rattle.st_model.specs.Values.{Value, Small, Ref, word}
use Rattle.st_model.specs.Machine.{Went, answer, ◌>>=◌}
use Rattle.st_model.specs.Contexts.{home_by, home_of, stack_place, fetch_stack_pointer, context_registers, fetch_context_registers, scheduled_context, fetch_scheduled_registers}
use Rattle.st_model.specs.Table.{table, bounded_table}
use Rattle.st_model.specs.Steps.{are_there, fetch_integer, integer_or_die, set_registers}
use Rattle.st_model.specs.inside.Calls.{Reads, itself}
use Rattle.st_model.specs.View.{View}
use Rattle.st_model.proofs.Runs.{run-then, after-went, after-died, run-set_registers}
use Rattle.st_model.proofs.Tabular.{of_page-as, fetch_field-as, count_fields-as}
use Rattle.st_memory.specs.inside.Tabular.{bounded_tabular}
use Rattle.st_frames.specs.declared.frame.Frame.{Frame}
use Rattle.st_frames.specs.declared.fetched.Fetched.{Fetched}
use Rattle.st_frames.specs.inside.Rows.{fetched_in}
use Rattle.st_frames.specs.inside.Shown.{registers_of, with_registers, FetchesFrame}

-- A bounded table gives the registers that a table gives: nothing is made.

home_by-same : (c method : Value) → home_by bounded_table c method ≡ home_by table c method
unfolding home_by
home_by-same c (Small n) = fetch_field-as bounded_tabular c 5
home_by-same c (Ref n) = refl

home_of-same : (c : Value) → home_of bounded_table c ≡ home_of table c
unfolding home_of
home_of-same c = λ i. fetch_field-as bounded_tabular c 3 i >>= (λ method. home_by-same c method i)

integer-same : (c : Value) (k : ℕ) → fetch_integer bounded_table c k ≡ fetch_integer table c k
unfolding fetch_integer
integer-same c k = λ i. fetch_field-as bounded_tabular c k i >>= integer_or_die

place-same : (c : Value) (n : ℤ) → stack_place bounded_table c n ≡ stack_place table c n
unfolding stack_place
place-same c (pos n) = rw (count_fields-as bounded_tabular c) refl
place-same c (negsuc n) = refl

pointer-same : (c : Value) → fetch_stack_pointer bounded_table c ≡ fetch_stack_pointer table c
unfolding fetch_stack_pointer
pointer-same c = λ i. integer-same c 2 i >>= (λ n. place-same c (n +ℤ pos 5) i)

registers-same : (c : Value) → context_registers bounded_table c ≡ context_registers table c
unfolding context_registers
registers-same c = λ i. do
  home ← home_of-same c i
  method ← fetch_field-as bounded_tabular home 3 i
  receiver ← fetch_field-as bounded_tabular home 5 i
  ip ← integer-same c 1 i
  sp ← pointer-same c i
  answer (record { active = c; home = home; method = method; receiver = receiver; ip = ip -ℤ pos 1; sp = sp })

fetch-same : (c : Value) → fetch_context_registers bounded_table c ≡ fetch_context_registers table c
unfolding fetch_context_registers set_registers
fetch-same c = λ i. registers-same c i >>= set_registers table

context-same : scheduled_context bounded_table ≡ scheduled_context table
unfolding scheduled_context
context-same = λ i. do
  association ← of_page-as bounded_tabular SchedulerAssociation i
  scheduler ← fetch_field-as bounded_tabular association 1 i
  process ← fetch_field-as bounded_tabular scheduler 1 i
  fetch_field-as bounded_tabular process 1 i

module _ (v u : View) where
  of_table : (c : Value) (x : Result Frame Dead) → FetchesFrame (fetch_context_registers bounded_table c) v x u → FetchesFrame (fetch_context_registers table c) v x u
  of_table c x h = subst (λ step. FetchesFrame step v x u) (fetch-same c) h

  all_there : (c : Value) (q : Fetched) (f : Frame) → Reads (context_registers bounded_table c) fetched_in v.objects (Ok q)
      → are_there bounded_table v.objects (fetched_in q) ≡ true → registers_of f ≡ fetched_in q → u.objects ≡ v.objects → u.head ≡ v.head
      → FetchesFrame (fetch_context_registers bounded_table c) v (Ok f) u
  unfolding fetch_context_registers
  all_there c q f k e same o a = λ r w.
      simp (run-then, k (with_registers v r w) refl, after-went, run-set_registers bounded_table (fetched_in q) (with_registers v r w) e)
      (λ i. Went tt (record { memory = sym o i; registers = sym same i; world = w; head = sym a i }))

  pub dead-fetched : (c : Value) (cause : Dead) → Reads (fetch_context_registers bounded_table c) itself v.objects (Err cause) → FetchesFrame (fetch_context_registers table c) v (Err cause) u
  dead-fetched c cause k = of_table c (Err cause) (λ r w. k (with_registers v r w) refl)

  pub fetched-frame : (c : Value) (q : Fetched) (f : Frame) → Reads (context_registers bounded_table c) fetched_in v.objects (Ok q)
      → are_there bounded_table v.objects (fetched_in q) ≡ true → registers_of f ≡ fetched_in q → u.objects ≡ v.objects → u.head ≡ v.head
      → FetchesFrame (fetch_context_registers table c) v (Ok f) u
  fetched-frame c q f k e same o a = of_table c (Ok f) (all_there c q f k e same o a)

  -- the scheduled context, over the table
  context_read : (x : Result Word Dead) → Reads (scheduled_context bounded_table) word v.objects x → Reads (scheduled_context table) word v.objects x
  context_read x h = subst (λ step. Reads step word v.objects x) context-same h

  pub dead-context : (cause : Dead) → Reads (scheduled_context bounded_table) word v.objects (Err cause) → FetchesFrame (fetch_scheduled_registers table) v (Err cause) u
  unfolding fetch_scheduled_registers
  dead-context cause h = λ r w. simp (run-then, context_read (Err cause) h (with_registers v r w) refl, after-died) refl

  pub scheduled-fetched : (c : Word) (x : Result Frame Dead) → Reads (scheduled_context bounded_table) word v.objects (Ok c)
      → FetchesFrame (fetch_context_registers table (word c)) v x u → FetchesFrame (fetch_scheduled_registers table) v x u
  unfolding fetch_scheduled_registers
  scheduled-fetched c (Ok f) h k = λ r w. simp (run-then, context_read (Ok c) h (with_registers v r w) refl, after-went) (k r w)
  scheduled-fetched c (Err cause) h k = λ r w. simp (run-then, context_read (Ok c) h (with_registers v r w) refl, after-went) (k r w)

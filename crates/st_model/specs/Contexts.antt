-- Contexts and the registers that are fetched from them (chapter 27), and the activation of a method (chapter 28).
use Rattle.std.specs.Prelude.{ℕ, ◌+◌, ◌-◌, ◌*◌, ℤ, pos, negsuc, ◌+ℤ◌, ◌-ℤ◌, nat_lt, nat_le}
use Rattle.st_model.specs.declared.dead.Dead.TheVariants as dead
use Rattle.st_model.specs.Values.{Value, Small, Ref, small_integer}
use Rattle.st_model.specs.Objects.{SchedulerAssociation, MethodContextClass}
use Rattle.st_model.specs.Machine.{ObjectMemory, Registers, Step, answer, die, ◌>>=◌, ◌>>◌}
use Rattle.st_model.specs.Steps.{check, of_page, new_object, count_fields, fetch_field, store_field, fetch_integer, transfer, get_active, get_ip, get_sp, set_registers, look_at_words, drop_words}
use Rattle.st_model.specs.Methods.{literal_count, temporary_count, context_size}

module _ {H : Type 0} (m : ObjectMemory H) where
  -- Field 3 of a method context is its method; that of a block context is an argument count, and its home is field 5.
  unfoldable pub home_by : Value → Value → Step H Value
  home_by c (Small n) = fetch_field m c 5
  home_by c (Ref n) = answer c

  unfoldable pub home_of : Value → Step H Value
  home_of c = fetch_field m c 3 >>= home_by c

  -- a stack pointer from 5, for an empty stack, to the last field, and at most 16388
  unfoldable pub stack_place : Value → ℤ → Step H ℕ
  stack_place c (pos sp) = do
    n ← count_fields m c
    check dead.Sp (nat_le 5 sp)
    check dead.Sp (nat_le sp 16388)
    check dead.Sp (nat_lt sp n)
    answer sp
  stack_place c (negsuc n) = die dead.Sp

  -- it is stored less 5
  unfoldable pub fetch_stack_pointer : Value → Step H ℕ
  fetch_stack_pointer c = do
    n ← fetch_integer m c 2
    stack_place c (n +ℤ pos 5)

  -- the registers that a context gives; the instruction pointer is stored plus 1
  unfoldable pub context_registers : Value → Step H Registers
  context_registers c = do
    home ← home_of c
    method ← fetch_field m home 3
    receiver ← fetch_field m home 5
    ip ← fetch_integer m c 1
    sp ← fetch_stack_pointer c
    answer (record { active = c; home = home; method = method; receiver = receiver; ip = ip -ℤ pos 1; sp = sp })

  -- the context becomes the active one
  unfoldable pub fetch_context_registers : Value → Step H Unit
  fetch_context_registers c = context_registers c >>= set_registers m

  -- the context of the scheduler's active process
  unfoldable pub scheduled_context : Step H Value
  scheduled_context = do
    association ← of_page m SchedulerAssociation
    scheduler ← fetch_field m association 1
    process ← fetch_field m scheduler 1
    fetch_field m process 1

  unfoldable pub fetch_scheduled_registers : Step H Unit
  fetch_scheduled_registers = scheduled_context >>= fetch_context_registers

  -- the instruction pointer is stored plus 1, and the stack pointer less 5
  unfoldable pub store_context_registers : Step H Unit
  store_context_registers = do
    c ← get_active
    ip ← get_ip
    sp ← get_sp
    store_field m c 1 (small_integer (ip +ℤ pos 1))
    store_field m c 2 (Small (sp - 5))

  -- from the active context to this one
  unfoldable pub switch : Value → Step H Unit
  switch c = store_context_registers >> fetch_context_registers c

  -- The sender, the instruction pointer of the first bytecode as it is stored, the temporary count as stack pointer, and
  -- the method; field 4 isn't used.
  unfoldable pub fill_context : Value → Value → Value → Step H Unit
  fill_context context method header = do
    active ← get_active
    store_field m context 0 active
    store_field m context 1 (Small (2 * literal_count header + 3))
    store_field m context 2 (Small (temporary_count header))
    store_field m context 3 method

  unfoldable pub new_context : Value → Value → Step H Value
  new_context method header = do
    class ← of_page m MethodContextClass
    context ← new_object m class (context_size header)
    fill_context context method header
    answer context

  -- receiver and n arguments go from the stack to fields 5 and on of the context
  unfoldable pub pass_words : Value → ℕ → Step H Unit
  pass_words context n = do
    c ← get_active
    sp ← get_sp
    transfer m (n + 1) c (sp - n) context 5
    drop_words (n + 1)

  -- A context of the method becomes the active one. It must have places for receiver and arguments, and for all
  -- temporary variables.
  unfoldable pub activate : Value → Value → ℕ → Step H Unit
  activate method header n = do
    look_at_words m n
    check dead.Sp (nat_le (6 + n) (context_size header))
    check dead.Sp (nat_le (6 + temporary_count header) (context_size header))
    context ← new_context method header
    pass_words context n
    switch context

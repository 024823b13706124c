-- Processes and semaphores (chapter 29): which process goes on, which waits, and what wakes it.
--
-- A list of processes has its first one in field 0 and its last one in field 1. A process has the one behind it in field 0, its
-- suspended context in field 1, its priority in field 2, and the list that it is in in field 3. A semaphore is a list, with its
-- excess signals in field 2. The scheduler has the lists of those that are ready, by priority, in field 0, and the active
-- process in field 1.
use Rattle.std.specs.Prelude.{ℕ, zero, suc, Bool, true, false, nat_le, if◌then◌else◌, ℤ, pos, ◌+ℤ◌, int_lt, int_le}
use Rattle.st_model.specs.declared.dead.Dead.TheVariants as dead
use Rattle.st_model.specs.declared.device.Device.TheVariants.{NewProcess}
use Rattle.st_model.specs.declared.primitive.ProcessPrimitive.{ProcessPrimitive}
use Rattle.st_model.specs.declared.primitive.ProcessPrimitive.TheVariants as named
use Rattle.st_model.specs.Values.{Value, Small, small_integer}
use Rattle.st_model.specs.Objects.{NilObject, SchedulerAssociation}
use Rattle.st_model.specs.Surroundings.{Hold}
use Rattle.st_model.specs.Machine.{ObjectMemory, Step, answer, die, ◌>>=◌, ◌>>◌}
use Rattle.st_model.specs.Steps.{of_page, same_value, check, count_fields, fetch_field, store_field, fetch_integer, get_active, get_device, change_world}
use Rattle.st_model.specs.Contexts.{switch}
use Rattle.st_model.specs.Primitives.{of_receiver}

-- priorities count from 1
unfoldable pub list_number : {H : Type 0} → ℤ → Step H ℕ
list_number (pos (suc n)) = answer n
list_number priority = die dead.Field

module _ {H : Type 0} (m : ObjectMemory H) where
  unfoldable pub scheduler : Step H Value
  scheduler = do
    association ← of_page m SchedulerAssociation
    fetch_field m association 1

  unfoldable pub scheduled_process : Step H Value
  scheduled_process = do
    s ← scheduler
    fetch_field m s 1

  unfoldable pub active_or_new : Value → Bool → Step H Value
  active_or_new p true = scheduled_process
  active_or_new p false = answer p

  -- the new process that waits to be switched to, or else the scheduler's
  unfoldable pub active_process : Step H Value
  active_process = do
    p ← get_device NewProcess
    nil ← of_page m NilObject
    active_or_new p (same_value p nil)

  -- lists

  unfoldable pub link_first : Value → Value → Bool → Step H Unit
  link_first p l true = store_field m l 0 p
  link_first p l false = do
    last ← fetch_field m l 1
    store_field m last 0 p

  -- p goes behind the last process of the list
  unfoldable pub add_last : Value → Value → Step H Unit
  add_last p l = do
    first ← fetch_field m l 0
    nil ← of_page m NilObject
    link_first p l (same_value first nil)
    store_field m l 1 p
    store_field m p 3 l

  unfoldable pub unlink_first : Value → Value → Value → Bool → Step H Unit
  unlink_first p l nil true = store_field m l 0 nil >> store_field m l 1 nil
  unlink_first p l nil false = fetch_field m p 0 >>= store_field m l 0

  -- the first process of the list leaves it
  unfoldable pub take_first : Value → Step H Value
  take_first l = do
    p ← fetch_field m l 0
    last ← fetch_field m l 1
    nil ← of_page m NilObject
    unlink_first p l nil (same_value last p)
    store_field m p 0 nil
    answer p

  -- the lists of those that are ready, by priority
  unfoldable pub ready_lists : Step H Value
  ready_lists = do
    s ← scheduler
    fetch_field m s 0

  -- p is ready, behind those of its priority
  unfoldable pub sleep : Value → Step H Unit
  sleep p = do
    priority ← fetch_integer m p 2
    n ← list_number priority
    lists ← ready_lists
    l ← fetch_field m lists n
    add_last p l

  -- p goes on once the bytecode is done
  unfoldable pub let_wait : Value → Step H Unit
  let_wait p = change_world m (Hold NewProcess p)

  unfoldable pub resume_over : Value → Value → Bool → Step H Unit
  resume_over p active true = sleep active >> let_wait p
  resume_over p active false = sleep p

  -- p goes on in place of the active process where its priority is greater, and else it is ready
  unfoldable pub resume : Value → Step H Unit
  resume p = do
    priority ← fetch_integer m p 2
    active ← active_process
    other ← fetch_integer m active 2
    resume_over p active (int_lt other priority)

  -- at most 16383 signals are in excess
  unfoldable pub add_excess : Value → Step H Unit
  add_excess s = do
    n ← fetch_integer m s 2
    check dead.Excess (int_le (n +ℤ pos 1) (pos 16383))
    store_field m s 2 (small_integer (n +ℤ pos 1))

  unfoldable pub wake_first : Value → Step H Unit
  wake_first s = take_first s >>= resume

  -- the semaphore's first process is resumed, or where none waits there, a signal more is in excess
  unfoldable pub signal : Value → Step H Unit
  signal s = do
    first ← fetch_field m s 0
    nil ← of_page m NilObject
    if same_value first nil then add_excess s else wake_first s

  unfoldable pub go_on_with : Value → Step H Unit
  go_on_with l = take_first l >>= let_wait

  -- of so many lists the highest that has a process gives its first one
  unfoldable pub highest_goes_on : Value → ℕ → Step H Unit
  highest_goes_on lists zero = die dead.Idle
  highest_goes_on lists (suc n) = do
    l ← fetch_field m lists n
    first ← fetch_field m l 0
    nil ← of_page m NilObject
    if same_value first nil then highest_goes_on lists n else go_on_with l

  -- the active process waits, and the first of the highest priority that is ready goes on
  unfoldable pub suspend : Step H Unit
  suspend = do
    lists ← ready_lists
    n ← count_fields m lists
    highest_goes_on lists n

  -- the active context is kept in the scheduler's process, p takes that one's place, and none waits any more
  unfoldable pub leave_process : Value → Step H Unit
  leave_process p = do
    c ← get_active
    old ← scheduled_process
    store_field m old 1 c
    s ← scheduler
    store_field m s 1 p
    nil ← of_page m NilObject
    let_wait nil

  -- the context of p becomes the active one
  unfoldable pub enter_process : Value → Step H Unit
  enter_process p = fetch_field m p 1 >>= switch m

  -- the machine switches to p
  unfoldable pub switch_to_process : Value → Step H Unit
  switch_to_process p = leave_process p >> enter_process p

  -- primitives

  -- an object of kind Pointers with n fields or more
  unfoldable pub check_fields : Value → ℕ → Step H Unit
  check_fields v n = do
    count ← count_fields m v
    check dead.Field (nat_le n count)

  unfoldable pub signal_and_answer : Value → Step H Value
  signal_and_answer r = signal r >> answer r

  -- 85: r is signalled
  unfoldable pub primitive_signal : Step H Bool
  primitive_signal = of_receiver m (λ r. check_fields r 3) (λ r u. signal_and_answer r)

  unfoldable pub excess_of : Value → Step H ℤ
  excess_of r = check_fields r 3 >> fetch_integer m r 2

  unfoldable pub wait_in : Value → Step H Unit
  wait_in r = do
    p ← active_process
    add_last p r
    suspend

  -- a signal in excess is taken, or where there is none, the active process waits
  unfoldable pub take_excess : Value → ℤ → Step H Unit
  take_excess r (pos (suc n)) = store_field m r 2 (Small n)
  take_excess r excess = wait_in r

  unfoldable pub wait_and_answer : Value → ℤ → Step H Value
  wait_and_answer r n = take_excess r n >> answer r

  -- 86: the active process waits for a signal of r
  unfoldable pub primitive_wait : Step H Bool
  primitive_wait = of_receiver m excess_of wait_and_answer

  unfoldable pub resume_and_answer : Value → Step H Value
  resume_and_answer r = resume r >> answer r

  -- 87: r is resumed
  unfoldable pub primitive_resume : Step H Bool
  primitive_resume = of_receiver m (λ r. check_fields r 4) (λ r u. resume_and_answer r)

  unfoldable pub check_active : Value → Step H Unit
  check_active r = do
    p ← active_process
    check dead.Kind (same_value r p)

  unfoldable pub suspend_and_answer : Step H Value
  suspend_and_answer = suspend >> of_page m NilObject

  -- 88: r, which is active, is suspended
  unfoldable pub primitive_suspend : Step H Bool
  primitive_suspend = of_receiver m check_active (λ r u. suspend_and_answer)

  -- the primitives of this file
  unfoldable pub processes : ProcessPrimitive → Step H Bool
  processes named.Signal = primitive_signal
  processes named.Wait = primitive_wait
  processes named.Resume = primitive_resume
  processes named.Suspend = primitive_suspend

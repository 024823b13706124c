-- Cycles and runs as functions: what is pending, a process that waits, a bytecode, the test for space, reclaiming, and the
-- warning that space is low (chapters 28, 29 and 30).
use Rattle.std.specs.Prelude.{ℕ, zero, suc, Option, Some, None, Bool, true, false, ◌&&◌, ◌||◌, length, nat_lt, if◌then◌else◌}
use Rattle.st_model.specs.declared.demand.Demand.{Demand}
use Rattle.st_model.specs.Outcomes.{Outcome, Ending, With, Space}
use Rattle.st_model.specs.Outcomes as outcome
use Rattle.st_model.specs.declared.device.Device.TheVariants.{NewProcess, LowSpace}
use Rattle.st_model.specs.Values.{Value, Ref}
use Rattle.st_model.specs.Objects.{NilObject}
pub use Rattle.st_model.specs.Machine.{less, capacity_of, free_space}
use Rattle.st_model.specs.Machine.{ObjectMemory, World, State, Transition, Died, Went, Step, used, is_over, answer, ◌>>=◌, ◌>>◌}
use Rattle.st_model.specs.Surroundings.{TakeSignal}
use Rattle.st_model.specs.Steps.{of_page, same_value, get_device, newest_signal, count_signals, change_world}
use Rattle.st_model.specs.Processes.{signal, switch_to_process}
use Rattle.st_model.specs.Events.{is_held, signalled_once}
use Rattle.st_model.specs.Bytecodes.{step}
use Rattle.st_model.specs.Settled.{reclaim}

-- fewer entries or words are free than asked for
abbrev pub is_low : Demand → World → Bool
is_low free w = nat_lt free.entries w.low_entries || nat_lt free.words w.low_words

abbrev pub warned_if_low : Value → Demand → World → World
warned_if_low nil free w =
    if is_held nil w.devices.low_space && (is_low free w && nat_lt (length w.devices.pending) 4096) then signalled_once nil LowSpace w else w

-- f goes on where a cycle went
abbrev pub and_on : {S : Type 0} → Transition S Ending → (S → Transition S Ending) → Transition S Ending
and_on (Died cause) f = Died cause
and_on (Went (With outcome.Went) s) f = f s
and_on (Went (With outcome.Snapshot) s) f = Went (With outcome.Snapshot) s
and_on (Went (With outcome.Quit) s) f = Went (With outcome.Quit) s
and_on (Went (With outcome.Debugger) s) f = Went (With outcome.Debugger) s
and_on (Went (With (outcome.Say v)) s) f = Went (With (outcome.Say v)) s
and_on (Went (Space demand left) s) f = Went (Space demand left) s

-- n of these cycles, or up to the first that doesn't go on
unfoldable pub run_of : {S : Type 0} → (S → Transition S Ending) → ℕ → S → Transition S Ending
run_of one zero s = Went (With outcome.Went) s
run_of one (suc n) s = and_on (one s) (λ t. run_of one n t)

-- A cycle that ends in a death or for want of space isn't finished; all others are.
abbrev pub counted : {S : Type 0} → Transition S Ending → (S → ℕ) → ℕ
counted (Died cause) f = 0
counted (Went (With outcome.Went) s) f = suc (f s)
counted (Went (With outcome.Snapshot) s) f = 1
counted (Went (With outcome.Quit) s) f = 1
counted (Went (With outcome.Debugger) s) f = 1
counted (Went (With (outcome.Say v)) s) f = 1
counted (Went (Space demand left) s) f = 0

-- of n of these cycles, those that are finished
unfoldable pub finished_of : {S : Type 0} → (S → Transition S Ending) → ℕ → S → ℕ
finished_of one zero s = 0
finished_of one (suc n) s = counted (one s) (λ t. finished_of one n t)

module _ {H : Type 0} (m : ObjectMemory H) where
  unfoldable pub signal_if_any : Option Value → Step H Unit
  signal_if_any None = answer tt
  signal_if_any (Some s) = change_world m TakeSignal >> signal m s

  -- the newest pending signal is made
  unfoldable pub signal_next : Step H Unit
  signal_next = newest_signal >>= signal_if_any

  -- so many pending signals are made, the newest first
  unfoldable pub signal_newest : ℕ → Step H Unit
  signal_newest zero = answer tt
  signal_newest (suc n) = signal_next >> signal_newest n

  unfoldable pub switch_unless_nil : Value → Bool → Step H Unit
  switch_unless_nil p true = answer tt
  switch_unless_nil p false = switch_to_process m p

  -- where a new process waits, the machine switches to it
  unfoldable pub switch_if_waiting : Step H Unit
  switch_if_waiting = do
    p ← get_device NewProcess
    nil ← of_page m NilObject
    switch_unless_nil p (same_value p nil)

  -- what comes before each bytecode: all pending signals are made, and then a process switch, where one waits
  unfoldable pub check_process_switch : Step H Unit
  check_process_switch = do
    n ← count_signals
    signal_newest n
    switch_if_waiting

  -- where space is low, the low-space semaphore's signal is added once, and the semaphore is let go
  abbrev pub warned : State H → State H
  warned s = record s { world = warned_if_low (Ref (m.named s.memory NilObject)) (free_space m s) s.world }

  -- what a step makes that goes from s to t: it drops nothing
  abbrev pub made_between : State H → State H → Demand
  made_between s t = less (used m t.memory) (used m s.memory)

  -- where the capacities have no room for what the step makes, it isn't done
  abbrev pub done_or_not : State H → Outcome → State H → Bool → Transition (State H) Ending
  done_or_not s o t true = Went (Space (made_between s t) (free_space m s)) s
  done_or_not s o t false = Went (With o) (warned (reclaim m t))

  -- What a cycle makes of a step from s. A death comes first, then the want of space.
  abbrev pub ended : State H → Transition (State H) Outcome → Transition (State H) Ending
  ended s (Died cause) = Died cause
  ended s (Went o t) = done_or_not s o t (is_over (used m t.memory) s.head)

  -- what came before the bytecode stands, however the cycle ends that doesn't die
  abbrev pub cycle_from : Transition (State H) Unit → Transition (State H) Ending
  cycle_from (Died cause) = Died cause
  cycle_from (Went u s) = ended s ((step m).run s)

  unfoldable pub cycle : State H → Transition (State H) Ending
  cycle s = cycle_from ((check_process_switch).run s)

  unfoldable pub run : ℕ → State H → Transition (State H) Ending
  run n s = run_of cycle n s

  unfoldable pub finished : ℕ → State H → ℕ
  finished n s = finished_of cycle n s

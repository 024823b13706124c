-- What a run of the code stands for.
use Rattle.std.specs.Prelude.{◌≡◌, ℕ, ◌+◌, ◌≤◌, Result, Ok, Err, Option, Some, None, ⊤}
use Rattle.st_model.specs.declared.dead.Dead.{Dead}
use Rattle.st_model.specs.declared.outcome.Outcome.TheVariants as code_outcome
use Rattle.st_model.specs.Values.{value}
use Rattle.st_model.specs.Outcomes.{Ending, With, Space, outcome_of}
use Rattle.st_model.specs.Outcomes as outcome
use Rattle.st_model.specs.Machine.{State, Transition, Died, Went}
use Rattle.st_model.specs.Births.{Births, births}
use Rattle.st_model.specs.Table.{Table}
use Rattle.st_model.specs.Show.{Shows}
use Rattle.st_model.specs.Cycles.{run, finished}
use Rattle.st_model.specs.inside.Foreseen.{EndsShown}
use Rattle.st_machine.specs.declared.cycling.CycleEnd.{CycleEnd}
use Rattle.st_machine.specs.declared.cycling.CycleEnd.TheVariants as cycle_end
use Rattle.st_machine.specs.declared.ending.RunEnd.{RunEnd}
use Rattle.st_machine.specs.declared.ending.RunEnd.TheVariants as run_ends

-- the ending that the end of a cycle stands for
abbrev pub ending_of : CycleEnd → Ending
ending_of (cycle_end.With o) = With (outcome_of o)
ending_of (cycle_end.Space demand left) = Space demand left

-- The end of a run after a cycle that ended so, where the run doesn't go on. The cycles before it are counted, and a cycle
-- that asks for something besides counts too.
abbrev pub run_end : Result CycleEnd Dead → ℕ → Option RunEnd
run_end (Ok (cycle_end.With code_outcome.Went)) done = None
run_end (Ok (cycle_end.With code_outcome.Snapshot)) done = Some (run_ends.Snapshot (done + 1))
run_end (Ok (cycle_end.With (code_outcome.Say o))) done = Some (run_ends.Say (done + 1) o)
run_end (Ok (cycle_end.With code_outcome.Quit)) done = Some (run_ends.Quit (done + 1))
run_end (Ok (cycle_end.With code_outcome.Debugger)) done = Some (run_ends.Debugger (done + 1))
run_end (Ok (cycle_end.Space demand left)) done = Some (run_ends.Space done demand left.entries left.words)
run_end (Err cause) done = Some (run_ends.Dead done cause)

-- the transition that a run's end stands for, with the state that is shown then
abbrev pub transition_at : RunEnd → State Table → Transition (State Table) Ending
transition_at run_ends.Ran c = Went (With outcome.Went) c
transition_at (run_ends.Space done demand entries words) c = Went (Space demand (record { entries = entries; words = words })) c
transition_at (run_ends.Snapshot done) c = Went (With outcome.Snapshot) c
transition_at (run_ends.Say done o) c = Went (With (outcome.Say (value o))) c
transition_at (run_ends.Quit done) c = Went (With outcome.Quit) c
transition_at (run_ends.Debugger done) c = Went (With outcome.Debugger) c
transition_at (run_ends.Dead done cause) c = Died cause

-- of n cycles, those that the end says are finished
abbrev pub cycles_of : ℕ → RunEnd → ℕ
cycles_of n run_ends.Ran = n
cycles_of n (run_ends.Space done demand entries words) = done
cycles_of n (run_ends.Snapshot done) = done
cycles_of n (run_ends.Say done o) = done
cycles_of n (run_ends.Quit done) = done
cycles_of n (run_ends.Debugger done) = done
cycles_of n (run_ends.Dead done cause) = done

-- the last of the finished cycles asked for something besides
abbrev pub Asks : RunEnd → Type 0
Asks run_ends.Ran = ⊥
Asks (run_ends.Space done demand entries words) = ⊥
Asks (run_ends.Snapshot done) = ⊤
Asks (run_ends.Say done o) = ⊤
Asks (run_ends.Quit done) = ⊤
Asks (run_ends.Debugger done) = ⊤
Asks (run_ends.Dead done cause) = ⊥

-- a run of n cycles finishes no more of them, and at least the one that asks for something
pub record CountsCycles (n : ℕ) (e : RunEnd) : Type 0 where
  pub most : cycles_of n e ≤ n
  pub least : Asks e → 1 ≤ cycles_of n e

-- the cause of which the machine is dead after a run
abbrev pub death_of : RunEnd → Option Dead
death_of run_ends.Ran = None
death_of (run_ends.Space done demand entries words) = None
death_of (run_ends.Snapshot done) = None
death_of (run_ends.Say done o) = None
death_of (run_ends.Quit done) = None
death_of (run_ends.Debugger done) = None
death_of (run_ends.Dead done cause) = Some cause

-- n cycles of the book's machine from s end so, with as many finished
pub record EndsAs (n : ℕ) (s : State Births) (e : RunEnd) (c : State Table) : Type 0 where
  pub ends : EndsShown (transition_at e c) (run births n s)
  pub count : finished births n s ≡ cycles_of n e

-- so they end from each state over births that is shown first
abbrev pub EndsFrom : ℕ → State Table → RunEnd → State Table → Type 0
EndsFrom n first e last = (s : State Births) → Shows first s → EndsAs n s e last

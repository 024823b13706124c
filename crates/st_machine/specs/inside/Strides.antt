-- Cycles of the book's machine after which it goes on, and the one that follows.
use Rattle.std.specs.Prelude.{◌≡◌, ℕ, Result, Ok, Err, Option, Some, None}
use Rattle.st_model.specs.declared.dead.Dead.{Dead}
use Rattle.st_model.specs.declared.deed.Deed.{Deed}
use Rattle.st_model.specs.Outcomes.{Ending, With}
use Rattle.st_model.specs.Outcomes as outcome
use Rattle.st_model.specs.Machine.{State, Transition, Died, Went}
use Rattle.st_model.specs.Births.{Births, births}
use Rattle.st_model.specs.Table.{Table}
use Rattle.st_model.specs.Show.{Shows}
use Rattle.st_model.specs.inside.Calls.{transition_of}
use Rattle.st_model.specs.Cycles.{cycle, run}
use Rattle.st_model.specs.inside.Foreseen.{EndsShown}
use Rattle.st_machine.specs.declared.stretch.Stretch.{Stretch}
use Rattle.st_machine.specs.declared.doing.StretchEnd.{StretchEnd}
use Rattle.st_machine.specs.declared.stride.Stride.{Stride}
use Rattle.st_machine.specs.inside.Cycling.{foreseen_step, GoesCalmly}
use Rattle.st_machine.specs.inside.Runs.{ending_of}

-- k cycles from s go on, and what they leave is shown
pub record SoFar (k : ℕ) (s : State Births) (c : State Table) : Type 0 where
  pub state : State Births
  pub ran : run births k s ≡ Went (With outcome.Went) state
  pub shows : Shows c state

-- k cycles from s go on, and the next one ends so
pub record NextEnds (k : ℕ) (s : State Births) (o : Transition (State Table) Ending) : Type 0 where
  pub state : State Births
  pub ran : run births k s ≡ Went (With outcome.Went) state
  pub ends : EndsShown o (cycle births state)

-- K cycles from s go on to a state. The next one ends as that from its bytecode on does, of which this was done.
pub record LastGoes (k : ℕ) (s : State Births) (left : Deed) (x : Result (Option StretchEnd) Dead) (c : State Table) : Type 0 where
  pub from : State Table
  pub ends : (o : Transition (State Table) Ending) → foreseen_step from ≡ o → NextEnds k s o
  pub goes : GoesCalmly from left x c

-- a stretch of k cycles from s goes on, or was ended by the next one
abbrev pub StretchEnds : ℕ → State Births → Deed → Result (Option StretchEnd) Dead → State Table → Type 0
StretchEnds k s left (Ok None) c = SoFar k s c
StretchEnds k s left (Ok (Some end)) c = LastGoes k s left (Ok (Some end)) c
StretchEnds k s left (Err cause) c = LastGoes k s left (Err cause) c

-- so a stretch goes from each state over births that is shown first
abbrev pub GoesOn : State Table → Stretch → State Table → Type 0
GoesOn first t last = (s : State Births) → Shows first s → StretchEnds t.done s t.left t.end last

-- so a stride goes from each state over births that is shown first, and its last cycle ends
abbrev pub Strides : State Table → Stride → State Table → Type 0
Strides first t last = (s : State Births) → Shows first s → NextEnds t.before s (transition_of ending_of t.end last)

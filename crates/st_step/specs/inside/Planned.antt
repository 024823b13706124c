-- What a plan of the next bytecode says, and how a step of it ends.
use Rattle.std.specs.Prelude.{◌≡◌, ◌+◌, Result, Ok, Err}
use Rattle.st_model.specs.declared.dead.Dead.{Dead}
use Rattle.st_model.specs.declared.demand.Demand.{Demand}
use Rattle.st_model.specs.declared.outcome.Outcome.{Outcome as CodeOutcome}
use Rattle.st_model.specs.Values.{Value}
use Rattle.st_model.specs.Outcomes.{Outcome, outcome_of}
use Rattle.st_model.specs.Outcomes as outcome
use Rattle.st_model.specs.Machine.{ObjectMemory, World, State, Transition, Died, Went, used}
use Rattle.st_model.specs.Steps.{top}
use Rattle.st_model.specs.Births.{Births, births}
use Rattle.st_model.specs.Table.{Table, apart, bounded_table}
use Rattle.st_model.specs.Show.{Shows}
use Rattle.st_model.specs.View.{View}
use Rattle.st_frames.specs.declared.frame.Frame.{Frame}
use Rattle.st_frames.specs.declared.registers.Registers.{Registers as Words}
use Rattle.st_frames.specs.declared.ending.RowEnd.{RowEnd}
use Rattle.st_frames.specs.inside.Rows.{outcome_in}
use Rattle.st_frames.specs.inside.Shown.{shown}
use Rattle.st_model.specs.Bytecodes.{step}

abbrev pub plus : Demand → Demand → Demand
plus d e = record { entries = d.entries + e.entries; words = d.words + e.words }

-- The step dies of the cause that the plan says; or it goes on, and uses so much more than what was used before.
abbrev pub PlansOver : {H : Type 0} → ObjectMemory H → Demand → Transition (State H) Outcome → Result Demand Dead → Type 0
PlansOver m before (Died a) (Err b) = a ≡ b
PlansOver m before (Died a) (Ok d) = ⊥
PlansOver m before (Went o c) (Err b) = ⊥
PlansOver m before (Went o c) (Ok d) = used m c.memory ≡ plus before d

abbrev pub Plans : Demand → Transition (State Table) Outcome → Result Demand Dead → Type 0
Plans before x result = PlansOver apart before x result

-- so the plan says of the book's step, over all births that the state shows
abbrev pub PlansBirths : State Table → Result Demand Dead → Type 0
PlansBirths c result = (s : State Births) → Shows c s → PlansOver births (used births s.memory) ((step births).run s) result

-- a step of the next bytecode ended so, over this memory and frame, whose row left these registers
abbrev pub HasEnded : View → Frame → Words → RowEnd → Type 0
HasEnded v f q end = (w : World) × (s : State Table) × ((step bounded_table).run s ≡ Went (outcome_in q end) (shown v f w))

-- there is a word at the top of the stack
abbrev pub HasTop : View → Frame → Type 0
HasTop v f = (w : World) × (x : Value) × ((top bounded_table).run (shown v f w) ≡ Went x (shown v f w))

-- the outcome names the word at the top of the stack, where there is one
abbrev pub TopSaid : View → Frame → CodeOutcome → Type 0
TopSaid v f o = (w : World) (x : Value) → (top bounded_table).run (shown v f w) ≡ Went x (shown v f w)
    → outcome_of o ≡ outcome.Say x

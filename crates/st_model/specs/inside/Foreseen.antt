-- The cycle of a running machine over a table: the step is foreseen over a table where new objects stand apart, and is
-- done where the capacities have room for what it makes. And what that has to do with births.
use Rattle.std.specs.Prelude.{◌≡◌, length, Option, Some, None, Bool, true, false}
use Rattle.st_model.specs.Outcomes.{Outcome, Ending, With, Space, renamed_outcome, renamed_ending, IsLiveOutcome, IsLiveEnding}
use Rattle.st_model.specs.Outcomes as outcome
use Rattle.st_model.specs.Values.{Value}
use Rattle.st_model.specs.Machine.{ObjectMemory, State, Transition, Died, Went, Step, used, is_over}
use Rattle.st_model.specs.Steps.{top}
use Rattle.st_model.specs.Births.{Births, births, pointer_of}
use Rattle.st_model.specs.Table.{Table, table, apart, bounded_table}
use Rattle.st_model.specs.Bytecodes.{step}
use Rattle.st_model.specs.Settled.{reclaim}
use Rattle.st_model.specs.Show.{Shows, IsClosed, IsUsed, IsKept}
use Rattle.st_model.specs.Cycles.{check_process_switch, warned, made_between, free_space}

-- what a cycle makes of the step that is done; one that was foreseen doesn't die
abbrev pub done : State Table → Transition (State Table) Outcome → Transition (State Table) Ending
done c (Died cause) = Died cause
done c (Went o d) = Went (With o) (warned table (reclaim table d))

abbrev pub done_if_room : State Table → State Table → Bool → Transition (State Table) Ending
done_if_room c d true = Went (Space (made_between apart c d) (free_space table c)) c
done_if_room c d false = done c ((step bounded_table).run c)

abbrev pub foreseen : State Table → Transition (State Table) Outcome → Transition (State Table) Ending
foreseen c (Died cause) = Died cause
foreseen c (Went o d) = done_if_room c d (is_over (used apart d.memory) c.head)

-- what comes before a bytecode makes nothing, and is done at once
abbrev pub foreseen_from : Transition (State Table) Unit → Transition (State Table) Ending
foreseen_from (Died cause) = Died cause
foreseen_from (Went u c) = foreseen c ((step apart).run c)

unfoldable pub foreseen_cycle : State Table → Transition (State Table) Ending
foreseen_cycle c = foreseen_from ((check_process_switch bounded_table).run c)

-- a memory of 32768 places in which nothing dangles
pub record IsSound (c : State Table) : Type 0 where
  pub places : length c.memory ≡ 32768
  pub closed : IsClosed c

-- both died of one cause, or both ended alike, the table shows the births, and what the ending names is kept
abbrev pub EndsShown : Transition (State Table) Ending → Transition (State Births) Ending → Type 0
EndsShown (Died a) (Died b) = a ≡ b
EndsShown (Died a) (Went b s) = ⊥
EndsShown (Went a c) (Died b) = ⊥
EndsShown (Went a c) (Went b s) = (a ≡ renamed_ending (pointer_of s.memory) b) × Shows c s × IsLiveEnding (IsKept s.memory) b

-- both died of one cause, or both went and the table shows the births
abbrev pub ShownAgain : Transition (State Table) Unit → Transition (State Births) Unit → Type 0
ShownAgain (Died a) (Died b) = a ≡ b
ShownAgain (Died a) (Went x s) = ⊥
ShownAgain (Went x c) (Died b) = ⊥
ShownAgain (Went x c) (Went y s) = Shows c s × IsClosed c

-- A step that is foreseen from c dies of the cause of which the births die from s; or both go on, with as many entries and
-- words used.
abbrev pub Foretells : Transition (State Table) Outcome → Transition (State Births) Outcome → Type 0
Foretells (Died a) (Died b) = a ≡ b
Foretells (Died a) (Went p u) = ⊥
Foretells (Went o d) (Died b) = ⊥
Foretells (Went o d) (Went p u) = used apart d.memory ≡ used births u.memory

-- What the births do from s, and have room for, the bounded table does from c. Where nothing dangles, what both keep is
-- shown, the outcome is the same, and what it names is kept.
pub record DoesAsBirths (c : State Table) (o : Outcome) (u : State Births) : Type 0 where
  pub outcome : Outcome
  pub state : State Table
  pub does : (step bounded_table).run c ≡ Went outcome state
  pub shows : IsClosed (reclaim table state) → IsLiveOutcome (IsUsed (reclaim table state).memory) outcome
      → (outcome ≡ renamed_outcome (pointer_of (reclaim births u).memory) o) × Shows (reclaim table state) (reclaim births u)
      × IsLiveOutcome (IsKept (reclaim births u).memory) o

-- what a bytecode's outcome names is the word at the top of the stack that it leaves, so that reclaiming keeps it
abbrev pub NamesTop : {H : Type 0} → ObjectMemory H → Step H Outcome → Type 0
NamesTop {H = H} m step = (s t : State H) (v : Value) → step.run s ≡ Went (outcome.Say v) t → (top m).run t ≡ Went v t

-- what the births' step makes fits, and then the bounded table does the same
abbrev pub DoesWithin : State Table → State Births → Type 0
DoesWithin c s = (o : Outcome) (u : State Births) → (step births).run s ≡ Went o u → is_over (used births u.memory) s.head ≡ false → DoesAsBirths c o u

-- a step that goes on leaves a closed table closed
abbrev pub KeepsClosed : {A : Type 0} → Step Table A → Type 0
KeepsClosed {A = A} m = (c d : State Table) (a : A) → IsClosed c → m.run c ≡ Went a d → IsClosed d

-- both took an event, and the table shows the births; or neither did
abbrev pub ShownIfTaken : Option (State Table) → Option (State Births) → Type 0
ShownIfTaken None None = Unit {0}
ShownIfTaken None (Some s) = ⊥
ShownIfTaken (Some c) None = ⊥
ShownIfTaken (Some c) (Some s) = Shows c s

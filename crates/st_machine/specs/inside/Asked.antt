-- What events and saving come to, from each state over births that is shown first.
use Rattle.std.specs.Prelude.{◌≡◌, Result, Ok, Err, Option, Some, None}
use Rattle.st_model.specs.declared.dead.Dead.{Dead}
use Rattle.st_model.specs.declared.event.Event.{Event}
use Rattle.st_model.specs.declared.event.InputFull.{InputFull}
use Rattle.st_model.specs.Machine.{State, Transition, Died, Went}
use Rattle.st_model.specs.Births.{Births, births}
use Rattle.st_model.specs.Table.{Table}
use Rattle.st_model.specs.Show.{Shows}
use Rattle.st_model.specs.Events.{event}
use Rattle.st_model.specs.Saving.{save}

-- the event was taken by both, and what it makes of the births is shown; or by neither
abbrev pub TakenAs : Result Unit InputFull → State Table → Option (State Births) → Type 0
TakenAs (Ok u) c None = ⊥
TakenAs (Ok u) c (Some s) = Shows c s
TakenAs (Err full) c None = Unit {0}
TakenAs (Err full) c (Some s) = ⊥

abbrev pub ComesFrom : Event → State Table → Result Unit InputFull → State Table → Type 0
ComesFrom e first result last = (s : State Births) → Shows first s → TakenAs result last (event births e s)

-- both died of one cause, or what the births are saved as is shown
abbrev pub SavedAs : Result Unit Dead → State Table → Transition (State Births) Unit → Type 0
SavedAs (Ok u) c (Died k) = ⊥
SavedAs (Ok u) c (Went x s) = Shows c s
SavedAs (Err cause) c (Died k) = k ≡ cause
SavedAs (Err cause) c (Went x s) = ⊥

abbrev pub SavesFrom : State Table → Result Unit Dead → State Table → Type 0
SavesFrom first result last = (s : State Births) → Shows first s → SavedAs result last (save births s)

-- the cause of which a machine is dead after saving
abbrev pub death_by : Result Unit Dead → Option Dead
death_by (Ok u) = None
death_by (Err cause) = Some cause

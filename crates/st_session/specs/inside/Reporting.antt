-- What a call does that says the text of a run of which nothing is kept.
use Rattle.std.specs.Prelude.{ℕ, List, Result, OnOk}
use Rattle.st_host.specs.Counts.{HasCause}
use Rattle.st_host.specs.Runs.{SaysAll}
use Rattle.st_host.specs.inside.Telling.{Says}
use Rattle.st_host.specs.declared.host.Host.{Ghosts}
use Rattle.st_host.specs.declared.host.SayFault.{SayFault}
use Rattle.st_model.specs.Machine.{State}
use Rattle.st_model.specs.Births.{Births}
use Rattle.st_model.specs.Table.{Table}
use Rattle.st_model.specs.Show.{Shows}

-- What a call does that says this text of what a machine shows at first: where it ends well all of it is said, else a part, for a fault
-- of the output.
pub record Reports {D : Type 0} (host : Ghosts D) (text : State Births → List ℕ) (first : State Table) (old new : D) (result : Result Unit SayFault) : Type 0 where
  pub all : (s : State Births) → Shows first s → OnOk result (SaysAll host (text s) old new)
  pub says : (s : State Births) → Shows first s → Says host (text s) old new
  pub cause : HasCause (host.say_faults old) (host.say_faults new) result

-- A call that says a text, and answers the session's status where that fails.
use Rattle.std.specs.Prelude.{◌≡◌, ℕ, List, Result, OnOk, Ok, Err, IfErr, ⊤}
use Rattle.st_host.specs.Runs.{SaysAll}
use Rattle.st_host.specs.inside.Telling.{Says}
use Rattle.st_host.specs.declared.host.Host.{Ghosts}
use Rattle.st_protocol.specs.declared.status.Status.{Status}
use Rattle.st_protocol.specs.declared.status.Status.TheVariants.{Done, Usage, Image, Script, ReadFault, SayFault, DiskFault, Store, Kernel, TooLarge, OutOfMemory}
use Rattle.st_protocol.specs.Statuses.{Counts}

-- the statuses in which the following of a script can end, over any machine
abbrev pub IsOfServing : Status → Type 0
IsOfServing Done = ⊤
IsOfServing Usage = ⊥
IsOfServing (Image f) = ⊥
IsOfServing (Script line) = ⊤
IsOfServing ReadFault = ⊤
IsOfServing SayFault = ⊤
IsOfServing DiskFault = ⊤
IsOfServing (Store fault) = ⊥
IsOfServing (Kernel chunk cause) = ⊥
IsOfServing TooLarge = ⊤
IsOfServing OutOfMemory = ⊤

-- a call that only says fails by a fault in saying
abbrev pub IsSayFault : Result Unit Status → Type 0
IsSayFault (Ok u) = Unit {0}
IsSayFault (Err status) = status ≡ SayFault

pub record Tells {D : Type 0} (host : Ghosts D) (text : List ℕ) (old new : D) (result : Result Unit Status) : Type 0 where
  pub all : OnOk result (SaysAll host text old new)
  pub says : Says host text old new
  pub fault : IsSayFault result
  pub counts : Counts host ⊥ old new result
  pub served : IfErr result IsOfServing

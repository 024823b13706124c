-- The statuses of calls.
use Rattle.std.specs.Prelude.{ℕ, ◌≤◌, ⊤, Result, Ok, Err}
use Rattle.st_host.specs.Counts.{Rose}
use Rattle.st_host.specs.declared.host.Host.{Ghosts}
use Rattle.st_protocol.specs.declared.status.Status.{Status}
use Rattle.st_protocol.specs.declared.status.Status.TheVariants.{Done, Usage, Image, Script, ReadFault, SayFault, DiskFault, Store, Kernel, TooLarge, OutOfMemory}

-- the exit status
abbrev pub number_of : Status → ℕ
number_of Done = 0
number_of Usage = 1
number_of (Image f) = 2
number_of (Script line) = 3
number_of ReadFault = 4
number_of SayFault = 5
number_of DiskFault = 6
number_of (Store f) = 7
number_of (Kernel chunk cause) = 8
number_of TooLarge = 9
number_of OutOfMemory = 10

-- these come from outside, whatever was asked for
abbrev pub IsFault : Status → Type 0
IsFault ReadFault = ⊤
IsFault SayFault = ⊤
IsFault DiskFault = ⊤
IsFault OutOfMemory = ⊤
IsFault _ = ⊥

module _ {D : Type 0} (host : Ghosts D) where
  -- A fault comes only where its count rose, or stands at the last value that it has. One of the source has its cause in
  -- `reads`. Want of memory may come always.
  abbrev pub StatusHasCause : Type 0 → D → D → Status → Type 0
  StatusHasCause reads old new ReadFault = reads
  StatusHasCause reads old new SayFault = Rose (host.say_faults old) (host.say_faults new)
  StatusHasCause reads old new DiskFault = Rose (host.disk_faults old) (host.disk_faults new)
  StatusHasCause reads old new _ = ⊤

  abbrev pub EndHasCause : Type 0 → D → D → Result Unit Status → Type 0
  EndHasCause reads old new (Ok u) = ⊤
  EndHasCause reads old new (Err status) = StatusHasCause reads old new status

  -- the counts don't fall, and a fault has its cause
  pub record Counts (reads : Type 0) (old new : D) (result : Result Unit Status) : Type 0 where
    pub disk : host.disk_faults old ≤ host.disk_faults new
    pub say : host.say_faults old ≤ host.say_faults new
    pub cause : EndHasCause reads old new result

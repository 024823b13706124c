-- How a condensed changes file is written.
use Rattle.std.specs.Prelude.{ℕ, ◌≤◌, List, Result, OnOk, IsErrOf}
use Rattle.st_host.specs.Counts.{Rose}
use Rattle.st_host.specs.inside.Pieces.{Held, Adds, WritesFrom}
use Rattle.st_host.specs.declared.host.Host.{Ghosts}
use Rattle.st_host.specs.declared.file_fault.FileFault.{FileFault}
use Rattle.st_host.specs.declared.file_fault.FileFault.TheVariants.{Disk}

-- The count doesn't fall, and a disk fault comes only where it rose.
pub record CondenseHasCause {T : Type 0} (before now : ℕ) (result : Result T FileFault) : Type 0 where
  pub later : before ≤ now
  pub rose : IsErrOf result Disk → Rose before now

-- A run of calls that adds bytes to a file, or fails, perhaps for want of memory.
pub record Extends {D T : Type 0} (host : Ghosts D) (name bytes : List ℕ) (old new : D) (p q : Held) (result : Result T FileFault) : Type 0 where
  pub adds : OnOk result (Adds host name bytes old new p q)
  pub writes : WritesFrom host p name old new
  pub cause : CondenseHasCause (host.disk_faults old) (host.disk_faults new) result

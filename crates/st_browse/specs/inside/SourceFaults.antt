-- Where a method's text isn't said.
use Rattle.std.specs.Prelude.{◌≤◌, ℕ, Bool, Result, Ok, Err, ⊤}
use Rattle.st_host.specs.Counts.{Rose}
use Rattle.st_browse.specs.declared.saying.SourceFault.{SourceFault}
use Rattle.st_browse.specs.declared.saying.SourceFault.TheVariants.{Disk, Say, OutOfMemory}

-- the output failed where the count of its faults rose; no file is read, so the disk doesn't fail
abbrev pub IsCaused : (before now : ℕ) → Result Bool SourceFault → Type 0
IsCaused before now (Ok b) = ⊤
IsCaused before now (Err Disk) = ⊥
IsCaused before now (Err Say) = Rose before now
IsCaused before now (Err OutOfMemory) = ⊤

pub record HasSourceCause (before now : ℕ) (result : Result Bool SourceFault) : Type 0 where
  pub later : before ≤ now
  pub caused : IsCaused before now result

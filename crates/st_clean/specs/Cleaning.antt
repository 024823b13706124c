-- What is written of a memory that is cleaned.
use Rattle.std.specs.Prelude.{◌≡◌, ◌≤◌, ℕ, Bool, List, Option, Some, Result, Ok, Err, ⊤}
use Rattle.st_host.specs.Counts.{Rose}
use Rattle.st_model.specs.declared.demand.Demand.{Demand}
use Rattle.st_model.specs.Machine.{Head}
use Rattle.st_model.specs.Objects.{one, words_of}
use Rattle.st_model.specs.Table.{Table, settled_table, total_used}
use Rattle.st_writer.specs.Written.{image_of}
use Rattle.st_host.specs.declared.file_fault.FileFault.{FileFault}
use Rattle.st_host.specs.declared.file_fault.FileFault.TheVariants.{Disk, OutOfMemory}
use Rattle.st_clean.specs.Filling.{only}
use Rattle.st_clean.specs.Reach.{IsReach}

-- the image of the objects of a set
abbrev pub image_only : Table → Head → (ℕ → Bool) → List ℕ
image_only t h set = image_of (only t h set)

-- The image of what is reached, under the same pointers, and how many objects and words it has.
pub record IsCleaned (t : Table) (h : Head) (image : List ℕ) (d : Demand) : Type 0 where
  pub set : ℕ → Bool
  pub reach : IsReach t h set
  pub is : image ≡ image_only t h set
  pub entries : d.entries ≡ total_used one (settled_table t set)
  pub words : d.words ≡ total_used words_of (settled_table t set)

-- So many objects and words were cleaned, and where the host tells its files this one has just that image.
pub record HasWritten (t : Table) (h : Head) (told : Type 0) (file : Option (List ℕ)) (d : Demand) : Type 0 where
  pub image : List ℕ
  pub cleaned : IsCleaned t h image d
  pub written : told → file ≡ Some image

-- the count of faults doesn't fall, and a fault of the disk comes only where it rose
pub record CleanHasCause (before now : ℕ) (result : Result Demand FileFault) : Type 0 where
  pub later : before ≤ now
  pub rose : result ≡ Err Disk → Rose before now

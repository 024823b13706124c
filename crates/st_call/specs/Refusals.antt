-- Why a file, an image or a store isn't there for a call, and the status in which the call ends then.
use Rattle.std.specs.Prelude.{ℕ, ◌<◌, ◌≤◌, List, length, ⊤}
use Rattle.st_host.specs.Counts.{Rose}
use Rattle.st_host.specs.declared.host.Host.{Ghosts}
use Rattle.st_model.specs.declared.fault.ImageFault.{ImageFault}
use Rattle.st_model.specs.Limits.{longest_image}
use Rattle.st_model.specs.Faults.{IsWellFormed, IsImageFault}
use Rattle.st_image.specs.declared.head.HeadValues.{HeadValues}
use Rattle.st_image.specs.HeadValues.{head_over}
use Rattle.st_store.specs.declared.fault.StoreFault.{StoreFault}
use Rattle.st_store.specs.declared.fault.StoreFault.TheVariants as store
use Rattle.st_protocol.specs.declared.status.Status.{Status}
use Rattle.st_protocol.specs.declared.status.Status.TheVariants.{Image, DiskFault, Store, TooLarge, OutOfMemory}
use Rattle.st_call.specs.declared.file.FileRefusal.{FileRefusal}
use Rattle.st_call.specs.declared.file.FileRefusal.TheVariants as file
use Rattle.st_call.specs.declared.image_refusal.ImageRefusal.{ImageRefusal}
use Rattle.st_call.specs.declared.image_refusal.ImageRefusal.TheVariants as refusal

-- STATUSES

-- the status after a file wasn't read
abbrev pub file_status : FileRefusal → Status
file_status file.TooLarge = TooLarge
file_status file.DiskFault = DiskFault
file_status file.OutOfMemory = OutOfMemory

-- why an image isn't read whose file isn't
abbrev pub by_file : FileRefusal → ImageRefusal
by_file file.TooLarge = refusal.TooLarge
by_file file.DiskFault = refusal.DiskFault
by_file file.OutOfMemory = refusal.OutOfMemory

-- the status after an image wasn't read
abbrev pub status_of : ImageRefusal → Status
status_of (refusal.Image f) = Image f
status_of refusal.TooLarge = TooLarge
status_of refusal.DiskFault = DiskFault
status_of refusal.OutOfMemory = OutOfMemory

-- the status after a store wasn't made, or not opened for its files
abbrev pub store_status : StoreFault → Status
store_status store.Disk = DiskFault
store_status store.OutOfMemory = OutOfMemory
store_status fault = Store fault

-- WHAT IS SO OF THE BYTES

-- what a refusal says of the bytes of a file that may have so many
abbrev pub IsFileRefusal : ℕ → List ℕ → FileRefusal → Type 0
IsFileRefusal longest bytes file.TooLarge = longest < length bytes
IsFileRefusal longest bytes file.DiskFault = ⊤
IsFileRefusal longest bytes file.OutOfMemory = ⊤

-- what a refusal says of the image's bytes, where this says which fault they have
abbrev pub IsImageRefusal : (List ℕ → ImageFault → Type 0) → List ℕ → ImageRefusal → Type 0
IsImageRefusal faulty bytes (refusal.Image f) = faulty bytes f
IsImageRefusal faulty bytes refusal.TooLarge = longest_image < length bytes
IsImageRefusal faulty bytes refusal.DiskFault = ⊤
IsImageRefusal faulty bytes refusal.OutOfMemory = ⊤

-- An image that is read with these values in place of those of its head: it has at most 2^27 bytes, and is well-formed with them.
pub record IsReadableOver (over : HeadValues) (image : List ℕ) : Type 0 where
  pub short : length image ≤ longest_image
  pub formed : IsWellFormed (head_over over image) image

-- one that is refused for the fault that it has with them
pub record IsFaultyOver (over : HeadValues) (image : List ℕ) (f : ImageFault) : Type 0 where
  pub short : length image ≤ longest_image
  pub fault : IsImageFault (head_over over image) image f

-- CAUSES

module _ {D : Type 0} (host : Ghosts D) where
  -- a refusal for a fault comes only where its count rose in the call, or stands at the last value that it has
  abbrev pub FileHasCause : D → D → FileRefusal → Type 0
  FileHasCause old new file.TooLarge = Unit {0}
  FileHasCause old new file.DiskFault = Rose (host.disk_faults old) (host.disk_faults new)
  FileHasCause old new file.OutOfMemory = Unit {0}

  abbrev pub RefusalHasCause : D → D → ImageRefusal → Type 0
  RefusalHasCause old new (refusal.Image f) = Unit {0}
  RefusalHasCause old new refusal.TooLarge = Unit {0}
  RefusalHasCause old new refusal.DiskFault = Rose (host.disk_faults old) (host.disk_faults new)
  RefusalHasCause old new refusal.OutOfMemory = Unit {0}

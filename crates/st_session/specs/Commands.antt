-- How a call of the program ends: its status, and what it says and does.
use Rattle.std.specs.Prelude.{◌≡◌, ℕ, ◌<◌, List, length, ◌++◌, IsTrue, Option}
use Rattle.st_host.specs.Counts.{Rose}
use Rattle.st_host.specs.Stops.{SaidPart}
use Rattle.st_host.specs.declared.host.Host.{Ghosts}
use Rattle.st_model.specs.Limits.{longest_image}
use Rattle.st_model.specs.Machine.{State, Went}
use Rattle.st_model.specs.Image.{image_head}
use Rattle.st_model.specs.Births.{Births}
use Rattle.st_model.specs.Start.{begin}
use Rattle.st_model.specs.Text.{state_text}
use Rattle.st_recover.specs.Openings.{IsReadable, IsFaulty}
use Rattle.st_recover.specs.declared.fault.OpenFault.{OpenFault}
use Rattle.st_recover.specs.declared.fault.OpenFault.TheVariants as opening
use Rattle.st_session.specs.Reports.{run_text}
use Rattle.st_call.specs.LastLines.{SaysLastLine}
use Rattle.st_call.specs.Refusals.{store_status}
use Rattle.st_protocol.specs.declared.status.Status.{Status}
use Rattle.st_protocol.specs.declared.status.Status.TheVariants.{Done, Image, SayFault, DiskFault, TooLarge, OutOfMemory}

-- the status after a store wasn't opened
abbrev pub opening_status : OpenFault → Status
opening_status (opening.Store f) = store_status f
opening_status (opening.Image f) = Image f
opening_status opening.TooLarge = TooLarge
opening_status opening.Disk = DiskFault
opening_status opening.OutOfMemory = OutOfMemory

-- What is said of n cycles of an image: how the book's machine ends that begins with the image's objects as
-- births and the registers fetched over them, and what it shows then.
pub record IsReport (bytes : List ℕ) (n : ℕ) (text : List ℕ) : Type 0 where
  pub births : State Births
  pub begins : begin (image_head bytes) bytes ≡ Went tt births
  pub is : text ≡ run_text state_text n births

-- CALLS

module _ {D : Type 0} (host : Ghosts D) where
  -- How the command once ends, over the bytes of its image, in each status that it can have. An absent file
  -- is read as an empty one. These bytes are readable, or have one fault, or are too many, and never two of
  -- this.
  abbrev pub OnceEnds : List ℕ → ℕ → D → D → Status → Type 0
  OnceEnds bytes n old new Done = IsTrue host.is_told
      → (text : List ℕ) × IsReadable bytes × IsReport bytes n text × (host.said new ≡ host.said old ++ text)
  OnceEnds bytes n old new (Image f) =
      (IsTrue host.is_told → IsFaulty bytes f) × SaysLastLine host (Image f) old new
  OnceEnds bytes n old new SayFault = IsTrue host.is_told
      → (text : List ℕ) × IsReadable bytes × IsReport bytes n text
      × SaidPart (host.said old) text (host.said new)
  OnceEnds bytes n old new DiskFault = SaysLastLine host DiskFault old new
  OnceEnds bytes n old new TooLarge =
      (IsTrue host.is_told → longest_image < length bytes) × SaysLastLine host TooLarge old new
  OnceEnds bytes n old new OutOfMemory = SaysLastLine host OutOfMemory old new
  OnceEnds bytes n old new _ = ⊥

  -- A run of calls that leaves the files of these names alone: a stop may leave of each just what it could leave before, and
  -- where no disk fault was counted each reads as before.
  pub record LeavesAlone (names : List ℕ → Type 0) (old new : D) : Type 0 where
    pub alike : (Rose (host.disk_faults old) (host.disk_faults new) → ⊥) → IsTrue host.is_told
        → (n : List ℕ) → names n → host.files new n ≡ host.files old n
    pub fewer : IsTrue host.is_told → (n : List ℕ) (c : Option (List ℕ)) → names n → host.may_leave new n c → host.may_leave old n c
    pub more : IsTrue host.is_told → (n : List ℕ) (c : Option (List ℕ)) → names n → host.may_leave old n c → host.may_leave new n c

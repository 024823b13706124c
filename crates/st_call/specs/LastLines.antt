-- The last line of a call that ends in a status, and that nothing else was said.
use Rattle.std.specs.Prelude.{◌≡◌, ℕ, List, [], ◌∷◌, ◌++◌, codes, decimal, IsTrue}
use Rattle.st_host.specs.Counts.{Rose}
use Rattle.st_host.specs.Stops.{SaidPart}
use Rattle.st_host.specs.declared.host.Host.{Ghosts}
use Rattle.st_model.specs.declared.fault.ImageFault.{ImageFault}
use Rattle.st_model.specs.declared.fault.ImageFault.TheVariants as fault
use Rattle.st_model.specs.Faults.{row}
use Rattle.st_model.specs.Text.{numbers_text}
use Rattle.st_store.specs.declared.fault.StoreFault.{StoreFault}
use Rattle.st_store.specs.declared.fault.StoreFault.TheVariants as store
use Rattle.st_store.specs.declared.fault.StorePlace.{StorePlace}
use Rattle.st_store.specs.declared.fault.StorePlace.TheVariants.{Roots, Changes}
use Rattle.st_protocol.specs.declared.status.Status.{Status}
use Rattle.st_protocol.specs.declared.status.Status.TheVariants.{Done, Usage, Image, Script, ReadFault, SayFault, DiskFault, Store, Kernel, TooLarge, OutOfMemory}

-- a fault's pointer, and its second pointer or its index, where it has them
abbrev pub fault_numbers : ImageFault → List ℕ
fault_numbers (fault.Size p) = p ∷ []
fault_numbers (fault.Overlap p q) = p ∷ q ∷ []
fault_numbers (fault.Class p) = p ∷ []
fault_numbers (fault.Field p i) = p ∷ i ∷ []
fault_numbers (fault.Method p) = p ∷ []
fault_numbers (fault.Root p) = p ∷ []
fault_numbers _ = []

-- behind its row
abbrev pub fault_line : ImageFault → List ℕ
fault_line f = codes "image" ++ (numbers_text (row f ∷ fault_numbers f) ++ codes "\n")

-- the line of the script that isn't followed
abbrev pub script_line : ℕ → List ℕ
script_line line = codes "script" ++ ((codes " " ++ decimal line) ++ codes "\n")

-- a place in a file of a store
abbrev pub place_line : StorePlace → List ℕ
place_line (Roots at) = codes "store damaged roots" ++ ((codes " " ++ decimal at) ++ codes "\n")
place_line (Changes at) = codes "store damaged changes" ++ ((codes " " ++ decimal at) ++ codes "\n")

-- why a store isn't opened or made; the last two have statuses of their own
abbrev pub store_line : StoreFault → List ℕ
store_line store.Missing = codes "store missing\n"
store_line store.Exists = codes "store exists\n"
store_line (store.NotAStore place) = place_line place
store_line store.Disk = codes "disk fault\n"
store_line store.OutOfMemory = codes "out of memory\n"

-- the chunk of a kernel text that is wrong, and the cause
abbrev pub kernel_line : ℕ → ℕ → List ℕ
kernel_line chunk cause = codes "kernel" ++ (numbers_text (chunk ∷ cause ∷ []) ++ codes "\n")

abbrev pub last_line : Status → List ℕ
last_line Done = []
last_line Usage = codes "usage\n"
last_line (Image f) = fault_line f
last_line (Script line) = script_line line
last_line ReadFault = codes "read fault\n"
last_line SayFault = []
last_line DiskFault = codes "disk fault\n"
last_line (Store f) = store_line f
last_line (Kernel chunk cause) = kernel_line chunk cause
last_line TooLarge = codes "too large\n"
last_line OutOfMemory = codes "out of memory\n"

module _ {D : Type 0} (host : Ghosts D) where
  -- Nothing but the last line was said. It may be cut or missing only where the count of say faults rose,
  -- or stands at the last value that it has. Of a host that doesn't tell what was said nothing is claimed.
  pub record SaysLastLine (status : Status) (old new : D) : Type 0 where
    pub part : IsTrue host.is_told → SaidPart (host.said old) (last_line status) (host.said new)
    pub whole : (Rose (host.say_faults old) (host.say_faults new) → ⊥) → IsTrue host.is_told
        → host.said new ≡ host.said old ++ last_line status

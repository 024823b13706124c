-- How the building of a store from a kernel text ends.
use Rattle.std.specs.Prelude.{◌≡◌, ℕ, ◌<◌, ◌≤◌, ◌^◌, List, length, Ok, Err, IsTrue}
use Rattle.st_host.specs.declared.host.Host.{Ghosts}
use Rattle.st_protocol.specs.declared.status.Status.{Status}
use Rattle.st_protocol.specs.declared.status.Status.TheVariants.{Kernel, TooLarge, OutOfMemory}
use Rattle.st_install.specs.Defining.{installed}
use Rattle.st_kernel.specs.declared.fault.KernelFault.{KernelFault}
use Rattle.st_kernel.specs.declared.fault.KernelFault.TheVariants as kernel
use Rattle.st_kernel.specs.Built.{Fault, built}
use Rattle.st_session.specs.declared.making.Origin.TheVariants as origin
use Rattle.st_session.specs.Makings.{Contents, MakingEnds}

-- A kernel text that is right, and what it builds: it has at most 2^23 bytes, and no cause stands in it.
pub record Builds (text : List ℕ) (c : Contents) : Type 0 where
  pub short : length text ≤ 2 ^ 23
  pub is : built installed text ≡ Ok (record { objects = c.objects; head = c.head })

-- one that is wrong: the first chunk at which a cause stands, and the least that stands there
pub record IsWrongAt (text : List ℕ) (fault : Fault) : Type 0 where
  pub short : length text ≤ 2 ^ 23
  pub is : built installed text ≡ Err fault

-- the statuses in which it builds nothing
abbrev pub IsWrongKernel : Type 0 → List ℕ → Status → Type 0
IsWrongKernel told text (Kernel chunk cause) = told → IsWrongAt text (record { chunk = chunk; cause = cause })
IsWrongKernel told text TooLarge = told → 2 ^ 23 < length text
IsWrongKernel told text _ = ⊥

-- the status in which an image isn't built
abbrev pub kernel_status : KernelFault → Status
kernel_status (kernel.At chunk cause) = Kernel chunk cause
kernel_status kernel.OutOfMemory = OutOfMemory

-- How the command build ends, over the bytes of its kernel text. An absent file is read as an empty text.
abbrev pub BuildEnds : {D : Type 0} → Ghosts D → List ℕ → List ℕ → D → D → Status → Type 0
BuildEnds host text store = MakingEnds host origin.Kernel (Builds text) (IsWrongKernel (IsTrue host.is_told) text) store

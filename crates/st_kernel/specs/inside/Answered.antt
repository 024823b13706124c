-- What the building of an image answers: what a memory contains is the image, or the fault is its fault.
use Rattle.std.specs.Prelude.{◌≡◌, ⊤, Result, Ok, Err}
use Rattle.st_model.specs.Machine.{Went, empty_world}
use Rattle.st_model.specs.Objects.{nil}
use Rattle.st_model.specs.Table.{table}
use Rattle.st_model.specs.Contexts.{fetch_scheduled_registers}
use Rattle.st_model.specs.View.{View}
use Rattle.st_model.specs.Start.{idle_state}
use Rattle.st_frames.specs.declared.frame.Frame.{Frame}
use Rattle.st_frames.specs.inside.Shown.{IsReady, shown}
use Rattle.st_kernel.specs.declared.fault.KernelFault.{KernelFault}
use Rattle.st_kernel.specs.declared.fault.KernelFault.TheVariants.{At, OutOfMemory}
use Rattle.st_kernel.specs.Built.{Built, Fault}

-- what a memory contains is the image
abbrev pub IsBuilt : Result Built Fault → View → Type 0
IsBuilt r v = (b : Built) × (r ≡ Ok b) × (v.objects ≡ b.objects) × (v.head ≡ b.head)

-- A machine can begin: nothing is held but registers, and these are the ones that are fetched from the first process.
pub record IsBegun (v : View) : Type 0 where
  pub frame : Frame
  pub held : IsReady v frame (empty_world nil)
  pub fetched : (fetch_scheduled_registers table).run (idle_state v) ≡ Went tt (shown v frame (empty_world nil))

abbrev pub IsFaultOf : Result Built Fault → KernelFault → Type 0
IsFaultOf r (At chunk cause) = r ≡ Err (record { chunk = chunk; cause = cause })
IsFaultOf r OutOfMemory = ⊤

-- How a drill ends: the image of its kernel text is built in memory, and a million cycles of its machine are run. No file is touched.
use Rattle.std.specs.Prelude.{◌≡◌, ◌⊎◌, ℕ, List, ◌++◌, IsTrue, ⊤}
use Rattle.st_host.specs.Counts.{Rose}
use Rattle.st_host.specs.Runs.{ReadsAlike, SaysAll}
use Rattle.st_host.specs.Stops.{SaidPart}
use Rattle.st_host.specs.declared.host.Host.{Ghosts}
use Rattle.st_model.specs.Objects.{nil}
use Rattle.st_model.specs.Machine.{State, Went, empty_world}
use Rattle.st_model.specs.Births.{Births, births}
use Rattle.st_model.specs.Table.{Table, table}
use Rattle.st_model.specs.Show.{raised}
use Rattle.st_model.specs.Contexts.{fetch_scheduled_registers}
use Rattle.st_model.specs.Start.{idle_registers}
use Rattle.st_model.specs.Text.{used_text}
use Rattle.st_protocol.specs.declared.status.Status.{Status}
use Rattle.st_protocol.specs.declared.status.Status.TheVariants.{Done, SayFault, Kernel, OutOfMemory}
use Rattle.st_kernel.specs.declared.fault.KernelFault.{KernelFault}
use Rattle.st_kernel.specs.declared.fault.KernelFault.TheVariants as kernel
use Rattle.st_kernel.specs.Drills.{drill_text}
use Rattle.st_call.specs.LastLines.{SaysLastLine}
use Rattle.st_session.specs.declared.making.Origin.TheVariants as origin
use Rattle.st_session.specs.Builds.{Builds, IsWrongAt}
use Rattle.st_session.specs.Makings.{Contents, made_text}
use Rattle.st_session.specs.Reports.{run_text}

-- the machine of an image before its registers are fetched
abbrev pub idle_over : Contents → State Table
idle_over c = record { memory = c.objects; registers = idle_registers; world = empty_world nil; head = c.head }

-- The kernel text of the drill of n builds this image, and its machine begins in this state.
pub record BeginsDrill (n : ℕ) (c : Contents) (s : State Table) : Type 0 where
  pub builds : Builds (drill_text n) c
  pub fetched : (fetch_scheduled_registers table).run (idle_over c) ≡ Went tt s

-- the objects and words of a machine
abbrev pub use_text : State Table → List ℕ
use_text s = used_text s.memory

-- the objects and words of the image, the lines of a million cycles, and the objects and words then, where the machine isn't dead
abbrev pub drill_said : Contents → State Births → List ℕ
drill_said c s = made_text origin.Kernel c ++ run_text use_text 1000000 s

-- What is said of the drill of n: its kernel text builds an image, with whose objects as births the book's machine begins.
pub record IsDrill (n : ℕ) (text : List ℕ) : Type 0 where
  pub image : Contents
  pub builds : Builds (drill_text n) image
  pub first : State Births
  pub begins : (fetch_scheduled_registers births).run (raised (idle_over image)) ≡ Went tt first
  pub is : text ≡ drill_said image first

-- why there is none: a cause stands in the text, or there is no memory
abbrev pub IsNoDrill : ℕ → KernelFault → Type 0
IsNoDrill n (kernel.At chunk cause) = IsWrongAt (drill_text n) (record { chunk = chunk; cause = cause })
IsNoDrill n kernel.OutOfMemory = ⊤

module _ {D : Type 0} (host : Ghosts D) where
  -- what is so in each status that a drill can have
  abbrev pub DrillHas : ℕ → D → D → Status → Type 0
  DrillHas n old new Done = (text : List ℕ) × IsDrill n text × SaysAll host text old new
  DrillHas n old new SayFault = (text : List ℕ) × IsDrill n text × (IsTrue host.is_told → SaidPart (host.said old) text (host.said new))
  DrillHas n old new (Kernel chunk cause) = IsWrongAt (drill_text n) (record { chunk = chunk; cause = cause }) × SaysLastLine host (Kernel chunk cause) old new
  DrillHas n old new OutOfMemory = SaysLastLine host OutOfMemory old new
  DrillHas n old new _ = ⊥

  -- How the command drill ends.
  pub record DrillEnds (n : ℕ) (old new : D) (status : Status) : Type 0 where
    pub has : DrillHas n old new status
    -- no file is changed, and no fault of the disk comes
    pub alike : ReadsAlike host old new
    pub disk : host.disk_faults new ≡ host.disk_faults old
    -- without a fault of the output a text in which no cause stands is a drill, or there was no memory
    pub complete : (c : Contents) → Builds (drill_text n) c → (Rose (host.say_faults old) (host.say_faults new) → ⊥)
        → (status ≡ Done) ⊎ (status ≡ OutOfMemory)

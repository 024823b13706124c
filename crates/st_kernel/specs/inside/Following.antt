-- A kernel text as far as it is followed over a memory, in which nothing is held.
use Rattle.std.specs.Prelude.{◌≡◌, ⊤, ℕ, ◌+◌, pos, List, ◌∷◌, Bool, Option, Result, Ok, Err}
use Rattle.st_model.specs.declared.dead.Dead.{Dead}
use Rattle.st_model.specs.Objects.{nil}
use Rattle.st_model.specs.Machine.{State, Transition, Died, Went, empty_world}
use Rattle.st_model.specs.Births.{Births}
use Rattle.st_model.specs.Table.{Table}
use Rattle.st_model.specs.View.{View}
use Rattle.st_model.specs.Show.{Shows}
use Rattle.st_model.specs.Start.{idle_state}
use Rattle.st_frames.specs.declared.frame.Frame.{Frame}
use Rattle.st_frames.specs.inside.Shown.{IsReady}
use Rattle.st_kernel_text.specs.declared.cause.Cause.{Cause}
use Rattle.st_kernel_text.specs.Parts.{Side, Part, start}
use Rattle.st_kernel_text.specs.Definitions.{AreDefinitions}
use Rattle.st_kernel_text.specs.inside.Views.{start_of}
use Rattle.st_protocol.specs.Installing.{Install}
use Rattle.st_kernel.specs.declared.fault.KernelFault.{KernelFault}
use Rattle.st_kernel.specs.declared.part.Heading.{Heading}
use Rattle.st_kernel.specs.declared.part.Next.{Next}
use Rattle.st_kernel.specs.declared.part.Next.TheVariants.{On, Starts}
use Rattle.st_kernel.specs.Built.{Built, Fault, built_from}
use Rattle.st_kernel.specs.inside.Answered.{IsBuilt, IsFaultOf}

-- the registers name nil
abbrev pub idle_frame : Frame
idle_frame = record {
  active = record { 0 = 2 };
  home = record { 0 = 2 };
  method = record { 0 = 2 };
  receiver = record { 0 = 2 };
  ip = pos 0;
  sp = 5;
}

-- nothing is held
abbrev pub IsQuiet : View → Type 0
IsQuiet v = IsReady v idle_frame (empty_world nil)

abbrev pub side_in : Heading → Side
side_in h = record { class = h.class.now; meta = h.meta }

-- the memory shows births over which the parts that are left come to what the whole text comes to
pub record IsUnderway (install : Install) (cause : Option Cause) (whole : Result Built Fault) (n : ℕ) (side : Side) (parts : List Part)
    (v : View) : Type 0 where
  pub state : State Births
  pub shows : Shows (idle_state v) state
  pub is : built_from install cause n state side parts ≡ whole

-- the text goes on behind a method, or its fault is the whole text's
abbrev pub Installs : Install → Option Cause → Result Built Fault → (n : ℕ) → Side → List Part → Result (Unit {0}) KernelFault → View → Type 0
Installs install cause whole n side parts (Ok done) v = IsUnderway install cause whole (n + 1) side parts v
Installs install cause whole n side parts (Err fault) v = IsFaultOf whole fault

-- the text goes on behind the part, or that is the start, or its fault is the whole text's
abbrev pub GoesOn : Install → Option Cause → Result Built Fault → (n : ℕ) → Side → List Part → Result Next KernelFault → View → Type 0
GoesOn install cause whole n side parts (Ok (On h)) v = IsUnderway install cause whole (n + 1) (side_in h) parts v
GoesOn install cause whole n side parts (Ok (Starts s)) v = IsUnderway install cause whole n side (start (start_of s.now) ∷ parts) v
GoesOn install cause whole n side parts (Err fault) v = IsFaultOf whole fault

-- the methods that are left have the form of definitions, behind the part too
abbrev pub StaysGood : Side → Part → Result Next KernelFault → Type 0
StaysGood side part (Ok (On h)) = (parts : List Part) → AreDefinitions side (part ∷ parts) → AreDefinitions (side_in h) parts
StaysGood side part (Ok (Starts s)) = ⊤
StaysGood side part (Err fault) = ⊤

-- the step died; or it answered this, and left what the memory contains
abbrev pub Ends : Transition (State Table) Bool → Result Bool Dead → View → Type 0
Ends (Died cause) (Ok made) v = ⊥
Ends (Died cause) (Err dead) v = ⊤
Ends (Went made c) (Ok answered) v = (made ≡ answered) × (c.memory ≡ v.objects) × (c.head ≡ v.head)
Ends (Went made c) (Err dead) v = ⊥

-- the image is what the whole text comes to, or the fault is
abbrev pub Finishes : Result Built Fault → Result (Unit {0}) KernelFault → View → Type 0
Finishes whole (Ok done) v = IsBuilt whole v
Finishes whole (Err fault) v = IsFaultOf whole fault

-- What is asked of an event, how its coming ends, and what it leaves of the memory.
use Rattle.std.specs.Prelude.{◌≡◌, ◌≤◌, ⊤, Option, Some, None, Result, Ok, Err}
use Rattle.st_model.specs.declared.event.Event.{Event}
use Rattle.st_model.specs.declared.event.Event.TheVariants.{Word, Mouse, Clock, Tick}
use Rattle.st_model.specs.declared.event.InputFull.{InputFull}
use Rattle.st_model.specs.Machine.{World}
use Rattle.st_model.specs.View.{View}
use Rattle.st_frames.specs.Naming.{naming}

-- the numbers of a mouse's place are at most 16383
abbrev pub HasPlace : Event → Type 0
HasPlace (Word n) = ⊤
HasPlace (Mouse x y) = (x ≤ 16383) × (y ≤ 16383)
HasPlace (Clock time) = ⊤
HasPlace (Tick time) = ⊤

-- the world that a call leaves, which took the event or found the input full
abbrev pub came : Result (Unit {0}) InputFull → World → Option World
came (Ok u) w = Some w
came (Err full) w = None

-- the memory holds what this world names, and is else as it was
pub record HoldsNamed (old new : View) (w : World) : Type 0 where
  pub held : new.held ≡ naming old.held w
  pub objects : new.objects ≡ old.objects
  pub head : new.head ≡ old.head

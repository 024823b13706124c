-- What the reading of an image answers.
use Rattle.std.specs.Prelude.{◌≡◌, ℕ, List}
use Rattle.st_model.specs.declared.head.ImageHead.{ImageHead}
use Rattle.st_model.specs.Objects.{nil}
use Rattle.st_model.specs.Machine.{State, Went, empty_world}
use Rattle.st_model.specs.Births.{Births}
use Rattle.st_model.specs.Show.{Shows}
use Rattle.st_model.specs.View.{View, no_devices}
use Rattle.st_model.specs.Start.{start_view, start, begin}
use Rattle.st_frames.specs.declared.frame.Frame.{Frame}
use Rattle.st_frames.specs.inside.Shown.{IsFrame, shown}

-- A memory and its registers are those in which an image's machine begins: they show the start, and the births with
-- which the book's machine begins, and nothing is held but the registers.
pub record IsStart (h : ImageHead) (bytes : List ℕ) (v : View) (f : Frame) : Type 0 where
  pub objects : v.objects ≡ (start_view h bytes).objects
  pub head : v.head ≡ (start_view h bytes).head
  pub devices : v.held.devices ≡ no_devices
  pub frame : IsFrame v f
  pub state : start h bytes ≡ Went tt (shown v f (empty_world nil))
  pub births : State Births
  pub begins : begin h bytes ≡ Went tt births
  pub shows : Shows (shown v f (empty_world nil)) births

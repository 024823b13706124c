-- A memory that holds its registers and no device is ready for a machine in a new world.
use Rattle.std.proofs.Common.{◌≡◌, refl, sym, ap, ◌∙◌}
use Rattle.st_model.specs.Objects.{nil}
use Rattle.st_model.specs.Machine.{World, empty_world}
use Rattle.st_model.specs.View.{View, no_devices}
use Rattle.st_frames.specs.Naming.{filled}
use Rattle.st_frames.specs.declared.frame.Frame.{Frame}
use Rattle.st_frames.specs.inside.Shown.{IsFrame, IsReady}

filled_new : no_devices ≡ filled (empty_world nil).devices
unfolding no_devices
filled_new = refl

pub ready_new : (v : View) (f : Frame) (w : World) → IsFrame v f → v.held.devices ≡ no_devices → w ≡ empty_world nil → IsReady v f w
ready_new v f w frame quiet new = record { frame = frame; devices = quiet ∙ filled_new ∙ ap (λ (x : World). filled x.devices) (sym new) }

-- The registers are held as before, where the memory holds the same at their places.
use Rattle.std.proofs.Common.{◌≡◌, refl, sym, ap, ◌∙◌}
use Rattle.st_model.specs.Machine.{World}
use Rattle.st_model.specs.View.{View, Held}
use Rattle.st_frames.specs.declared.frame.Frame.{Frame}
use Rattle.st_frames.specs.Naming.{naming}
use Rattle.st_frames.specs.inside.Shown.{IsFrame, IsReady}

held_by : (v u : View) (f : Frame) (k : Held) → k.active ≡ v.held.active → k.home ≡ v.held.home → k.method ≡ v.held.method → k.receiver ≡ v.held.receiver
    → u.held ≡ k → IsFrame v f → IsFrame u f
held_by v u f k active home method receiver e h = record {
  active = h.active ∙ sym (ap (λ (x : Held). x.active) e ∙ active);
  home = h.home ∙ sym (ap (λ (x : Held). x.home) e ∙ home);
  method = h.method ∙ sym (ap (λ (x : Held). x.method) e ∙ method);
  receiver = h.receiver ∙ sym (ap (λ (x : Held). x.receiver) e ∙ receiver);
  ip_low = h.ip_low;
  ip_high = h.ip_high;
  sp_low = h.sp_low;
  sp_high = h.sp_high;
}

pub frame_held : (v u : View) (f : Frame) → u.held ≡ v.held → IsFrame v f → IsFrame u f
frame_held v u f e h = held_by v u f v.held refl refl refl refl e h

-- what the world names is held again
pub ready_after : (h z : View) (f : Frame) (x : World) → IsFrame h f → z.held ≡ naming h.held x → IsReady z f x
ready_after h z f x frame e = record {
  frame = held_by h z f (naming h.held x) refl refl refl refl e frame;
  devices = ap (λ (y : Held). y.devices) e;
}

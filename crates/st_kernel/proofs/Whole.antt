-- The whole text, over the memory of its first objects.
use Rattle.std.proofs.Common.{◌≡◌, ◌∙◌, true, false, Bool, refl, sym, ap, arith}
use Rattle.std.specs.Prelude.{Result, if◌then◌else◌}
use Rattle.std.proofs.lemmas.Int.{ints}
use Rattle.st_model.specs.Values.{value_of}
use Rattle.st_model.specs.View.{View, IsWhole, empty_view, nothing_held, no_devices}
use Rattle.st_model.specs.Show.{raised}
use Rattle.st_model.specs.Start.{idle_state}
use Rattle.st_model.proofs.Raised.{raised_shown}
use Rattle.st_frames.proofs.Closed.{closed_idle}
use Rattle.st_kernel_text.specs.Texts.{Account, account}
use Rattle.st_first_objects.specs.First.{first_view, view_of, has_room}
use Rattle.st_protocol.specs.Installing.{Install}
use Rattle.st_kernel.specs.Built.{Built, Fault, no_side, built_from, without_room, built_by, built}
use Rattle.st_kernel.specs.inside.Following.{IsUnderway, IsQuiet}

-- where nothing is held, all is ready
held_nothing : (v : View) → v.held ≡ nothing_held → IsQuiet v
unfolding nothing_held no_devices value_of
held_nothing v held = record {
  frame = record {
    active = sym (ap (λ h. h.active) held);
    home = sym (ap (λ h. h.home) held);
    method = sym (ap (λ h. h.method) held);
    receiver = sym (ap (λ h. h.receiver) held);
    ip_low = omega (arith, ints);
    ip_high = omega (arith, ints);
    sp_low = omega arith;
    sp_high = omega arith;
  };
  devices = ap (λ h. h.devices) held;
}

first_held : (a : Account) → (first_view a).held ≡ nothing_held
unfolding view_of empty_view
first_held a = refl

pub first_quiet : (v : View) (a : Account) → v ≡ first_view a → IsQuiet v
first_quiet v a is = held_nothing v (ap (λ (x : View). x.held) is ∙ first_held a)

module _ (install : Install) (a : Account) where
  abbrev pub followed : Result Built Fault
  followed = built_from install a.cause 1 (raised (idle_state (first_view a))) no_side a.parts

  -- nothing is followed yet
  pub first_underway : (v : View) → IsWhole v → v ≡ first_view a → IsUnderway install a.cause followed 1 no_side a.parts v
  first_underway v whole is = record {
    state = raised (idle_state v);
    shows = raised_shown (idle_state v) (closed_idle v whole.complete);
    is = ap (λ (x : View). built_from install a.cause 1 (raised (idle_state x)) no_side a.parts) is;
  }

  chosen : (b : Bool) (x y : Result Built Fault) → b ≡ true → (if b then x else y) ≡ x
  chosen true x y e = refl
  chosen false x y e = cc

  otherwise : (b : Bool) (x y : Result Built Fault) → b ≡ false → (if b then x else y) ≡ y
  otherwise true x y e = cc
  otherwise false x y e = refl

  pub with_room : (text : _) → a ≡ account text → has_room a ≡ true → followed ≡ built install text
  with_room text is room = sym (chosen (has_room a) followed (without_room a.cause 0 1 a.parts) room) ∙ ap (built_by install) is

  pub roomless : (text : _) → a ≡ account text → has_room a ≡ false → without_room a.cause 0 1 a.parts ≡ built install text
  roomless text is room = sym (otherwise (has_room a) followed (without_room a.cause 0 1 a.parts) room) ∙ ap (built_by install) is

-- Settings, and the primitives that differ only in what is set, or in the device.
use Rattle.std.proofs.Common.{◌≡◌, refl}
use Rattle.st_model.specs.declared.device.Device.TheVariants.{Cursor, Display}
use Rattle.st_model.specs.Values.{Value, Small, Ref}
use Rattle.st_model.specs.Machine.{ObjectMemory, State, Transition, Died, Went, answer, die, after, tried, ◌>>=◌, ◌>>◌}
use Rattle.st_model.specs.Table.{Table}
use Rattle.st_model.specs.Steps.{top, under}
use Rattle.st_model.specs.Primitives.{primitive, succeed, bits_or_die}
use Rattle.st_model.specs.Input.{check_truth, primitive_link_cursor, primitive_sample_interval, primitive_be_cursor, primitive_be_display}
use Rattle.st_process.specs.declared.shapes.Setting.TheVariants.{CursorLink, SampleInterval}
use Rattle.st_process.specs.inside.Devices.{check_setting, set_device, be_device}

module _ (m : ObjectMemory Table) where
  pub link-said : (a : Value) (s : State Table) → (check_setting m CursorLink a).run s ≡ (check_truth m a).run s
  unfolding check_setting
  link-said a s = refl

  pub interval-said : (a : Value) (s : State Table) → (check_setting m SampleInterval a).run s ≡ after ((bits_or_die a).run s) (λ n t. Went tt t)
  unfolding check_setting ◌>>=◌ ◌>>◌ answer
  interval-said a s = refl

  pub link-set : (s : State Table) → (primitive_link_cursor m).run s ≡ (set_device m CursorLink).run s
  unfolding primitive_link_cursor set_device check_setting
  link-set s = refl

  by_bits : (r a : Value) (s : State Table) → (primitive m 1 (bits_or_die a) (λ n. answer r)).run s ≡ (primitive m 1 (check_setting m SampleInterval a) (λ u. answer r)).run s
  unfolding check_setting bits_or_die primitive succeed tried ◌>>=◌ ◌>>◌ after answer die
  by_bits r (Small n) s = refl
  by_bits r (Ref n) s = refl

  with_argument : (r : Value) (x : Transition (State Table) Value) → after x (λ a t. (primitive m 1 (bits_or_die a) (λ n. answer r)).run t) ≡ after x (λ a t. (primitive m 1 (check_setting m SampleInterval a) (λ u. answer r)).run t)
  unfolding after
  with_argument r (Died k) = refl
  with_argument r (Went a t) = by_bits r a t

  with_receiver : (x : Transition (State Table) Value) → after x (λ r t. after ((top m).run t) (λ a u. (primitive m 1 (bits_or_die a) (λ n. answer r)).run u))
      ≡ after x (λ r t. after ((top m).run t) (λ a u. (primitive m 1 (check_setting m SampleInterval a) (λ v. answer r)).run u))
  unfolding after
  with_receiver (Died k) = refl
  with_receiver (Went r t) = with_argument r ((top m).run t)

  pub interval-set : (s : State Table) → (primitive_sample_interval m).run s ≡ (set_device m SampleInterval).run s
  unfolding primitive_sample_interval set_device ◌>>=◌
  interval-set s = with_receiver ((under m 1).run s)

  pub cursor-shown : (s : State Table) → (primitive_be_cursor m).run s ≡ (be_device m Cursor).run s
  unfolding primitive_be_cursor be_device
  cursor-shown s = refl

  pub display-shown : (s : State Table) → (primitive_be_display m).run s ≡ (be_device m Display).run s
  unfolding primitive_be_display be_device
  display-shown s = refl

pub ruleset devices = (link-set, interval-set, cursor-shown, display-shown)

pub ruleset settings = (link-said, interval-said)

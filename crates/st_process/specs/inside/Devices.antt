-- Primitives that differ only in the device, or in what is set of it.
use Rattle.std.specs.Prelude.{Bool}
use Rattle.st_model.specs.declared.device.Device.{Device}
use Rattle.st_model.specs.Values.{Value}
use Rattle.st_model.specs.Machine.{ObjectMemory, Step, answer, ◌>>=◌, ◌>>◌}
use Rattle.st_model.specs.Steps.{top, under}
use Rattle.st_model.specs.Primitives.{primitive, bits_or_die}
use Rattle.st_model.specs.Processes.{check_fields}
use Rattle.st_model.specs.Input.{check_truth, hold_and_answer}
use Rattle.st_process.specs.declared.shapes.Setting.{Setting}
use Rattle.st_process.specs.declared.shapes.Setting.TheVariants as settings

module _ {H : Type 0} (m : ObjectMemory H) where
  -- what says a setting
  unfoldable pub check_setting : Setting → Value → Step H Unit
  check_setting settings.CursorLink a = check_truth m a
  check_setting settings.SampleInterval a = do
    bits_or_die a
    answer tt

  -- 92 and 94, by what is set
  unfoldable pub set_device : Setting → Step H Bool
  set_device x = do
    r ← under m 1
    a ← top m
    primitive m 1 (check_setting x a) (λ u. answer r)

  -- 101 and 102, by the device
  unfoldable pub be_device : Device → Step H Bool
  be_device d = do
    r ← top m
    primitive m 0 (check_fields m r 3) (λ u. hold_and_answer m d r r)

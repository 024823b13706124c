-- What the code's values mean of which primitives on devices speak.
use Rattle.std.specs.Prelude.{ℕ, ◌<◌, length, if◌then◌else◌}
use Rattle.st_model.specs.Values.{Value}
use Rattle.st_model.specs.declared.device.Device.TheVariants.{Timer}
use Rattle.st_model.specs.Surroundings.{Hold, SetDue}
use Rattle.st_model.specs.Machine.{ObjectMemory, World, Step, answer, ◌>>=◌, ◌>>◌}
use Rattle.st_model.specs.Steps.{change_world}
use Rattle.st_model.specs.Input.{Timing, Rings, Waits, LetsGo, Place, Low, can_be_signalled, ring_or_wait}
use Rattle.st_process.specs.declared.shapes.Timing.{Timing as CodeTiming}
use Rattle.st_process.specs.declared.shapes.Timing.TheVariants as timings
use Rattle.st_process.specs.declared.shapes.Place.{Place as CodePlace}
use Rattle.st_process.specs.declared.shapes.Low.{Low as CodeLow}

abbrev pub timing_in : CodeTiming → Timing
timing_in timings.Rings = Rings
timing_in (timings.Waits time) = Waits time
timing_in timings.LetsGo = LetsGo

-- where a signal is to be added, there is room for it
abbrev pub HasRoom : World → CodeTiming → Type 0
HasRoom w timings.Rings = length w.devices.pending < 4096
HasRoom w (timings.Waits time) = Unit {0}
HasRoom w timings.LetsGo = Unit {0}

abbrev pub place_in : CodePlace → Place
place_in p = record { x = p.x; y = p.y }

abbrev pub low_in : CodeLow → Low
low_in l = record { entries = l.entries; words = l.words }

module _ {H : Type 0} (m : ObjectMemory H) where
  -- what is done to the timer, by the time that was read
  unfoldable pub timing_by : Value → ℕ → Step H Timing
  timing_by a time = do
    semaphore ← can_be_signalled m a
    if semaphore then ring_or_wait time else answer LetsGo

  -- a is held for the timer, which is due at this time
  unfoldable pub wait_for : Value → ℕ → Step H Unit
  wait_for a time = do
    change_world m (Hold Timer a)
    change_world m (SetDue time)

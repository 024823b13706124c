-- What lies round the machine, and how a bytecode or an event changes it (chapters 28 and 29).
use Rattle.std.specs.Prelude.{ℕ, ◌-◌, List, [], ◌∷◌, ◌++◌, length, take, drop, Option, slice_get}
use Rattle.st_model.specs.declared.device.Device.{Device}
use Rattle.st_model.specs.declared.device.Device.TheVariants as device
use Rattle.st_model.specs.Values.{Value, renamed}
use Rattle.st_model.specs.Machine.{Devices, World}

-- what a device holds; nil for nothing
abbrev pub held_by : Devices → Device → Value
held_by d device.NewProcess = d.new_process
held_by d device.Display = d.display
held_by d device.Cursor = d.cursor
held_by d device.InputSemaphore = d.input_semaphore
held_by d device.Timer = d.timer
held_by d device.LowSpace = d.low_space

abbrev pub holding : Devices → Device → Value → Devices
holding d device.NewProcess v = record d { new_process = v }
holding d device.Display v = record d { display = v }
holding d device.Cursor v = record d { cursor = v }
holding d device.InputSemaphore v = record d { input_semaphore = v }
holding d device.Timer v = record d { timer = v }
holding d device.LowSpace v = record d { low_space = v }

-- the newest of the pending signals, if any
abbrev pub newest_of : List Value → Option Value
newest_of vs = slice_get vs (length vs - 1)

-- one change
pub data Change : Type 0 where
  -- a device holds this from now on; nil lets go what it held
  Hold : Device → Value → Change
  -- a semaphore's signal is pending, behind all others
  AddSignal : Value → Change
  -- the newest pending signal is taken away
  TakeSignal : Change
  -- the millisecond at which the timer is due
  SetDue : ℕ → Change
  -- the free entries and words below which space is low
  SetLow : ℕ → ℕ → Change
  -- the mouse's place, from the left and from the top
  MoveMouse : ℕ → ℕ → Change
  -- an input word waits, behind all others
  AddWord : ℕ → Change
  -- the oldest waiting word is taken away
  TakeWord : Change
  SetSecondClock : ℕ → Change
  SetMillisecondClock : ℕ → Change

-- what a change makes of the world
abbrev pub changed_world : Change → World → World
changed_world (Hold d v) w = record w { devices = holding w.devices d v }
changed_world (AddSignal v) w = record w { devices = record w.devices { pending = w.devices.pending ++ v ∷ [] } }
changed_world TakeSignal w = record w { devices = record w.devices { pending = take (length w.devices.pending - 1) w.devices.pending } }
changed_world (SetDue t) w = record w { timer_due = t }
changed_world (SetLow entries words) w = record w { low_entries = entries; low_words = words }
changed_world (MoveMouse x y) w = record w { mouse_x = x; mouse_y = y }
changed_world (AddWord n) w = record w { waiting = w.waiting ++ n ∷ [] }
changed_world TakeWord w = record w { waiting = drop 1 w.waiting }
changed_world (SetSecondClock n) w = record w { second_clock = n }
changed_world (SetMillisecondClock n) w = record w { millisecond_clock = n }

-- what a change names
abbrev pub named_by : Change → List Value
named_by (Hold d v) = v ∷ []
named_by (AddSignal v) = v ∷ []
named_by change = []

-- a change with its name changed
abbrev pub renamed_change : (ℕ → ℕ) → Change → Change
renamed_change f (Hold d v) = Hold d (renamed f v)
renamed_change f (AddSignal v) = AddSignal (renamed f v)
renamed_change f TakeSignal = TakeSignal
renamed_change f (SetDue t) = SetDue t
renamed_change f (SetLow entries words) = SetLow entries words
renamed_change f (MoveMouse x y) = MoveMouse x y
renamed_change f (AddWord n) = AddWord n
renamed_change f TakeWord = TakeWord
renamed_change f (SetSecondClock n) = SetSecondClock n
renamed_change f (SetMillisecondClock n) = SetMillisecondClock n

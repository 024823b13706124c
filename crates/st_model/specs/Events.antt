-- What comes from outside between two bytecodes (chapter 29): an input word, a place of the mouse, and the times of two clocks.
use Rattle.std.specs.Prelude.{ℕ, ◌&&◌, not, Option, Some, None, Bool, length, nat_lt, nat_le, if◌then◌else◌}
use Rattle.std.specs.Option.{option_map}
use Rattle.st_model.specs.declared.device.Device.{Device}
use Rattle.st_model.specs.declared.device.Device.TheVariants.{Timer}
use Rattle.st_model.specs.declared.event.Event.{Event}
use Rattle.st_model.specs.declared.event.Event.TheVariants.{Word, Mouse, Clock, Tick}
use Rattle.st_model.specs.Values.{Value, Ref}
use Rattle.st_model.specs.Objects.{NilObject}
use Rattle.st_model.specs.Machine.{ObjectMemory, World, State}
use Rattle.st_model.specs.Surroundings.{Hold, AddSignal, AddWord, MoveMouse, SetSecondClock, SetMillisecondClock, held_by, changed_world}
use Rattle.st_model.specs.Steps.{same_value}

-- something is held
abbrev pub is_held : Value → Value → Bool
is_held nil v = not (same_value v nil)

-- the signal of what a device holds is pending, and it is let go
abbrev pub signalled_once : Value → Device → World → World
signalled_once nil d w = changed_world (Hold d nil) (changed_world (AddSignal (held_by w.devices d)) w)

-- at most 4096 signals are pending
abbrev pub has_signal_room : World → Bool
has_signal_room w = nat_lt (length w.devices.pending) 4096

-- a word waits, and the input semaphore, where one is held, has a signal pending for it; at most 256 words wait
abbrev pub word_comes : Value → ℕ → World → Option World
word_comes nil n w =
    if nat_lt (length w.waiting) 256 then
    (if is_held nil w.devices.input_semaphore then
    (if has_signal_room w then Some (changed_world (AddSignal w.devices.input_semaphore) (changed_world (AddWord n) w)) else None) else
    Some (changed_world (AddWord n) w)) else None

-- the timer is held, and is due at this time
abbrev pub is_due : Value → ℕ → World → Bool
is_due nil time w = is_held nil w.devices.timer && nat_le w.timer_due time

-- the millisecond clock is this from now on, and a timer that is due has its signal pending, and is let go
abbrev pub time_comes : Value → ℕ → World → Option World
time_comes nil time w =
    if is_due nil time w then
    (if has_signal_room w then Some (signalled_once nil Timer (changed_world (SetMillisecondClock time) w)) else None) else
    Some (changed_world (SetMillisecondClock time) w)

-- what an event makes of the world; none where the input is full
abbrev pub comes : Value → Event → World → Option World
comes nil (Word n) w = word_comes nil n w
comes nil (Mouse x y) w = Some (changed_world (MoveMouse x y) w)
comes nil (Clock time) w = Some (changed_world (SetSecondClock time) w)
comes nil (Tick time) w = time_comes nil time w

abbrev pub in_world : {H : Type 0} → State H → World → State H
in_world s w = record s { world = w }

-- and of a state
unfoldable pub event : {H : Type 0} → ObjectMemory H → Event → State H → Option (State H)
event m e s = option_map (in_world s) (comes (Ref (m.named s.memory NilObject)) e s.world)

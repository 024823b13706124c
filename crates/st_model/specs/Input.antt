-- The primitives of the input and output devices and of the clocks (chapter 29).
use Rattle.std.specs.Prelude.{ℕ, ◌/◌, ◌%◌, ◌&&◌, ◌||◌, List, [], ◌∷◌, length, Bool, false, nat_lt, nat_le, if◌then◌else◌, pos}
use Rattle.st_model.specs.declared.dead.Dead.TheVariants as dead
use Rattle.st_model.specs.declared.device.Device.{Device}
use Rattle.st_model.specs.declared.device.Device.TheVariants as device
use Rattle.st_model.specs.declared.primitive.InputPrimitive.{InputPrimitive}
use Rattle.st_model.specs.declared.primitive.InputPrimitive.TheVariants as named
use Rattle.st_model.specs.Values.{Value, Small, Ref}
use Rattle.st_model.specs.Objects.{NilObject, FalseObject, TrueObject, is_pointers}
use Rattle.st_model.specs.Surroundings.{Hold, AddSignal, SetDue, SetLow, MoveMouse, TakeWord}
use Rattle.st_model.specs.Machine.{ObjectMemory, Step, answer, ◌>>=◌, ◌>>◌}
use Rattle.st_model.specs.Steps.{of_page, same_value, check, or_die, object, fetch_size, fetch_field, fetch_bytes, store_bytes, count_signals, oldest_word, get_mouse_x, get_mouse_y, get_second_clock, get_millisecond_clock, change_world, top, under}
use Rattle.st_model.specs.Primitives.{primitive, of_receiver, of_one, of_two, check_bytes, bits_or_die, positive_small, positive_value, number_of_bytes, number}
use Rattle.st_model.specs.Arithmetic.{new_point}
use Rattle.st_model.specs.Processes.{check_fields}

-- a condition that always holds
unfoldable pub always : {H : Type 0} → Step H Unit
always = answer tt

-- a place, from the left and from the top
pub record Place : Type 0 where
  pub x : ℕ
  pub y : ℕ

unfoldable pub word_that_waits : {H : Type 0} → Step H ℕ
word_that_waits = oldest_word >>= or_die dead.Field

-- of a number below 2^32, the low byte first
abbrev pub four_bytes : ℕ → List ℕ
four_bytes n = n % 256 ∷ n / 256 % 256 ∷ n / 65536 % 256 ∷ n / 16777216 % 256 ∷ []

-- what 100 does to the timer: it is due, and a's signal is added; a waits for the time; or it is let go
pub data Timing : Type 0 where
  Rings : Timing
  Waits : ℕ → Timing
  LetsGo : Timing

-- at most 4096 signals are pending
unfoldable pub ring : {H : Type 0} → Step H Timing
ring = do
  n ← count_signals
  check dead.Excess (nat_lt n 4096)
  answer Rings

unfoldable pub ring_or_wait : {H : Type 0} → ℕ → Step H Timing
ring_or_wait time = do
  now ← get_millisecond_clock
  if nat_le time now then ring else answer (Waits time)

-- space is low below so many free entries and words
pub record Low : Type 0 where
  pub entries : ℕ
  pub words : ℕ

module _ {H : Type 0} (m : ObjectMemory H) where
  unfoldable pub mouse_point : Step H Value
  mouse_point = do
    x ← get_mouse_x
    y ← get_mouse_y
    new_point m (pos x) (pos y)

  -- 90: a new Point of the mouse's place
  unfoldable pub primitive_mouse_point : Step H Bool
  primitive_mouse_point = primitive m 0 always (λ u. mouse_point)

  -- fields 0 and 1 of an object
  unfoldable pub place_in : Value → Step H Place
  place_in a = do
    first ← fetch_field m a 0
    x ← positive_small first
    second ← fetch_field m a 1
    y ← positive_small second
    answer (record { x = x; y = y })

  unfoldable pub move_mouse : Value → Place → Step H Value
  move_mouse r p = change_world m (MoveMouse p.x p.y) >> answer r

  -- 91: the mouse is moved to a
  unfoldable pub primitive_move_mouse : Step H Bool
  primitive_move_mouse = of_one m (λ r a. place_in a) (λ r a p. move_mouse r p)

  unfoldable pub check_truth : Value → Step H Unit
  check_truth a = do
    true_object ← of_page m TrueObject
    false_object ← of_page m FalseObject
    check dead.Kind (same_value a true_object || same_value a false_object)

  -- 92, which links the cursor to the mouse or no more: nothing is seen of it
  unfoldable pub primitive_link_cursor : Step H Bool
  primitive_link_cursor = of_one m (λ r a. check_truth a) (λ r a u. answer r)

  -- a device holds x from now on, and the receiver is the answer
  unfoldable pub hold_and_answer : Device → Value → Value → Step H Value
  hold_and_answer d x r = change_world m (Hold d x) >> answer r

  -- 93: a is the semaphore that is signalled at each input word
  unfoldable pub primitive_input_semaphore : Step H Bool
  primitive_input_semaphore = of_one m (λ r a. check_fields m a 3) (λ r a u. hold_and_answer device.InputSemaphore a r)

  -- 94, which sets how often the mouse is looked at: nothing is seen of it
  unfoldable pub primitive_sample_interval : Step H Bool
  primitive_sample_interval = of_one m (λ r a. bits_or_die a) (λ r a n. answer r)

  unfoldable pub take_word : ℕ → Step H Value
  take_word w = change_world m TakeWord >> number m w

  -- 95: the oldest input word is taken
  unfoldable pub primitive_input_word : Step H Bool
  primitive_input_word = primitive m 0 word_that_waits take_word

  -- four bytes or more, in an object of kind Bytes
  unfoldable pub check_four_bytes : Value → Step H Unit
  check_four_bytes a = do
    check_bytes m a
    n ← fetch_size m a
    check dead.Field (nat_le 4 n)

  unfoldable pub store_time : Value → ℕ → Value → Step H Value
  store_time a time r = store_bytes m a 0 (four_bytes time) >> answer r

  unfoldable pub store_seconds : Value → Value → Step H Value
  store_seconds a r = do
    time ← get_second_clock
    store_time a time r

  -- 98: the first four bytes of a become the second clock
  unfoldable pub primitive_second_clock : Step H Bool
  primitive_second_clock = of_one m (λ r a. check_four_bytes a) (λ r a u. store_seconds a r)

  unfoldable pub store_milliseconds : Value → Value → Step H Value
  store_milliseconds a r = do
    time ← get_millisecond_clock
    store_time a time r

  -- 99: the first four bytes of a become the millisecond clock
  unfoldable pub primitive_millisecond_clock : Step H Bool
  primitive_millisecond_clock = of_one m (λ r a. check_four_bytes a) (λ r a u. store_milliseconds a r)

  -- an object of kind Pointers with three fields or more can be a semaphore
  unfoldable pub can_be_signalled : Value → Step H Bool
  can_be_signalled (Small n) = answer false
  can_be_signalled (Ref n) = do
    o ← object m (Ref n)
    answer (is_pointers o.kind && nat_le 3 (length o.fields))

  unfoldable pub timing : Value → Value → Step H Timing
  timing a b = do
    check_four_bytes b
    bytes ← fetch_bytes m b 0 4
    semaphore ← can_be_signalled a
    if semaphore then ring_or_wait (number_of_bytes bytes) else answer LetsGo

  -- the signal of what a device holds, or is to hold, is added, and it is let go
  unfoldable pub signal_once : Device → Value → Step H Unit
  signal_once d s = do
    change_world m (AddSignal s)
    nil ← of_page m NilObject
    change_world m (Hold d nil)

  unfoldable pub set_timer : Value → Timing → Step H Unit
  set_timer a Rings = signal_once device.Timer a
  set_timer a (Waits time) = change_world m (Hold device.Timer a) >> change_world m (SetDue time)
  set_timer a LetsGo = do
    nil ← of_page m NilObject
    change_world m (Hold device.Timer nil)

  unfoldable pub set_timer_and_answer : Value → Timing → Value → Step H Value
  set_timer_and_answer a t r = set_timer a t >> answer r

  -- 100: a is to be signalled once the millisecond clock is at least b
  unfoldable pub primitive_timer : Step H Bool
  primitive_timer = of_two m (λ r a b. timing a b) (λ r a b t. set_timer_and_answer a t r)

  -- 101: r is the cursor
  unfoldable pub primitive_be_cursor : Step H Bool
  primitive_be_cursor = of_receiver m (λ r. check_fields m r 3) (λ r u. hold_and_answer device.Cursor r r)

  -- 102: r is the display
  unfoldable pub primitive_be_display : Step H Bool
  primitive_be_display = of_receiver m (λ r. check_fields m r 3) (λ r u. hold_and_answer device.Display r r)

  unfoldable pub low_space : Value → Value → Value → Step H Low
  low_space a b c = do
    check_fields m a 3
    entries ← positive_value m 4 b
    words ← positive_value m 4 c
    answer (record { entries = entries; words = words })

  unfoldable pub set_low_space : Value → Low → Value → Step H Value
  set_low_space a low r = do
    change_world m (Hold device.LowSpace a)
    change_world m (SetLow low.entries low.words)
    answer r

  -- 116: a is to be signalled once fewer than b entries or c words are free
  unfoldable pub primitive_low_space : Step H Bool
  primitive_low_space = do
    r ← under m 3
    a ← under m 2
    b ← under m 1
    c ← top m
    primitive m 3 (low_space a b c) (λ low. set_low_space a low r)

  -- the primitives of this file
  unfoldable pub input : InputPrimitive → Step H Bool
  input named.MousePoint = primitive_mouse_point
  input named.MoveMouse = primitive_move_mouse
  input named.LinkCursor = primitive_link_cursor
  input named.InputSemaphore = primitive_input_semaphore
  input named.SampleInterval = primitive_sample_interval
  input named.InputWord = primitive_input_word
  input named.SecondClock = primitive_second_clock
  input named.MillisecondClock = primitive_millisecond_clock
  input named.Timer = primitive_timer
  input named.BeCursor = primitive_be_cursor
  input named.BeDisplay = primitive_be_display
  input named.LowSpace = primitive_low_space

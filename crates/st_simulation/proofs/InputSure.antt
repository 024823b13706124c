-- The primitives of input and output devices and of clocks meet no name without an object.
use Rattle.std.proofs.Common.{ℕ}
use Rattle.st_model.specs.declared.primitive.InputPrimitive.{InputPrimitive}
use Rattle.st_model.specs.declared.primitive.InputPrimitive.TheVariants as named
use Rattle.st_model.specs.declared.device.Device.{Device}
use Rattle.st_model.specs.Values.{Value, Small, Ref}
use Rattle.st_model.specs.Objects.{Object}
use Rattle.st_model.specs.Processes.{check_fields}
use Rattle.st_model.specs.Input.{mouse_point, always, primitive_mouse_point, Place, place_in, move_mouse, primitive_move_mouse, check_truth, primitive_link_cursor, hold_and_answer, primitive_input_semaphore, primitive_sample_interval, word_that_waits, take_word, primitive_input_word, check_four_bytes, store_time, store_seconds, primitive_second_clock, store_milliseconds, primitive_millisecond_clock, Timing, Rings, can_be_signalled, ring, ring_or_wait, timing, signal_once, set_timer, set_timer_and_answer, primitive_timer, primitive_be_cursor, primitive_be_display, Low, low_space, set_low_space, primitive_low_space, input}
use Rattle.st_simulation.proofs.Present.{bare, full, There, SureValue, SureAnswer}
use Rattle.st_simulation.proofs.PresentSteps.{sures, parts, primitive-sure, check_bytes-sure, bits_or_die-sure, positive_small-sure, positive_value-sure, number-sure, new_point-sure}

module _ (o : Object) (lives : ℕ → Type 0) where
  place_in-sure : (n : ℕ) (a : Value) → There o lives n a → SureAnswer o lives n (place_in bare a) (place_in (full o) a)
  unfolding place_in
  place_in-sure n a h0 = search (parts, positive_small-sure) depth 24 fits 4000

  can_be_signalled-sure : (n : ℕ) (a : Value) → There o lives n a → SureAnswer o lives n (can_be_signalled bare a) (can_be_signalled (full o) a)
  unfolding can_be_signalled
  can_be_signalled-sure n (Small i) h = search sures
  can_be_signalled-sure n (Ref i) h = search parts depth 24 fits 4000

  timing-sure : (n : ℕ) (a b : Value) → There o lives n a → There o lives n b → SureAnswer o lives n (timing bare a b) (timing (full o) a b)
  unfolding timing check_four_bytes ring ring_or_wait
  timing-sure n a b h0 h1 = search (parts, check_bytes-sure, can_be_signalled-sure) depth 40 fits 9000

  low_space-sure : (n : ℕ) (a b c : Value) → There o lives n a → There o lives n b → There o lives n c → SureAnswer o lives n (low_space bare a b c) (low_space (full o) a b c)
  unfolding low_space check_fields
  low_space-sure n a b c h0 h1 h2 = search (parts, positive_value-sure) depth 40 fits 9000

  set_timer-sure : (n : ℕ) (a : Value) (t : Timing) → There o lives n a → SureAnswer o lives n (set_timer bare a t) (set_timer (full o) a t)
  unfolding set_timer signal_once
  set_timer-sure n a Rings h = search parts depth 24 fits 4000
  set_timer-sure n a t h = search parts depth 24 fits 4000

  move_mouse-sure : (n : ℕ) (r : Value) (p : Place) → There o lives n r → SureValue o lives n (move_mouse bare r p) (move_mouse (full o) r p)
  unfolding move_mouse
  move_mouse-sure n r p h0 = search parts depth 24 fits 4000

  hold_and_answer-sure : (n : ℕ) (d : Device) (x r : Value) → There o lives n x → There o lives n r → SureValue o lives n (hold_and_answer bare d x r) (hold_and_answer (full o) d x r)
  unfolding hold_and_answer
  hold_and_answer-sure n d x r h0 h1 = search parts depth 24 fits 4000

  set_low_space-sure : (n : ℕ) (a : Value) (low : Low) (r : Value) → There o lives n a → There o lives n r → SureValue o lives n (set_low_space bare a low r) (set_low_space (full o) a low r)
  unfolding set_low_space
  set_low_space-sure n a low r h0 h1 = search parts depth 24 fits 4000

  ruleset input_sure = (parts, primitive-sure, bits_or_die-sure, check_bytes-sure, new_point-sure, number-sure, place_in-sure, timing-sure, low_space-sure, set_timer-sure, move_mouse-sure, hold_and_answer-sure, set_low_space-sure)

  pub input-sure : (n : ℕ) (p : InputPrimitive) → SureAnswer o lives n (input bare p) (input (full o) p)
  unfolding input primitive_mouse_point primitive_move_mouse primitive_link_cursor primitive_input_semaphore primitive_sample_interval primitive_input_word primitive_second_clock primitive_millisecond_clock primitive_timer primitive_be_cursor primitive_be_display primitive_low_space always mouse_point take_word word_that_waits check_fields check_truth check_four_bytes store_time store_seconds store_milliseconds set_timer_and_answer
  input-sure n named.MousePoint = search input_sure depth 60 fits 60000
  input-sure n p = search input_sure depth 60 fits 60000

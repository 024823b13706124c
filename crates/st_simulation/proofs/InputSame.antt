-- The primitives of input and output devices and of clocks over births do the same over pointers.
use Rattle.std.proofs.Common.{◌≡◌, Bool, refl}
use Rattle.std.specs.Prelude.{◌||◌}
use Rattle.st_model.specs.declared.primitive.InputPrimitive.{InputPrimitive}
use Rattle.st_model.specs.declared.primitive.InputPrimitive.TheVariants as named
use Rattle.st_model.specs.declared.device.Device.{Device}
use Rattle.st_model.specs.Values.{Value, Small, Ref}
use Rattle.st_model.specs.Machine.{ObjectMemory}
use Rattle.st_model.specs.Processes.{check_fields}
use Rattle.st_model.specs.Input.{mouse_point, always, primitive_mouse_point, Place, place_in, move_mouse, primitive_move_mouse, check_truth, primitive_link_cursor, hold_and_answer, primitive_input_semaphore, primitive_sample_interval, word_that_waits, take_word, primitive_input_word, check_four_bytes, store_time, store_seconds, primitive_second_clock, store_milliseconds, primitive_millisecond_clock, Timing, Rings, can_be_signalled, ring, ring_or_wait, timing, signal_once, set_timer, set_timer_and_answer, primitive_timer, primitive_be_cursor, primitive_be_display, Low, low_space, set_low_space, primitive_low_space, input}
use Rattle.st_simulation.proofs.Same.{Simulation, ValueSame, SameValue, SameAnswer, then_object-same, answer_itself-same, length-renamed, steps_same}
use Rattle.st_simulation.proofs.StepsSame.{object-same, parts_same}
use Rattle.st_simulation.proofs.PrimitivesSame.{bits_or_die-same, positive_small-same, primitive-same, new_point-same}
use Rattle.st_simulation.proofs.StorageSame.{number-same, check_bytes-same, positive_value-same}

-- conditions; nothing is made
module _ {H K : Type 0} {M : ObjectMemory H} {N : ObjectMemory K} (sim : Simulation M N) where
  place_in-same : (a b : Value) → ValueSame sim a b → SameAnswer sim (place_in M a) (place_in N b)
  unfolding place_in
  place_in-same a b h = search (parts_same, positive_small-same) depth 24 fits 4000

  either-same : (a b c d : Bool) → c ≡ a → d ≡ b → (c || d) ≡ (a || b)
  either-same a b c d e f = rw (e, f) refl

  can_be_signalled-same : (a b : Value) → ValueSame sim a b → SameAnswer sim (can_be_signalled M a) (can_be_signalled N b)
  unfolding can_be_signalled
  can_be_signalled-same (Small n) b h = rw h.is (search steps_same)
  can_be_signalled-same (Ref n) b h =
      rw h.is
      (then_object-same sim _ _ _ _ _ _ (object-same sim (Ref n) (Ref (sim.name n)) (record { live = h.live; is = refl })) (λ o l. rw (length-renamed sim.name o.fields) (answer_itself-same sim _)))

  timing-same : (a b x y : Value) → ValueSame sim a b → ValueSame sim x y → SameAnswer sim (timing M a x) (timing N b y)
  unfolding timing check_four_bytes ring ring_or_wait
  timing-same a b x y h g = search (parts_same, check_bytes-same, can_be_signalled-same) depth 40 fits 9000

  low_space-same : (a b x y z w : Value) → ValueSame sim a b → ValueSame sim x y → ValueSame sim z w → SameAnswer sim (low_space M a x z) (low_space N b y w)
  unfolding low_space check_fields
  low_space-same a b x y z w h g f = search (parts_same, positive_value-same) depth 40 fits 9000

  -- effects

  move_mouse-same : (r s : Value) (p : Place) → ValueSame sim r s → SameValue sim (move_mouse M r p) (move_mouse N s p)
  unfolding move_mouse
  move_mouse-same r s p h = search parts_same depth 24 fits 4000

  hold_and_answer-same : (d : Device) (x y r s : Value) → ValueSame sim x y → ValueSame sim r s → SameValue sim (hold_and_answer M d x r) (hold_and_answer N d y s)
  unfolding hold_and_answer
  hold_and_answer-same d x y r s h g = search parts_same depth 24 fits 4000

  set_timer-same : (a b : Value) (t : Timing) → ValueSame sim a b → SameAnswer sim (set_timer M a t) (set_timer N b t)
  unfolding set_timer signal_once
  set_timer-same a b Rings h = search parts_same depth 24 fits 4000
  set_timer-same a b t h = search parts_same depth 24 fits 4000

  set_low_space-same : (a b : Value) (low : Low) (r s : Value) → ValueSame sim a b → ValueSame sim r s → SameValue sim (set_low_space M a low r) (set_low_space N b low s)
  unfolding set_low_space
  set_low_space-same a b low r s h g = search parts_same depth 24 fits 4000

-- primitives
module _ {H K : Type 0} {M : ObjectMemory H} {N : ObjectMemory K} (sim : Simulation M N) (makes : sim.makes) where
  ruleset input_same = (parts_same, primitive-same, either-same, bits_or_die-same, check_bytes-same, new_point-same, number-same, place_in-same, timing-same, low_space-same, set_timer-same, move_mouse-same, hold_and_answer-same, set_low_space-same)

  pub input-same : (p : InputPrimitive) → SameAnswer sim (input M p) (input N p)
  unfolding input primitive_mouse_point primitive_move_mouse primitive_link_cursor primitive_input_semaphore primitive_sample_interval primitive_input_word primitive_second_clock primitive_millisecond_clock primitive_timer primitive_be_cursor primitive_be_display primitive_low_space always mouse_point take_word word_that_waits check_fields check_truth check_four_bytes store_time store_seconds store_milliseconds set_timer_and_answer
  input-same named.MousePoint = search input_same depth 60 fits 60000
  input-same p = search input_same depth 60 fits 60000

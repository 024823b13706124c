-- What a row reads of the world, which it has beside its registers.
use Rattle.std.proofs.Common.{◌≡◌, length, refl}
use Rattle.std.specs.Prelude.{slice_get}
use Rattle.st_model.specs.declared.device.Device.{Device}
use Rattle.st_model.specs.Surroundings.{held_by}
use Rattle.st_model.specs.Machine.{Head, Went}
use Rattle.st_model.specs.Table.{Table}
use Rattle.st_model.specs.Steps.{get_device, count_signals, oldest_word, get_mouse_x, get_mouse_y, get_second_clock, get_millisecond_clock}
use Rattle.st_frames.specs.declared.registers.Registers.{Registers as Words}
use Rattle.st_frames.specs.inside.Rows.{row_state}

module _ (t : Table) (a : Head) (r : Words) where
  pub row-device : (d : Device) → (get_device d).run (row_state t a r) ≡ Went (held_by r.world.now.devices d) (row_state t a r)
  unfolding get_device row_state
  row-device d = refl

  pub row-signals : count_signals.run (row_state t a r) ≡ Went (length r.world.now.devices.pending) (row_state t a r)
  unfolding count_signals row_state
  row-signals = refl

  pub row-oldest_word : oldest_word.run (row_state t a r) ≡ Went (slice_get r.world.now.waiting 0) (row_state t a r)
  unfolding oldest_word row_state
  row-oldest_word = refl

  pub row-mouse_x : get_mouse_x.run (row_state t a r) ≡ Went r.world.now.mouse_x (row_state t a r)
  unfolding get_mouse_x row_state
  row-mouse_x = refl

  pub row-mouse_y : get_mouse_y.run (row_state t a r) ≡ Went r.world.now.mouse_y (row_state t a r)
  unfolding get_mouse_y row_state
  row-mouse_y = refl

  pub row-second_clock : get_second_clock.run (row_state t a r) ≡ Went r.world.now.second_clock (row_state t a r)
  unfolding get_second_clock row_state
  row-second_clock = refl

  pub row-millisecond_clock : get_millisecond_clock.run (row_state t a r) ≡ Went r.world.now.millisecond_clock (row_state t a r)
  unfolding get_millisecond_clock row_state
  row-millisecond_clock = refl

pub ruleset worlds = (row-device, row-signals, row-oldest_word, row-mouse_x, row-mouse_y, row-second_clock, row-millisecond_clock)

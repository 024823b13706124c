-- Primitives on devices and clocks whose conditions hold.
use Rattle.std.proofs.Common.{◌≡◌, ℕ, Bool, refl}
use Rattle.st_model.specs.declared.dead.Dead.{Dead}
use Rattle.st_model.specs.declared.device.Device.{Device}
use Rattle.st_model.specs.declared.device.Device.TheVariants as device
use Rattle.st_process.specs.declared.shapes.Setting.{Setting}
use Rattle.st_process.specs.inside.Devices.{check_setting, set_device, be_device}
use Rattle.st_model.specs.Values.{Value}
use Rattle.st_model.specs.Machine.{ObjectMemory, State, Transition, Step, Died, Went, after, answer, ◌>>=◌, ◌>>◌}
use Rattle.st_model.specs.Table.{Table}
use Rattle.st_model.specs.Steps.{top, under}
use Rattle.st_model.specs.Processes.{check_fields}
use Rattle.st_model.specs.Input.{Place, place_in, move_mouse, primitive_move_mouse, hold_and_answer, primitive_input_semaphore, word_that_waits, take_word, primitive_input_word, check_four_bytes, store_seconds, primitive_second_clock, store_milliseconds, primitive_millisecond_clock, Timing, timing, set_timer, set_timer_and_answer, primitive_timer, Low, low_space, set_low_space, primitive_low_space}
use Rattle.st_frames.specs.inside.Answering.{succeed_by, succeed_with}
use Rattle.st_frames.proofs.Tries.{primitive-done, primitive-same}

-- an effect, and then its answer
module _ (m : ObjectMemory Table) (n : ℕ) (step : Step Table Value) (s : State Table) where
  pub answered : (v : Value) (t : State Table) (y : Transition (State Table) Bool) → step.run s ≡ Went v t → (succeed_with m n v).run t ≡ y → (succeed_by m n step).run s ≡ y
  unfolding succeed_by ◌>>=◌ after
  answered v t y e h = rw e h

  pub unanswered : (k : Dead) → step.run s ≡ Died k → (succeed_by m n step).run s ≡ Died k
  unfolding succeed_by ◌>>=◌ after
  unanswered k e = rw e refl

module _ (m : ObjectMemory Table) (v w : Value) (a : Timing) (s : State Table) where
  pub timer-set : (t : State Table) → (set_timer m w a).run s ≡ Went tt t → (set_timer_and_answer m w a v).run s ≡ Went v t
  unfolding set_timer_and_answer ◌>>◌ ◌>>=◌ after answer
  timer-set t e = rw e refl

  pub timer-unset : (k : Dead) → (set_timer m w a).run s ≡ Died k → (set_timer_and_answer m w a v).run s ≡ Died k
  unfolding set_timer_and_answer ◌>>◌ ◌>>=◌ after
  timer-unset k e = rw e refl

pub tried-move_mouse : (m : ObjectMemory Table) (v w : Value) (a : Place) (s : State Table) (y : Transition (State Table) Bool) → (under m 1).run s ≡ Went v s → (top m).run s ≡ Went w s → (place_in m w).run s ≡ Went a s → (succeed_by m 1 (move_mouse m v a)).run s ≡ y
    → (primitive_move_mouse m).run s ≡ y
unfolding primitive_move_mouse ◌>>=◌ after
tried-move_mouse m v w a s y e0 e1 h k = rw (e0, e1) (primitive-done m 1 (place_in m w) (λ (a : Place). move_mouse m v a) s a y h k)

pub tried-input_semaphore : (m : ObjectMemory Table) (v w : Value) (s : State Table) (y : Transition (State Table) Bool) → (under m 1).run s ≡ Went v s → (top m).run s ≡ Went w s → (check_fields m w 3).run s ≡ Went tt s → (succeed_by m 1 (hold_and_answer m device.InputSemaphore w v)).run s ≡ y
    → (primitive_input_semaphore m).run s ≡ y
unfolding primitive_input_semaphore ◌>>=◌ after
tried-input_semaphore m v w s y e0 e1 h k = rw (e0, e1) (primitive-done m 1 (check_fields m w 3) (λ (u : Unit {0}). hold_and_answer m device.InputSemaphore w v) s tt y h k)

pub tried-input_word : (m : ObjectMemory Table) (a : ℕ) (s : State Table) (y : Transition (State Table) Bool) → word_that_waits.run s ≡ Went a s → (succeed_by m 0 (take_word m a)).run s ≡ y
    → (primitive_input_word m).run s ≡ y
unfolding primitive_input_word ◌>>=◌ after
tried-input_word m a s y h k = primitive-done m 0 word_that_waits (λ (a : ℕ). take_word m a) s a y h k

pub tried-second_clock : (m : ObjectMemory Table) (v w : Value) (s : State Table) (y : Transition (State Table) Bool) → (under m 1).run s ≡ Went v s → (top m).run s ≡ Went w s → (check_four_bytes m w).run s ≡ Went tt s → (succeed_by m 1 (store_seconds m w v)).run s ≡ y
    → (primitive_second_clock m).run s ≡ y
unfolding primitive_second_clock ◌>>=◌ after
tried-second_clock m v w s y e0 e1 h k = rw (e0, e1) (primitive-done m 1 (check_four_bytes m w) (λ (u : Unit {0}). store_seconds m w v) s tt y h k)

pub tried-millisecond_clock : (m : ObjectMemory Table) (v w : Value) (s : State Table) (y : Transition (State Table) Bool) → (under m 1).run s ≡ Went v s → (top m).run s ≡ Went w s → (check_four_bytes m w).run s ≡ Went tt s → (succeed_by m 1 (store_milliseconds m w v)).run s ≡ y
    → (primitive_millisecond_clock m).run s ≡ y
unfolding primitive_millisecond_clock ◌>>=◌ after
tried-millisecond_clock m v w s y e0 e1 h k = rw (e0, e1) (primitive-done m 1 (check_four_bytes m w) (λ (u : Unit {0}). store_milliseconds m w v) s tt y h k)

pub tried-timer : (m : ObjectMemory Table) (v w x : Value) (a : Timing) (s : State Table) (y : Transition (State Table) Bool) → (under m 2).run s ≡ Went v s → (under m 1).run s ≡ Went w s → (top m).run s ≡ Went x s → (timing m w x).run s ≡ Went a s → (succeed_by m 2 (set_timer_and_answer m w a v)).run s ≡ y
    → (primitive_timer m).run s ≡ y
unfolding primitive_timer ◌>>=◌ after
tried-timer m v w x a s y e0 e1 e2 h k = rw (e0, e1, e2) (primitive-done m 2 (timing m w x) (λ (a : Timing). set_timer_and_answer m w a v) s a y h k)

pub tried-low_space : (m : ObjectMemory Table) (v w x y : Value) (a : Low) (s : State Table) (z : Transition (State Table) Bool) → (under m 3).run s ≡ Went v s → (under m 2).run s ≡ Went w s → (under m 1).run s ≡ Went x s → (top m).run s ≡ Went y s → (low_space m w x y).run s ≡ Went a s → (succeed_by m 3 (set_low_space m w a v)).run s ≡ z
    → (primitive_low_space m).run s ≡ z
unfolding primitive_low_space ◌>>=◌ after
tried-low_space m v w x y a s z e0 e1 e2 e3 h k = rw (e0, e1, e2, e3) (primitive-done m 3 (low_space m w x y) (λ (a : Low). set_low_space m w a v) s a z h k)

pub tried-be_device : (m : ObjectMemory Table) (d : Device) (v : Value) (s : State Table) (y : Transition (State Table) Bool) → (top m).run s ≡ Went v s → (check_fields m v 3).run s ≡ Went tt s → (succeed_by m 0 (hold_and_answer m d v v)).run s ≡ y
    → (be_device m d).run s ≡ y
unfolding be_device ◌>>=◌ after
tried-be_device m d v s y e0 h k = rw e0 (primitive-done m 0 (check_fields m v 3) (λ (u : Unit {0}). hold_and_answer m d v v) s tt y h k)

pub tried-set_device : (m : ObjectMemory Table) (x : Setting) (v w : Value) (s : State Table) (y : Transition (State Table) Bool) → (under m 1).run s ≡ Went v s → (top m).run s ≡ Went w s → (check_setting m x w).run s ≡ Went tt s → (succeed_with m 1 v).run s ≡ y
    → (set_device m x).run s ≡ y
unfolding set_device ◌>>=◌ after
tried-set_device m x v w s y e0 e1 h k = rw (e0, e1) (primitive-same m 1 (check_setting m x w) s tt v y h k)

-- Worked rows of what comes from outside, computed from the definitions: input words, the mouse, and the two clocks.
use Rattle.std.proofs.Common.{◌≡◌, ℕ, suc, zero, List, [], ◌∷◌, ◌++◌, Some, None, Option, refl}
use Rattle.std.specs.Prelude.{pos, replicate}
use Rattle.st_model.specs.declared.event.Event.{Event}
use Rattle.st_model.specs.declared.event.Event.TheVariants.{Word, Mouse, Clock, Tick}
use Rattle.st_model.specs.Values.{Value, Ref}
use Rattle.st_model.specs.Objects.{nil}
use Rattle.st_model.specs.Machine.{State, World, empty_world}
use Rattle.st_model.specs.Table.{Table, table}
use Rattle.st_model.specs.Events.{event}
use Rattle.st_model.proofs.Opened.{opened}

-- an event looks at nothing but the world
unfoldable state : World → State Table
state w = record {
  memory = [];
  registers = record { active = nil; home = nil; method = nil; receiver = nil; ip = pos 6; sp = 5 };
  world = w;
  head = record { entries = 100; words = 1000; globals = None; symbols = None };
}

-- it is taken, and makes of one world another
abbrev Makes : Event → World → World → Type 0
Makes e before later = event table e (state before) ≡ Some (state later)

-- the input is full, and nothing changes
abbrev IsFull : Event → World → Type 0
IsFull e w = event table e (state w) ≡ None

-- words that wait, the input semaphore, and the semaphores whose signals are pending
unfoldable typing : List ℕ → Value → List Value → World
typing waiting semaphore pending = record (empty_world nil) {
  waiting = waiting;
  devices = record (empty_world nil).devices { input_semaphore = semaphore; pending = pending };
}

-- A word waits behind the others. Where an input semaphore is held, it stays held, and one signal more of it is pending,
-- behind the others.
words : Makes (Word 4660) (typing [] nil []) (typing (4660 ∷ []) nil [])
    × Makes (Word 0) (typing (7 ∷ 9 ∷ []) nil (Ref 40 ∷ [])) (typing (7 ∷ 9 ∷ 0 ∷ []) nil (Ref 40 ∷ []))
    × Makes (Word 65535) (typing [] (Ref 33) []) (typing (65535 ∷ []) (Ref 33) (Ref 33 ∷ []))
    × Makes (Word 8) (typing (7 ∷ []) (Ref 33) (Ref 33 ∷ Ref 40 ∷ [])) (typing (7 ∷ 8 ∷ []) (Ref 33) (Ref 33 ∷ Ref 40 ∷ Ref 33 ∷ []))
unfolding opened state typing
words = (refl, refl, refl, refl)

-- At most 256 words wait, with a semaphore and without one.
words_full : Makes (Word 5) (typing (replicate 255 1) nil []) (typing (replicate 255 1 ++ 5 ∷ []) nil [])
    × IsFull (Word 5) (typing (replicate 256 1) nil [])
    × Makes (Word 5) (typing (replicate 255 1) (Ref 33) []) (typing (replicate 255 1 ++ 5 ∷ []) (Ref 33) (Ref 33 ∷ []))
    × IsFull (Word 5) (typing (replicate 256 1) (Ref 33) [])
unfolding opened state typing
words_full = (refl, refl, refl, refl)

-- At most 4096 signals are pending. Where none is added, their number doesn't matter.
signals_full : Makes (Word 5) (typing [] (Ref 33) (replicate 4095 (Ref 40))) (typing (5 ∷ []) (Ref 33) (replicate 4095 (Ref 40) ++ Ref 33 ∷ []))
    × IsFull (Word 5) (typing [] (Ref 33) (replicate 4096 (Ref 40)))
    × Makes (Word 5) (typing [] nil (replicate 4096 (Ref 40))) (typing (5 ∷ []) nil (replicate 4096 (Ref 40)))
unfolding opened state typing
signals_full = (refl, refl, refl)

abbrev and_then : Event → Option (State Table) → Option (State Table)
and_then e None = None
and_then e (Some s) = event table e s

-- after so many words
abbrev after_words : ℕ → State Table → Option (State Table)
after_words zero s = Some s
after_words (suc n) s = and_then (Word 1) (after_words n s)

-- without an input semaphore 256 words are taken, and the one after them isn't
many_words : (after_words 256 (state (empty_world nil)) ≡ Some (state (typing (replicate 256 1) nil []))) × (after_words 257 (state (empty_world nil)) ≡ None)
unfolding opened state typing
many_words = (refl, refl)

-- the mouse's place, and the second and the millisecond clock
unfoldable showing : ℕ → ℕ → ℕ → ℕ → World
showing x y seconds milliseconds = record (empty_world nil) { mouse_x = x; mouse_y = y; second_clock = seconds; millisecond_clock = milliseconds }

-- The mouse's numbers and the second clock are set. So is the millisecond clock where no timer is held, and it can go back.
numbers : Makes (Mouse 16383 0) (showing 1 2 3 4) (showing 16383 0 3 4)
    × Makes (Mouse 0 16383) (showing 1 2 3 4) (showing 0 16383 3 4)
    × Makes (Clock 4294967295) (showing 1 2 3 4) (showing 1 2 4294967295 4)
    × Makes (Clock 0) (showing 1 2 3 4) (showing 1 2 0 4)
    × Makes (Tick 4294967295) (showing 1 2 3 4) (showing 1 2 3 4294967295)
    × Makes (Tick 0) (showing 1 2 3 4) (showing 1 2 3 0)
unfolding opened state showing
numbers = (refl, refl, refl, refl, refl, refl)

-- the millisecond clock, the millisecond for which a timer is held, its semaphore, and the semaphores whose signals are pending
unfoldable timed : ℕ → ℕ → Value → List Value → World
timed now due semaphore pending = record (empty_world nil) {
  millisecond_clock = now;
  timer_due = due;
  devices = record (empty_world nil).devices { timer = semaphore; pending = pending };
}

-- A timer for 500 is not due at 499, is due at 500, and is due later. Once it is due, its signal is pending behind the others, and
-- it is let go.
ticks : Makes (Tick 499) (timed 3 500 (Ref 33) (Ref 40 ∷ [])) (timed 499 500 (Ref 33) (Ref 40 ∷ []))
    × Makes (Tick 500) (timed 3 500 (Ref 33) (Ref 40 ∷ [])) (timed 500 500 nil (Ref 40 ∷ Ref 33 ∷ []))
    × Makes (Tick 501) (timed 3 500 (Ref 33) []) (timed 501 500 nil (Ref 33 ∷ []))
    × Makes (Tick 4294967295) (timed 3 4294967295 (Ref 33) []) (timed 4294967295 4294967295 nil (Ref 33 ∷ []))
    × Makes (Tick 0) (timed 3 0 (Ref 33) []) (timed 0 0 nil (Ref 33 ∷ []))
unfolding opened state timed
ticks = (refl, refl, refl, refl, refl)

-- It is due by the new clock: one that goes back leaves it, though it was due by the old one. A timer that was let go rings no
-- more.
ticks_back : Makes (Tick 400) (timed 600 500 (Ref 33) []) (timed 400 500 (Ref 33) [])
    × Makes (Tick 550) (timed 600 500 (Ref 33) []) (timed 550 500 nil (Ref 33 ∷ []))
    × Makes (Tick 700) (timed 500 500 nil (Ref 33 ∷ [])) (timed 700 500 nil (Ref 33 ∷ []))
unfolding opened state timed
ticks_back = (refl, refl, refl)

-- Where 4096 signals are pending, a timer that is due has none added: clock and timer stay. One that isn't due leaves the clock
-- to be set, and so does none.
ticks_full : IsFull (Tick 500) (timed 3 500 (Ref 33) (replicate 4096 (Ref 40)))
    × Makes (Tick 499) (timed 3 500 (Ref 33) (replicate 4096 (Ref 40))) (timed 499 500 (Ref 33) (replicate 4096 (Ref 40)))
    × Makes (Tick 500) (timed 3 500 nil (replicate 4096 (Ref 40))) (timed 500 500 nil (replicate 4096 (Ref 40)))
    × Makes (Tick 500) (timed 3 500 (Ref 33) (replicate 4095 (Ref 40))) (timed 500 500 nil (replicate 4095 (Ref 40) ++ Ref 33 ∷ []))
unfolding opened state timed
ticks_full = (refl, refl, refl, refl)

-- the mouse and the second clock need no room
never_full : Makes (Mouse 5 6) (typing (replicate 256 1) (Ref 33) (replicate 4096 (Ref 40))) (record (typing (replicate 256 1) (Ref 33) (replicate 4096 (Ref 40))) { mouse_x = 5; mouse_y = 6 })
    × Makes (Clock 7) (typing (replicate 256 1) (Ref 33) (replicate 4096 (Ref 40))) (record (typing (replicate 256 1) (Ref 33) (replicate 4096 (Ref 40))) { second_clock = 7 })
unfolding opened state typing
never_full = (refl, refl)

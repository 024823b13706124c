-- Worked rows of the primitives of input and output devices and of clocks, computed from the definitions. Receiver and
-- arguments are the words on the stack; what is popped stays in its field.
use Rattle.std.proofs.Common.{◌≡◌, ℕ, List, [], ◌∷◌, None, Option, Bool, true, false, refl}
use Rattle.std.specs.Prelude.{◌+◌, pos, length, replicate}
use Rattle.st_model.specs.Values.{Value, Small, Ref}
use Rattle.st_model.specs.Objects.{Object, nil}
use Rattle.st_model.specs.Machine.{State, World, Devices, Transition, Went, empty_world}
use Rattle.st_model.specs.Table.{Table, table}
use Rattle.st_model.proofs.Opened.{opened, tries}
use Rattle.st_model.proofs.StorageRows.{pointers, words, bytes, method, large, string}

-- an object of kind Pointers
unfoldable object : List Value → Option Object
unfolding pointers
object fields = pointers 6 fields

-- nil with these fields, the place 5 of new objects, the active context 15, and from 16 on the objects of a row
unfoldable objects : List Value → Option Object → List Value → List (Option Object) → Table
unfolding object pointers
objects none new stack others =
    None ∷ object none ∷ object [] ∷ object [] ∷ object [] ∷ new ∷ object [] ∷ object [] ∷ object [] ∷ object [] ∷ object [] ∷ object [] ∷ object [] ∷ object [] ∷ object []
    ∷ object (nil ∷ nil ∷ nil ∷ nil ∷ nil ∷ nil ∷ stack) ∷ others

-- with so many words on the stack
unfoldable state : ℕ → World → Table → State Table
state depth w t = record {
  memory = t;
  registers = record { active = Ref 15; home = Ref 15; method = nil; receiver = nil; ip = pos 6; sp = 5 + depth };
  world = w;
  head = record { entries = 100; words = 1000; globals = None; symbols = None };
}

-- primitive k with n arguments in this world, where these words are the stack
unfoldable trying : ℕ → ℕ → World → List Value → List (Option Object) → Transition (State Table) Bool
unfolding state objects
trying k n w stack others = (tries table k n).run (state (length stack) w (objects [] None stack others))

-- it succeeded: one word is left, the answer
unfoldable done : World → List Value → List (Option Object) → Transition (State Table) Bool
unfolding state objects
done w stack others = Went true (state 1 w (objects [] None stack others))

-- and made this object
unfoldable made : Option Object → World → List Value → List (Option Object) → Transition (State Table) Bool
unfolding state objects
made new w stack others = Went true (state 1 w (objects [] new stack others))

-- it failed, and nothing is changed
abbrev Fails : ℕ → ℕ → World → List Value → List (Option Object) → Type 0
Fails k n w stack others = trying k n w stack others ≡ Went false (state (length stack) w (objects [] None stack others))

-- where nothing is held or waits
unfoldable quiet : World
quiet = empty_world nil

-- the mouse at this place
unfoldable mouse : ℕ → ℕ → World
unfolding quiet
mouse x y = record quiet { mouse_x = x; mouse_y = y }

-- words that wait
unfoldable awaiting : List ℕ → World
unfolding quiet
awaiting ws = record quiet { waiting = ws }

-- the second and the millisecond clock
unfoldable clocks : ℕ → ℕ → World
unfolding quiet
clocks seconds milliseconds = record quiet { second_clock = seconds; millisecond_clock = milliseconds }

-- with these devices
unfoldable with : Devices → World
unfolding quiet
with d = record quiet { devices = d }

-- the clock, the millisecond that the timer waits for, its semaphore, and the semaphores whose signals are pending
unfoldable timed : ℕ → ℕ → Value → List Value → World
unfolding quiet
timed now due s pending = record quiet { millisecond_clock = now; timer_due = due; devices = record quiet.devices { timer = s; pending = pending } }

-- a semaphore for low space, and the entries and words below which that is
unfoldable low : Value → ℕ → ℕ → World
unfolding quiet
low s entries words = record quiet { low_entries = entries; low_words = words; devices = record quiet.devices { low_space = s } }

-- three fields
unfoldable semaphore : Option Object
unfolding object pointers
semaphore = object (nil ∷ nil ∷ Small 0 ∷ [])

-- two
unfoldable short : Option Object
unfolding object pointers
short = object (nil ∷ nil ∷ [])

-- 90: a new Point of the mouse's place, for any receiver.
mouse_points : (trying 90 0 (mouse 3 16383) (Ref 16 ∷ []) (short ∷ [])
    ≡ made (pointers 13 (Small 3 ∷ Small 16383 ∷ [])) (mouse 3 16383) (Ref 5 ∷ []) (short ∷ []))
    × (trying 90 0 quiet (Small 7 ∷ []) []
    ≡ made (pointers 13 (Small 0 ∷ Small 0 ∷ [])) quiet (Ref 5 ∷ []) [])
    × Fails 90 1 quiet (Small 7 ∷ nil ∷ []) []
unfolding opened trying done made state objects quiet mouse awaiting clocks with timed low semaphore short object words method large string bytes pointers
mouse_points = (refl, refl, refl)

-- 91: the mouse is moved to fields 0 and 1 of any object of kind Pointers that holds SmallIntegers from 0 there.
mouse_moved : (trying 91 1 (mouse 3 4) (Small 7 ∷ Ref 16 ∷ []) (object (Small 0 ∷ Small 16383 ∷ []) ∷ [])
    ≡ done (mouse 0 16383) (Small 7 ∷ Ref 16 ∷ []) (object (Small 0 ∷ Small 16383 ∷ []) ∷ []))
    × (trying 91 1 quiet (nil ∷ Ref 16 ∷ []) (object (Small 16383 ∷ Small 0 ∷ nil ∷ []) ∷ [])
    ≡ done (mouse 16383 0) (nil ∷ Ref 16 ∷ []) (object (Small 16383 ∷ Small 0 ∷ nil ∷ []) ∷ []))
    × Fails 91 1 quiet (nil ∷ Ref 16 ∷ []) (object (Small 16384 ∷ Small 0 ∷ []) ∷ [])
    × Fails 91 1 quiet (nil ∷ Ref 16 ∷ []) (object (Small 0 ∷ Small 32767 ∷ []) ∷ [])
    × Fails 91 1 quiet (nil ∷ Ref 16 ∷ []) (object (nil ∷ Small 0 ∷ []) ∷ [])
    × Fails 91 1 quiet (nil ∷ Ref 16 ∷ []) (object (Small 0 ∷ nil ∷ []) ∷ [])
    × Fails 91 1 quiet (nil ∷ Ref 16 ∷ []) (object (Small 0 ∷ []) ∷ [])
    × Fails 91 1 quiet (nil ∷ Ref 16 ∷ []) (string (1 ∷ 2 ∷ []) ∷ [])
    × Fails 91 1 quiet (nil ∷ Small 5 ∷ []) []
    × Fails 91 0 quiet (Ref 16 ∷ []) (object (Small 1 ∷ Small 2 ∷ []) ∷ [])
unfolding opened trying done made state objects quiet mouse awaiting clocks with timed low semaphore short object words method large string bytes pointers
mouse_moved = (refl, refl, refl, refl, refl, refl, refl, refl, refl, refl)

-- 92: true or false.
cursor_linked : (trying 92 1 quiet (Small 7 ∷ Ref 3 ∷ []) []
    ≡ done quiet (Small 7 ∷ Ref 3 ∷ []) [])
    × (trying 92 1 quiet (Small 7 ∷ Ref 2 ∷ []) []
    ≡ done quiet (Small 7 ∷ Ref 2 ∷ []) [])
    × Fails 92 1 quiet (Small 7 ∷ nil ∷ []) []
    × Fails 92 1 quiet (Small 7 ∷ Small 3 ∷ []) []
    × Fails 92 0 quiet (Ref 3 ∷ []) []
unfolding opened trying done made state objects quiet mouse awaiting clocks with timed low semaphore short object words method large string bytes pointers
cursor_linked = (refl, refl, refl, refl, refl)

-- 93: a semaphore is held, in place of another one.
input_semaphores : (trying 93 1 quiet (Small 7 ∷ Ref 16 ∷ []) (semaphore ∷ [])
    ≡ done (with (record quiet.devices { input_semaphore = Ref 16 })) (Small 7 ∷ Ref 16 ∷ []) (semaphore ∷ []))
    × (trying 93 1 (with (record quiet.devices { input_semaphore = Ref 17 })) (Small 7 ∷ Ref 16 ∷ []) (semaphore ∷ semaphore ∷ [])
    ≡ done (with (record quiet.devices { input_semaphore = Ref 16 })) (Small 7 ∷ Ref 16 ∷ []) (semaphore ∷ semaphore ∷ []))
    × Fails 93 1 quiet (Small 7 ∷ Ref 16 ∷ []) (short ∷ [])
    × Fails 93 1 quiet (Small 7 ∷ Ref 16 ∷ []) (string (1 ∷ 2 ∷ 3 ∷ []) ∷ [])
    × Fails 93 1 quiet (Small 7 ∷ nil ∷ []) []
    × Fails 93 1 quiet (Small 7 ∷ Small 3 ∷ []) []
    × Fails 93 0 quiet (Ref 16 ∷ []) (semaphore ∷ [])
unfolding opened trying done made state objects quiet mouse awaiting clocks with timed low semaphore short object words method large string bytes pointers
input_semaphores = (refl, refl, refl, refl, refl, refl, refl)

-- 94: any SmallInteger.
sample_intervals : (trying 94 1 quiet (nil ∷ Small 0 ∷ []) []
    ≡ done quiet (nil ∷ Small 0 ∷ []) [])
    × (trying 94 1 quiet (nil ∷ Small 32767 ∷ []) []
    ≡ done quiet (nil ∷ Small 32767 ∷ []) [])
    × Fails 94 1 quiet (nil ∷ nil ∷ []) []
    × Fails 94 0 quiet (Small 5 ∷ []) []
unfolding opened trying done made state objects quiet mouse awaiting clocks with timed low semaphore short object words method large string bytes pointers
sample_intervals = (refl, refl, refl, refl)

-- 95: the oldest word that waits, above 16383 as a new number.
input_words : (trying 95 0 (awaiting (5 ∷ 9 ∷ [])) (nil ∷ []) []
    ≡ done (awaiting (9 ∷ [])) (Small 5 ∷ []) [])
    × (trying 95 0 (awaiting (0 ∷ [])) (nil ∷ []) []
    ≡ done quiet (Small 0 ∷ []) [])
    × (trying 95 0 (awaiting (16383 ∷ [])) (nil ∷ []) []
    ≡ done quiet (Small 16383 ∷ []) [])
    × (trying 95 0 (awaiting (16384 ∷ 7 ∷ [])) (nil ∷ []) []
    ≡ made (large (0 ∷ 64 ∷ [])) (awaiting (7 ∷ [])) (Ref 5 ∷ []) [])
    × (trying 95 0 (awaiting (65535 ∷ [])) (nil ∷ []) []
    ≡ made (large (255 ∷ 255 ∷ [])) quiet (Ref 5 ∷ []) [])
    × Fails 95 0 quiet (nil ∷ []) []
    × Fails 95 1 (awaiting (5 ∷ [])) (nil ∷ nil ∷ []) []
unfolding opened trying done made state objects quiet mouse awaiting clocks with timed low semaphore short object words method large string bytes pointers
input_words = (refl, refl, refl, refl, refl, refl, refl)

-- 98 and 99: the first four bytes of an object of kind Bytes become the second or the millisecond clock, the low byte first.
abbrev FillsBy : ℕ → (ℕ → World) → Type 0
FillsBy k clock = (trying k 1 (clock 16909060) (nil ∷ Ref 16 ∷ []) (string (9 ∷ 9 ∷ 9 ∷ 9 ∷ []) ∷ [])
    ≡ done (clock 16909060) (nil ∷ Ref 16 ∷ []) (string (4 ∷ 3 ∷ 2 ∷ 1 ∷ []) ∷ []))
    × (trying k 1 (clock 4294967295) (nil ∷ Ref 16 ∷ []) (large (9 ∷ 9 ∷ 9 ∷ 9 ∷ 9 ∷ []) ∷ [])
    ≡ done (clock 4294967295) (nil ∷ Ref 16 ∷ []) (large (255 ∷ 255 ∷ 255 ∷ 255 ∷ 9 ∷ []) ∷ []))
    × (trying k 1 (clock 0) (Ref 16 ∷ Ref 16 ∷ []) (string (9 ∷ 9 ∷ 9 ∷ 9 ∷ []) ∷ [])
    ≡ done (clock 0) (Ref 16 ∷ Ref 16 ∷ []) (string (0 ∷ 0 ∷ 0 ∷ 0 ∷ []) ∷ []))
    × Fails k 1 (clock 16909060) (nil ∷ Ref 16 ∷ []) (string (9 ∷ 9 ∷ 9 ∷ []) ∷ [])
    × Fails k 1 (clock 16909060) (nil ∷ Ref 16 ∷ []) (words (9 ∷ 9 ∷ 9 ∷ 9 ∷ []) ∷ [])
    × Fails k 1 (clock 16909060) (nil ∷ Ref 16 ∷ []) (method (Small 0 ∷ []) (9 ∷ 9 ∷ 9 ∷ 9 ∷ []) ∷ [])
    × Fails k 1 (clock 16909060) (nil ∷ Ref 16 ∷ []) (object (nil ∷ nil ∷ nil ∷ nil ∷ []) ∷ [])
    × Fails k 1 (clock 16909060) (nil ∷ Small 4 ∷ []) []
    × Fails k 0 (clock 16909060) (Ref 16 ∷ []) (string (9 ∷ 9 ∷ 9 ∷ 9 ∷ []) ∷ [])

clock_bytes : FillsBy 98 (λ n. clocks n 7) × FillsBy 99 (clocks 7)
unfolding opened trying done made state objects quiet mouse awaiting clocks with timed low semaphore short object words method large string bytes pointers
clock_bytes = ((refl, refl, refl, refl, refl, refl, refl, refl, refl), (refl, refl, refl, refl, refl, refl, refl, refl, refl))

-- 100: due where the clock is at least the time: the signal is pending behind the others, and the timer is let go.
timer_due : (trying 100 2 (timed 5 8 nil []) (nil ∷ Ref 16 ∷ Ref 17 ∷ []) (semaphore ∷ string (5 ∷ 0 ∷ 0 ∷ 0 ∷ []) ∷ [])
    ≡ done (timed 5 8 nil (Ref 16 ∷ [])) (nil ∷ Ref 16 ∷ Ref 17 ∷ []) (semaphore ∷ string (5 ∷ 0 ∷ 0 ∷ 0 ∷ []) ∷ []))
    × (trying 100 2 (timed 6 8 (Ref 18) (Ref 18 ∷ [])) (nil ∷ Ref 16 ∷ Ref 17 ∷ []) (semaphore ∷ string (5 ∷ 0 ∷ 0 ∷ 0 ∷ []) ∷ semaphore ∷ [])
    ≡ done (timed 6 8 nil (Ref 18 ∷ Ref 16 ∷ [])) (nil ∷ Ref 16 ∷ Ref 17 ∷ []) (semaphore ∷ string (5 ∷ 0 ∷ 0 ∷ 0 ∷ []) ∷ semaphore ∷ []))
    × (trying 100 2 (timed 0 8 (Ref 16) []) (nil ∷ Ref 16 ∷ Ref 17 ∷ []) (semaphore ∷ string (0 ∷ 0 ∷ 0 ∷ 0 ∷ []) ∷ [])
    ≡ done (timed 0 8 nil (Ref 16 ∷ [])) (nil ∷ Ref 16 ∷ Ref 17 ∷ []) (semaphore ∷ string (0 ∷ 0 ∷ 0 ∷ 0 ∷ []) ∷ []))
unfolding opened trying done made state objects quiet mouse awaiting clocks with timed low semaphore short object words method large string bytes pointers
timer_due = (refl, refl, refl)

-- Not due: the timer waits for the time, whatever it waited for; a fifth byte is not looked at.
timer_waits : (trying 100 2 (timed 4 8 nil []) (nil ∷ Ref 16 ∷ Ref 17 ∷ []) (semaphore ∷ string (5 ∷ 0 ∷ 0 ∷ 0 ∷ []) ∷ [])
    ≡ done (timed 4 5 (Ref 16) []) (nil ∷ Ref 16 ∷ Ref 17 ∷ []) (semaphore ∷ string (5 ∷ 0 ∷ 0 ∷ 0 ∷ []) ∷ []))
    × (trying 100 2 (timed 4 8 (Ref 18) (Ref 18 ∷ [])) (nil ∷ Ref 16 ∷ Ref 17 ∷ []) (semaphore ∷ string (5 ∷ 0 ∷ 0 ∷ 0 ∷ []) ∷ semaphore ∷ [])
    ≡ done (timed 4 5 (Ref 16) (Ref 18 ∷ [])) (nil ∷ Ref 16 ∷ Ref 17 ∷ []) (semaphore ∷ string (5 ∷ 0 ∷ 0 ∷ 0 ∷ []) ∷ semaphore ∷ []))
    × (trying 100 2 (timed 4 8 nil []) (nil ∷ Ref 16 ∷ Ref 17 ∷ []) (semaphore ∷ string (4 ∷ 3 ∷ 2 ∷ 1 ∷ 9 ∷ []) ∷ [])
    ≡ done (timed 4 16909060 (Ref 16) []) (nil ∷ Ref 16 ∷ Ref 17 ∷ []) (semaphore ∷ string (4 ∷ 3 ∷ 2 ∷ 1 ∷ 9 ∷ []) ∷ []))
    × (trying 100 2 (timed 4294967294 8 nil []) (nil ∷ Ref 16 ∷ Ref 17 ∷ []) (semaphore ∷ large (255 ∷ 255 ∷ 255 ∷ 255 ∷ []) ∷ [])
    ≡ done (timed 4294967294 4294967295 (Ref 16) []) (nil ∷ Ref 16 ∷ Ref 17 ∷ []) (semaphore ∷ large (255 ∷ 255 ∷ 255 ∷ 255 ∷ []) ∷ []))
unfolding opened trying done made state objects quiet mouse awaiting clocks with timed low semaphore short object words method large string bytes pointers
timer_waits = (refl, refl, refl, refl)

-- What can be no semaphore lets the timer go, due or not.
timer_let_go : (trying 100 2 (timed 5 8 (Ref 18) []) (nil ∷ Ref 16 ∷ Ref 17 ∷ []) (short ∷ string (5 ∷ 0 ∷ 0 ∷ 0 ∷ []) ∷ semaphore ∷ [])
    ≡ done (timed 5 8 nil []) (nil ∷ Ref 16 ∷ Ref 17 ∷ []) (short ∷ string (5 ∷ 0 ∷ 0 ∷ 0 ∷ []) ∷ semaphore ∷ []))
    × (trying 100 2 (timed 4 8 (Ref 18) []) (nil ∷ Ref 16 ∷ Ref 17 ∷ []) (string (1 ∷ 2 ∷ 3 ∷ []) ∷ string (5 ∷ 0 ∷ 0 ∷ 0 ∷ []) ∷ semaphore ∷ [])
    ≡ done (timed 4 8 nil []) (nil ∷ Ref 16 ∷ Ref 17 ∷ []) (string (1 ∷ 2 ∷ 3 ∷ []) ∷ string (5 ∷ 0 ∷ 0 ∷ 0 ∷ []) ∷ semaphore ∷ []))
    × (trying 100 2 (timed 5 8 (Ref 18) []) (nil ∷ Small 3 ∷ Ref 17 ∷ []) (short ∷ string (5 ∷ 0 ∷ 0 ∷ 0 ∷ []) ∷ semaphore ∷ [])
    ≡ done (timed 5 8 nil []) (nil ∷ Small 3 ∷ Ref 17 ∷ []) (short ∷ string (5 ∷ 0 ∷ 0 ∷ 0 ∷ []) ∷ semaphore ∷ []))
    × (trying 100 2 (timed 5 8 (Ref 18) []) (nil ∷ nil ∷ Ref 17 ∷ []) (short ∷ string (5 ∷ 0 ∷ 0 ∷ 0 ∷ []) ∷ semaphore ∷ [])
    ≡ done (timed 5 8 nil []) (nil ∷ nil ∷ Ref 17 ∷ []) (short ∷ string (5 ∷ 0 ∷ 0 ∷ 0 ∷ []) ∷ semaphore ∷ []))
unfolding opened trying done made state objects quiet mouse awaiting clocks with timed low semaphore short object words method large string bytes pointers
timer_let_go = (refl, refl, refl, refl)

-- The time needs four bytes in an object of kind Bytes.
timer_refused : Fails 100 2 (timed 5 8 (Ref 16) []) (nil ∷ Ref 16 ∷ Ref 17 ∷ []) (semaphore ∷ string (5 ∷ 0 ∷ 0 ∷ []) ∷ [])
    × Fails 100 2 (timed 5 8 (Ref 16) []) (nil ∷ Ref 16 ∷ Ref 17 ∷ []) (semaphore ∷ words (5 ∷ 0 ∷ 0 ∷ 0 ∷ []) ∷ [])
    × Fails 100 2 (timed 5 8 (Ref 16) []) (nil ∷ Ref 16 ∷ Ref 17 ∷ []) (semaphore ∷ method (Small 0 ∷ []) (5 ∷ 0 ∷ 0 ∷ 0 ∷ []) ∷ [])
    × Fails 100 2 (timed 5 8 (Ref 16) []) (nil ∷ Ref 16 ∷ Small 5 ∷ []) (semaphore ∷ [])
    × Fails 100 2 (timed 5 8 (Ref 16) []) (nil ∷ Small 3 ∷ Small 5 ∷ []) (semaphore ∷ [])
    × Fails 100 1 (timed 5 8 nil []) (nil ∷ Ref 16 ∷ []) (semaphore ∷ [])
unfolding opened trying done made state objects quiet mouse awaiting clocks with timed low semaphore short object words method large string bytes pointers
timer_refused = (refl, refl, refl, refl, refl, refl)

-- Where 4096 signals are pending, none is added; one that isn't due waits, and the timer can be let go.
pending_full : Fails 100 2 (timed 5 8 nil (replicate 4096 (Ref 16))) (nil ∷ Ref 16 ∷ Ref 17 ∷ []) (semaphore ∷ string (5 ∷ 0 ∷ 0 ∷ 0 ∷ []) ∷ [])
    × (trying 100 2 (timed 4 8 nil (replicate 4096 (Ref 16))) (nil ∷ Ref 16 ∷ Ref 17 ∷ []) (semaphore ∷ string (5 ∷ 0 ∷ 0 ∷ 0 ∷ []) ∷ [])
    ≡ done (timed 4 5 (Ref 16) (replicate 4096 (Ref 16))) (nil ∷ Ref 16 ∷ Ref 17 ∷ []) (semaphore ∷ string (5 ∷ 0 ∷ 0 ∷ 0 ∷ []) ∷ []))
    × (trying 100 2 (timed 5 8 (Ref 16) (replicate 4096 (Ref 16))) (nil ∷ Ref 16 ∷ Ref 17 ∷ []) (short ∷ string (5 ∷ 0 ∷ 0 ∷ 0 ∷ []) ∷ [])
    ≡ done (timed 5 8 nil (replicate 4096 (Ref 16))) (nil ∷ Ref 16 ∷ Ref 17 ∷ []) (short ∷ string (5 ∷ 0 ∷ 0 ∷ 0 ∷ []) ∷ []))
unfolding opened trying done made state objects quiet mouse awaiting clocks with timed low semaphore short object words method large string bytes pointers
pending_full = (refl, refl, refl)

-- 101 and 102: r is the cursor, or the display; it needs three fields.
forms_held : (trying 101 0 quiet (Ref 16 ∷ []) (semaphore ∷ [])
    ≡ done (with (record quiet.devices { cursor = Ref 16 })) (Ref 16 ∷ []) (semaphore ∷ []))
    × (trying 101 0 (with (record quiet.devices { cursor = Ref 17; display = Ref 17 })) (Ref 16 ∷ []) (semaphore ∷ semaphore ∷ [])
    ≡ done (with (record quiet.devices { cursor = Ref 16; display = Ref 17 })) (Ref 16 ∷ []) (semaphore ∷ semaphore ∷ []))
    × Fails 101 0 quiet (Ref 16 ∷ []) (short ∷ [])
    × Fails 101 0 quiet (Ref 16 ∷ []) (words (1 ∷ 2 ∷ 3 ∷ []) ∷ [])
    × Fails 101 0 quiet (Small 3 ∷ []) []
    × Fails 101 1 quiet (Ref 16 ∷ nil ∷ []) (semaphore ∷ [])
    × (trying 102 0 quiet (Ref 16 ∷ []) (semaphore ∷ [])
    ≡ done (with (record quiet.devices { display = Ref 16 })) (Ref 16 ∷ []) (semaphore ∷ []))
    × (trying 102 0 (with (record quiet.devices { cursor = Ref 17; display = Ref 17 })) (Ref 16 ∷ []) (semaphore ∷ semaphore ∷ [])
    ≡ done (with (record quiet.devices { cursor = Ref 17; display = Ref 16 })) (Ref 16 ∷ []) (semaphore ∷ semaphore ∷ []))
    × Fails 102 0 quiet (Ref 16 ∷ []) (short ∷ [])
    × Fails 102 0 quiet (Ref 16 ∷ []) (words (1 ∷ 2 ∷ 3 ∷ []) ∷ [])
    × Fails 102 0 quiet (Small 3 ∷ []) []
    × Fails 102 1 quiet (Ref 16 ∷ nil ∷ []) (semaphore ∷ [])
unfolding opened trying done made state objects quiet mouse awaiting clocks with timed low semaphore short object words method large string bytes pointers
forms_held = (refl, refl, refl, refl, refl, refl, refl, refl, refl, refl, refl, refl)

-- 116: a is signalled below b entries or c words, SmallIntegers from 0 or LargePositiveIntegers of at most four bytes.
low_spaces : (trying 116 3 quiet (nil ∷ Ref 16 ∷ Small 0 ∷ Small 16383 ∷ []) (semaphore ∷ [])
    ≡ done (low (Ref 16) 0 16383) (nil ∷ Ref 16 ∷ Small 0 ∷ Small 16383 ∷ []) (semaphore ∷ []))
    × (trying 116 3 (low (Ref 17) 1 2) (nil ∷ Ref 16 ∷ Ref 18 ∷ Ref 19 ∷ []) (semaphore ∷ semaphore ∷ large (0 ∷ 64 ∷ []) ∷ large (255 ∷ 255 ∷ 255 ∷ 255 ∷ []) ∷ [])
    ≡ done (low (Ref 16) 16384 4294967295) (nil ∷ Ref 16 ∷ Ref 18 ∷ Ref 19 ∷ []) (semaphore ∷ semaphore ∷ large (0 ∷ 64 ∷ []) ∷ large (255 ∷ 255 ∷ 255 ∷ 255 ∷ []) ∷ []))
    × Fails 116 3 quiet (nil ∷ Ref 16 ∷ Small 1 ∷ Small 2 ∷ []) (short ∷ [])
    × Fails 116 3 quiet (nil ∷ Small 3 ∷ Small 1 ∷ Small 2 ∷ []) []
    × Fails 116 3 quiet (nil ∷ Ref 16 ∷ Small 32767 ∷ Small 2 ∷ []) (semaphore ∷ [])
    × Fails 116 3 quiet (nil ∷ Ref 16 ∷ Small 1 ∷ Small 16384 ∷ []) (semaphore ∷ [])
    × Fails 116 3 quiet (nil ∷ Ref 16 ∷ nil ∷ Small 2 ∷ []) (semaphore ∷ [])
    × Fails 116 3 quiet (nil ∷ Ref 16 ∷ Small 1 ∷ Ref 17 ∷ []) (semaphore ∷ large (0 ∷ 0 ∷ 0 ∷ 0 ∷ 0 ∷ []) ∷ [])
    × Fails 116 3 quiet (nil ∷ Ref 16 ∷ Small 1 ∷ Ref 17 ∷ []) (semaphore ∷ string (5 ∷ []) ∷ [])
    × Fails 116 2 quiet (nil ∷ Ref 16 ∷ Small 1 ∷ []) (semaphore ∷ [])
unfolding opened trying done made state objects quiet mouse awaiting clocks with timed low semaphore short object words method large string bytes pointers
low_spaces = (refl, refl, refl, refl, refl, refl, refl, refl, refl, refl)

-- in this world, where nil has three fields
unfoldable trying_nil : ℕ → ℕ → World → List Value → List (Option Object) → Transition (State Table) Bool
unfolding state objects
trying_nil k n w stack others = (tries table k n).run (state (length stack) w (objects (nil ∷ nil ∷ Small 0 ∷ []) None stack others))

unfoldable done_nil : World → List Value → List (Option Object) → Transition (State Table) Bool
unfolding state objects
done_nil w stack others = Went true (state 1 w (objects (nil ∷ nil ∷ Small 0 ∷ []) None stack others))

-- nil is taken like another object; then nothing is held. Its signal can be pending.
nil_held : (trying_nil 93 1 (with (record quiet.devices { input_semaphore = Ref 16 })) (Small 7 ∷ nil ∷ []) (semaphore ∷ [])
    ≡ done_nil quiet (Small 7 ∷ nil ∷ []) (semaphore ∷ []))
    × (trying_nil 100 2 (timed 5 8 (Ref 17) []) (Small 7 ∷ nil ∷ Ref 16 ∷ []) (string (5 ∷ 0 ∷ 0 ∷ 0 ∷ []) ∷ semaphore ∷ [])
    ≡ done_nil (timed 5 8 nil (nil ∷ [])) (Small 7 ∷ nil ∷ Ref 16 ∷ []) (string (5 ∷ 0 ∷ 0 ∷ 0 ∷ []) ∷ semaphore ∷ []))
    × (trying_nil 100 2 (timed 4 8 (Ref 17) []) (Small 7 ∷ nil ∷ Ref 16 ∷ []) (string (5 ∷ 0 ∷ 0 ∷ 0 ∷ []) ∷ semaphore ∷ [])
    ≡ done_nil (timed 4 5 nil []) (Small 7 ∷ nil ∷ Ref 16 ∷ []) (string (5 ∷ 0 ∷ 0 ∷ 0 ∷ []) ∷ semaphore ∷ []))
    × (trying_nil 101 0 (with (record quiet.devices { cursor = Ref 16 })) (nil ∷ []) (semaphore ∷ [])
    ≡ done_nil quiet (nil ∷ []) (semaphore ∷ []))
    × (trying_nil 102 0 (with (record quiet.devices { display = Ref 16 })) (nil ∷ []) (semaphore ∷ [])
    ≡ done_nil quiet (nil ∷ []) (semaphore ∷ []))
    × (trying_nil 116 3 (low (Ref 16) 1 2) (nil ∷ nil ∷ Small 3 ∷ Small 4 ∷ []) (semaphore ∷ [])
    ≡ done_nil (low nil 3 4) (nil ∷ nil ∷ Small 3 ∷ Small 4 ∷ []) (semaphore ∷ []))
unfolding opened trying done made state objects quiet mouse awaiting clocks with timed low semaphore short object words method large string bytes pointers trying_nil done_nil
nil_held = (refl, refl, refl, refl, refl, refl)

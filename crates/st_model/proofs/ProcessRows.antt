-- Worked rows of processes and semaphores, computed from the definitions. Two lists of ready processes are there, of
-- priority 1 and of priority 2, a semaphore, and three processes, of which the scheduler names the first as the active one.
use Rattle.std.proofs.Common.{◌≡◌, ℕ, List, [], ◌∷◌, Some, None, Option, Bool, true, false, refl}
use Rattle.std.specs.Prelude.{◌+◌, pos, length}
use Rattle.st_model.specs.declared.kind.Kind.TheVariants as kind
use Rattle.st_model.specs.declared.dead.Dead.TheVariants as dead
use Rattle.st_model.specs.Values.{Value, Small, Ref}
use Rattle.st_model.specs.Objects.{Object, nil}
use Rattle.st_model.specs.Machine.{State, Registers, World, Transition, Died, Went, empty_world}
use Rattle.st_model.specs.Table.{Table, table}
use Rattle.st_model.specs.Processes.{add_last, take_first, sleep, resume, signal, suspend, switch_to_process}
use Rattle.st_model.proofs.Opened.{opened, tries}

-- an object of kind Pointers
unfoldable object : List Value → Option Object
object fields = Some (record { class = 6; kind = kind.Pointers; fields = fields; units = [] })

unfoldable bytes : List ℕ → Option Object
bytes us = Some (record { class = 7; kind = kind.Bytes; fields = []; units = us })

-- the list's first and last process
unfoldable list_of : Value → Value → Option Object
unfolding object
list_of first last = object (first ∷ last ∷ [])

unfoldable semaphore : Value → Value → Value → Option Object
unfolding object
semaphore first last excess = object (first ∷ last ∷ excess ∷ [])

-- a process without a context: the one behind it, its priority, and the list that it is in
unfoldable process : Value → Value → Value → Option Object
unfolding object
process next priority list = object (next ∷ nil ∷ priority ∷ list ∷ [])

-- the lists 7 and 8, the semaphore 9, the processes 10, 11 and 12, and the stack of the active context 13
unfoldable objects : Option Object → Option Object → Option Object → Option Object → Option Object → Option Object → List Value → Table
unfolding object
objects low high s a b c stack =
    None ∷ object [] ∷ object [] ∷ object [] ∷ object (nil ∷ Ref 5 ∷ []) ∷ object (Ref 6 ∷ Ref 10 ∷ []) ∷ object (Ref 7 ∷ Ref 8 ∷ [])
    ∷ low ∷ high ∷ s ∷ a ∷ b ∷ c ∷ object (nil ∷ nil ∷ nil ∷ nil ∷ nil ∷ nil ∷ stack) ∷ []

-- the world in which this process waits to be switched to
unfoldable waits : Value → World
waits p = record (empty_world nil) { devices = record (empty_world nil).devices { new_process = p } }

-- with so many words on the stack
unfoldable deep : ℕ → Value → Table → State Table
unfolding waits
deep depth p t = record {
  memory = t;
  registers = record { active = Ref 13; home = Ref 13; method = nil; receiver = nil; ip = pos 6; sp = 5 + depth };
  world = waits p;
  head = record { entries = 100; words = 1000; globals = None; symbols = None };
}

-- and with none
unfoldable state : Value → Table → State Table
unfolding deep
state p t = deep 0 p t

-- what is in no list
unfoldable alone : ℕ → Option Object
unfolding process object
alone priority = process nil (Small priority) nil

unfoldable empty : Option Object
unfolding list_of object
empty = list_of nil nil

-- no signal in excess, and none that waits
unfoldable idle : Option Object
unfolding semaphore object
idle = semaphore nil nil (Small 0)

-- A process goes behind the last one: into a list that is empty, into one with a process, and into one with two.
added : ((add_last table (Ref 11) (Ref 7)).run (state nil (objects empty empty idle (alone 1) (alone 1) (alone 1) []))
    ≡ Went tt (state nil (objects (list_of (Ref 11) (Ref 11)) empty idle (alone 1) (process nil (Small 1) (Ref 7)) (alone 1) [])))
    × ((add_last table (Ref 12) (Ref 7)).run (state nil (objects (list_of (Ref 11) (Ref 11)) empty idle (alone 1) (process nil (Small 1) (Ref 7)) (alone 1) []))
    ≡ Went tt (state nil (objects (list_of (Ref 11) (Ref 12)) empty idle (alone 1) (process (Ref 12) (Small 1) (Ref 7)) (process nil (Small 1) (Ref 7)) [])))
    × ((add_last table (Ref 10) (Ref 7)).run (state nil (objects (list_of (Ref 11) (Ref 12)) empty idle (alone 1) (process (Ref 12) (Small 1) (Ref 7)) (process nil (Small 1) (Ref 7)) []))
    ≡ Went tt (state nil (objects (list_of (Ref 11) (Ref 10)) empty idle (process nil (Small 1) (Ref 7)) (process (Ref 12) (Small 1) (Ref 7)) (process (Ref 10) (Small 1) (Ref 7)) [])))
unfolding opened state deep waits objects alone empty idle list_of semaphore process object bytes
added = (refl, refl, refl)

-- What goes into a list needs a field 3; a list needs two fields, is of kind Pointers, and has a last one where it has a
-- first.
not_added : ((add_last table (Ref 9) (Ref 7)).run (state nil (objects empty empty idle (alone 1) (alone 1) (alone 1) []))
    ≡ Died dead.Field)
    × ((add_last table (Ref 11) (Ref 1)).run (state nil (objects empty empty idle (alone 1) (alone 1) (alone 1) []))
    ≡ Died dead.Field)
    × ((add_last table (Ref 11) (Small 7)).run (state nil (objects empty empty idle (alone 1) (alone 1) (alone 1) []))
    ≡ Died dead.Small)
    × ((add_last table (Ref 11) (Ref 7)).run (state nil (objects (bytes []) empty idle (alone 1) (alone 1) (alone 1) []))
    ≡ Died dead.Kind)
    × ((add_last table (Ref 11) (Ref 7)).run (state nil (objects (list_of (Ref 12) nil) empty idle (alone 1) (alone 1) (alone 1) []))
    ≡ Died dead.Field)
    × ((add_last table (Small 5) (Ref 7)).run (state nil (objects empty empty idle (alone 1) (alone 1) (alone 1) []))
    ≡ Died dead.Small)
unfolding opened state deep waits objects alone empty idle list_of semaphore process object bytes
not_added = (refl, refl, refl, refl, refl, refl)

-- The first of one, of two and of three; the list that it was in stays in its field 3.
taken : ((take_first table (Ref 7)).run (state nil (objects (list_of (Ref 11) (Ref 11)) empty idle (alone 1) (process nil (Small 1) (Ref 7)) (alone 1) []))
    ≡ Went (Ref 11) (state nil (objects empty empty idle (alone 1) (process nil (Small 1) (Ref 7)) (alone 1) [])))
    × ((take_first table (Ref 7)).run (state nil (objects (list_of (Ref 11) (Ref 12)) empty idle (alone 1) (process (Ref 12) (Small 1) (Ref 7)) (process nil (Small 1) (Ref 7)) []))
    ≡ Went (Ref 11) (state nil (objects (list_of (Ref 12) (Ref 12)) empty idle (alone 1) (process nil (Small 1) (Ref 7)) (process nil (Small 1) (Ref 7)) [])))
    × ((take_first table (Ref 7)).run (state nil (objects (list_of (Ref 12) (Ref 10)) empty idle (process nil (Small 1) (Ref 7)) (process (Ref 10) (Small 1) (Ref 7)) (process (Ref 11) (Small 1) (Ref 7)) []))
    ≡ Went (Ref 12) (state nil (objects (list_of (Ref 11) (Ref 10)) empty idle (process nil (Small 1) (Ref 7)) (process (Ref 10) (Small 1) (Ref 7)) (process nil (Small 1) (Ref 7)) [])))
unfolding opened state deep waits objects alone empty idle list_of semaphore process object bytes
taken = (refl, refl, refl)

-- A list that runs in a circle: its first one stays the first, since that is behind itself, and is left without any behind
-- it.
circle : ((take_first table (Ref 7)).run (state nil (objects (list_of (Ref 11) (Ref 12)) empty idle (alone 1) (process (Ref 11) (Small 1) (Ref 7)) (alone 1) []))
    ≡ Went (Ref 11) (state nil (objects (list_of (Ref 11) (Ref 12)) empty idle (alone 1) (process nil (Small 1) (Ref 7)) (alone 1) [])))
    × ((take_first table (Ref 7)).run (state nil (objects (list_of (Ref 11) (Ref 12)) empty idle (alone 1) (process nil (Small 1) (Ref 7)) (alone 1) []))
    ≡ Went (Ref 11) (state nil (objects (list_of nil (Ref 12)) empty idle (alone 1) (process nil (Small 1) (Ref 7)) (alone 1) [])))
    × ((take_first table (Ref 7)).run (state nil (objects (list_of (Ref 11) (Ref 10)) empty idle (process (Ref 11) (Small 1) (Ref 7)) (process (Ref 12) (Small 1) (Ref 7)) (process (Ref 10) (Small 1) (Ref 7)) []))
    ≡ Went (Ref 11) (state nil (objects (list_of (Ref 12) (Ref 10)) empty idle (process (Ref 11) (Small 1) (Ref 7)) (process nil (Small 1) (Ref 7)) (process (Ref 10) (Small 1) (Ref 7)) [])))
unfolding opened state deep waits objects alone empty idle list_of semaphore process object bytes
circle = (refl, refl, refl)

-- A process of priority 1 or 2 sleeps in its list, behind what is there.
asleep : ((sleep table (Ref 11)).run (state nil (objects empty empty idle (alone 1) (alone 1) (alone 1) []))
    ≡ Went tt (state nil (objects (list_of (Ref 11) (Ref 11)) empty idle (alone 1) (process nil (Small 1) (Ref 7)) (alone 1) [])))
    × ((sleep table (Ref 11)).run (state nil (objects empty empty idle (alone 1) (alone 2) (alone 1) []))
    ≡ Went tt (state nil (objects empty (list_of (Ref 11) (Ref 11)) idle (alone 1) (process nil (Small 2) (Ref 8)) (alone 1) [])))
    × ((sleep table (Ref 12)).run (state nil (objects empty (list_of (Ref 11) (Ref 11)) idle (alone 1) (process nil (Small 2) (Ref 8)) (alone 2) []))
    ≡ Went tt (state nil (objects empty (list_of (Ref 11) (Ref 12)) idle (alone 1) (process (Ref 12) (Small 2) (Ref 8)) (process nil (Small 2) (Ref 8)) [])))
unfolding opened state deep waits objects alone empty idle list_of semaphore process object bytes
asleep = (refl, refl, refl)

-- There is no list of priority 0, 3, the least or the greatest, and none of what is no SmallInteger.
not_asleep : ((sleep table (Ref 11)).run (state nil (objects empty empty idle (alone 1) (alone 0) (alone 1) []))
    ≡ Died dead.Field)
    × ((sleep table (Ref 11)).run (state nil (objects empty empty idle (alone 1) (alone 3) (alone 1) []))
    ≡ Died dead.Field)
    × ((sleep table (Ref 11)).run (state nil (objects empty empty idle (alone 1) (alone 16384) (alone 1) []))
    ≡ Died dead.Field)
    × ((sleep table (Ref 11)).run (state nil (objects empty empty idle (alone 1) (alone 32767) (alone 1) []))
    ≡ Died dead.Field)
    × ((sleep table (Ref 11)).run (state nil (objects empty empty idle (alone 1) (alone 16383) (alone 1) []))
    ≡ Died dead.Field)
    × ((sleep table (Ref 11)).run (state nil (objects empty empty idle (alone 1) (process nil nil nil) (alone 1) []))
    ≡ Died dead.NotSmall)
    × ((sleep table nil).run (state nil (objects empty empty idle (alone 1) (alone 1) (alone 1) []))
    ≡ Died dead.Field)
unfolding opened state deep waits objects alone empty idle list_of semaphore process object bytes
not_asleep = (refl, refl, refl, refl, refl, refl, refl)

-- One of a greater priority goes on, and the active one sleeps; one of the same or of a smaller priority sleeps.
resumed : ((resume table (Ref 11)).run (state nil (objects empty empty idle (alone 1) (alone 2) (alone 1) []))
    ≡ Went tt (state (Ref 11) (objects (list_of (Ref 10) (Ref 10)) empty idle (process nil (Small 1) (Ref 7)) (alone 2) (alone 1) [])))
    × ((resume table (Ref 11)).run (state nil (objects empty empty idle (alone 1) (alone 1) (alone 1) []))
    ≡ Went tt (state nil (objects (list_of (Ref 11) (Ref 11)) empty idle (alone 1) (process nil (Small 1) (Ref 7)) (alone 1) [])))
    × ((resume table (Ref 11)).run (state nil (objects empty empty idle (alone 2) (alone 1) (alone 1) []))
    ≡ Went tt (state nil (objects (list_of (Ref 11) (Ref 11)) empty idle (alone 2) (process nil (Small 1) (Ref 7)) (alone 1) [])))
unfolding opened state deep waits objects alone empty idle list_of semaphore process object bytes
resumed = (refl, refl, refl)

-- Where another one waits to be switched to, that one is the active process: it sleeps for a greater priority, and stays for
-- the same.
resumed_over_new : ((resume table (Ref 11)).run (state (Ref 12) (objects empty empty idle (alone 1) (alone 2) (alone 1) []))
    ≡ Went tt (state (Ref 11) (objects (list_of (Ref 12) (Ref 12)) empty idle (alone 1) (alone 2) (process nil (Small 1) (Ref 7)) [])))
    × ((resume table (Ref 11)).run (state (Ref 12) (objects empty empty idle (alone 1) (alone 2) (alone 2) []))
    ≡ Went tt (state (Ref 12) (objects empty (list_of (Ref 11) (Ref 11)) idle (alone 1) (process nil (Small 2) (Ref 8)) (alone 2) [])))
unfolding opened state deep waits objects alone empty idle list_of semaphore process object bytes
resumed_over_new = (refl, refl)

-- Priorities are compared as integers. That of the active one is asked for also where the other is below 1; one below 1 is a
-- death only where that process sleeps.
priorities : ((resume table (Ref 11)).run (state nil (objects empty empty idle (alone 1) (alone 16383) (alone 1) []))
    ≡ Went tt (state (Ref 11) (objects (list_of (Ref 10) (Ref 10)) empty idle (process nil (Small 1) (Ref 7)) (alone 16383) (alone 1) [])))
    × ((resume table (Ref 11)).run (state nil (objects empty empty idle (alone 1) (alone 16384) (alone 1) []))
    ≡ Died dead.Field)
    × ((resume table (Ref 11)).run (state nil (objects empty empty idle (alone 1) (alone 0) (alone 1) []))
    ≡ Died dead.Field)
    × ((resume table (Ref 11)).run (state nil (objects empty empty idle (process nil nil nil) (alone 0) (alone 1) []))
    ≡ Died dead.NotSmall)
    × ((resume table (Ref 11)).run (state nil (objects empty empty idle (alone 1) (process nil nil nil) (alone 1) []))
    ≡ Died dead.NotSmall)
    × ((resume table (Ref 11)).run (state nil (objects empty empty idle (alone 32767) (alone 1) (alone 1) []))
    ≡ Died dead.Field)
unfolding opened state deep waits objects alone empty idle list_of semaphore process object bytes
priorities = (refl, refl, refl, refl, refl, refl)

-- A signal that none waits for is in excess, to 16383 of them; the number may be below 0.
excess : ((signal table (Ref 9)).run (state nil (objects empty empty idle (alone 1) (alone 1) (alone 1) []))
    ≡ Went tt (state nil (objects empty empty (semaphore nil nil (Small 1)) (alone 1) (alone 1) (alone 1) [])))
    × ((signal table (Ref 9)).run (state nil (objects empty empty (semaphore nil nil (Small 16382)) (alone 1) (alone 1) (alone 1) []))
    ≡ Went tt (state nil (objects empty empty (semaphore nil nil (Small 16383)) (alone 1) (alone 1) (alone 1) [])))
    × ((signal table (Ref 9)).run (state nil (objects empty empty (semaphore nil nil (Small 16383)) (alone 1) (alone 1) (alone 1) []))
    ≡ Died dead.Excess)
    × ((signal table (Ref 9)).run (state nil (objects empty empty (semaphore nil nil (Small 32767)) (alone 1) (alone 1) (alone 1) []))
    ≡ Went tt (state nil (objects empty empty idle (alone 1) (alone 1) (alone 1) [])))
    × ((signal table (Ref 9)).run (state nil (objects empty empty (semaphore nil nil (Small 16384)) (alone 1) (alone 1) (alone 1) []))
    ≡ Went tt (state nil (objects empty empty (semaphore nil nil (Small 16385)) (alone 1) (alone 1) (alone 1) [])))
    × ((signal table (Ref 9)).run (state nil (objects empty empty (semaphore nil nil nil) (alone 1) (alone 1) (alone 1) []))
    ≡ Died dead.NotSmall)
    × ((signal table (Small 9)).run (state nil (objects empty empty idle (alone 1) (alone 1) (alone 1) []))
    ≡ Died dead.Small)
    × ((signal table nil).run (state nil (objects empty empty idle (alone 1) (alone 1) (alone 1) []))
    ≡ Died dead.Field)
unfolding opened state deep waits objects alone empty idle list_of semaphore process object bytes
excess = (refl, refl, refl, refl, refl, refl, refl, refl)

-- The first that waits is resumed: it sleeps, or goes on in place of the active one; another one still waits. What field 2
-- holds is not asked for.
woken : ((signal table (Ref 9)).run (state nil (objects empty empty (semaphore (Ref 11) (Ref 11) nil) (alone 1) (process nil (Small 1) (Ref 9)) (alone 1) []))
    ≡ Went tt (state nil (objects (list_of (Ref 11) (Ref 11)) empty (semaphore nil nil nil) (alone 1) (process nil (Small 1) (Ref 7)) (alone 1) [])))
    × ((signal table (Ref 9)).run (state nil (objects empty empty (semaphore (Ref 11) (Ref 12) (Small 0)) (alone 1) (process (Ref 12) (Small 2) (Ref 9)) (process nil (Small 2) (Ref 9)) []))
    ≡ Went tt (state (Ref 11) (objects (list_of (Ref 10) (Ref 10)) empty (semaphore (Ref 12) (Ref 12) (Small 0)) (process nil (Small 1) (Ref 7)) (process nil (Small 2) (Ref 9)) (process nil (Small 2) (Ref 9)) [])))
unfolding opened state deep waits objects alone empty idle list_of semaphore process object bytes
woken = (refl, refl)

-- A semaphore that is its own waiting process: it leaves itself, and its field 2 is its priority.
own_process : ((signal table (Ref 11)).run (state nil (objects empty empty idle (alone 1) (object (Ref 11 ∷ Ref 11 ∷ Small 2 ∷ nil ∷ [])) (alone 1) []))
    ≡ Went tt (state (Ref 11) (objects (list_of (Ref 10) (Ref 10)) empty idle (process nil (Small 1) (Ref 7)) (object (nil ∷ nil ∷ Small 2 ∷ nil ∷ [])) (alone 1) [])))
    × ((signal table (Ref 11)).run (state nil (objects empty empty idle (alone 1) (object (Ref 11 ∷ Ref 11 ∷ Small 1 ∷ nil ∷ [])) (alone 1) []))
    ≡ Went tt (state nil (objects (list_of (Ref 11) (Ref 11)) empty idle (alone 1) (object (nil ∷ nil ∷ Small 1 ∷ Ref 7 ∷ [])) (alone 1) [])))
unfolding opened state deep waits objects alone empty idle list_of semaphore process object bytes
own_process = (refl, refl)

-- The first of the highest list that has one goes on. A process that waits to be switched to is replaced.
suspended : ((suspend table).run (state nil (objects (list_of (Ref 11) (Ref 11)) (list_of (Ref 12) (Ref 12)) idle (alone 1) (process nil (Small 1) (Ref 7)) (process nil (Small 2) (Ref 8)) []))
    ≡ Went tt (state (Ref 12) (objects (list_of (Ref 11) (Ref 11)) empty idle (alone 1) (process nil (Small 1) (Ref 7)) (process nil (Small 2) (Ref 8)) [])))
    × ((suspend table).run (state nil (objects (list_of (Ref 11) (Ref 12)) empty idle (alone 1) (process (Ref 12) (Small 1) (Ref 7)) (process nil (Small 1) (Ref 7)) []))
    ≡ Went tt (state (Ref 11) (objects (list_of (Ref 12) (Ref 12)) empty idle (alone 1) (process nil (Small 1) (Ref 7)) (process nil (Small 1) (Ref 7)) [])))
    × ((suspend table).run (state (Ref 12) (objects (list_of (Ref 11) (Ref 11)) empty idle (alone 1) (process nil (Small 1) (Ref 7)) (alone 1) []))
    ≡ Went tt (state (Ref 11) (objects empty empty idle (alone 1) (process nil (Small 1) (Ref 7)) (alone 1) [])))
unfolding opened state deep waits objects alone empty idle list_of semaphore process object bytes
suspended = (refl, refl, refl)

-- Where all lists are empty, there is none; a list is looked at before the lower ones.
none_to_go_on : ((suspend table).run (state nil (objects empty empty idle (alone 1) (alone 1) (alone 1) []))
    ≡ Died dead.Idle)
    × ((suspend table).run (state nil (objects empty (object []) idle (alone 1) (alone 1) (alone 1) []))
    ≡ Died dead.Field)
    × ((suspend table).run (state nil (objects (bytes []) empty idle (alone 1) (alone 1) (alone 1) []))
    ≡ Died dead.Kind)
unfolding opened state deep waits objects alone empty idle list_of semaphore process object bytes
none_to_go_on = (refl, refl, refl)

-- a process with this context
unfoldable in_context : Value → Option Object
unfolding object
in_context c = object (nil ∷ c ∷ [])

-- the scheduler's process, the processes 6 and 7, the pointers stored in the active context 8, and another context 9
unfoldable switching : Value → Option Object → Option Object → Value → Value → Table
unfolding object
switching scheduled a b ip sp =
    None ∷ object [] ∷ object [] ∷ object [] ∷ object (nil ∷ Ref 5 ∷ []) ∷ object (nil ∷ scheduled ∷ []) ∷ a ∷ b
    ∷ object (nil ∷ ip ∷ sp ∷ nil ∷ nil ∷ Ref 2 ∷ Small 9 ∷ []) ∷ object (nil ∷ Small 7 ∷ Small 2 ∷ Ref 3 ∷ nil ∷ Small 5 ∷ Small 8 ∷ Small 9 ∷ []) ∷ []

unfoldable here : Registers
here = record { active = Ref 8; home = Ref 8; method = nil; receiver = Ref 2; ip = pos 4; sp = 6 }

unfoldable there : Registers
there = record { active = Ref 9; home = Ref 9; method = Ref 3; receiver = Small 5; ip = pos 6; sp = 7 }

unfoldable at : Registers → Value → Table → State Table
unfolding deep
at r p t = record (deep 0 p t) { registers = r }

-- The active context is kept in the process that was active, and with it the place of the next byte and of the top; none
-- waits any more.
switched : ((switch_to_process table (Ref 7)).run (at here (Ref 7) (switching (Ref 6) (in_context nil) (in_context (Ref 9)) nil nil))
    ≡ Went tt (at there nil (switching (Ref 7) (in_context (Ref 8)) (in_context (Ref 9)) (Small 5) (Small 1))))
    × ((switch_to_process table (Ref 7)).run (at here nil (switching (Ref 6) (in_context nil) (in_context (Ref 9)) nil nil))
    ≡ Went tt (at there nil (switching (Ref 7) (in_context (Ref 8)) (in_context (Ref 9)) (Small 5) (Small 1))))
unfolding opened at here there deep waits switching in_context object
switched = (refl, refl)

-- A process that is switched to itself goes on in the active context, whatever it kept.
switched_to_itself : ((switch_to_process table (Ref 6)).run (at here (Ref 6) (switching (Ref 6) (in_context (Ref 9)) (in_context nil) nil nil))
    ≡ Went tt (at here nil (switching (Ref 6) (in_context (Ref 8)) (in_context nil) (Small 5) (Small 1))))
unfolding opened at here there deep waits switching in_context object
switched_to_itself = refl

-- A process needs a context; what the scheduler names is to have a field for it.
not_switched : ((switch_to_process table (Ref 7)).run (at here (Ref 7) (switching (Ref 6) (in_context nil) (in_context nil) nil nil))
    ≡ Died dead.Field)
    × ((switch_to_process table (Ref 7)).run (at here (Ref 7) (switching (Ref 6) (in_context nil) (object []) nil nil))
    ≡ Died dead.Field)
    × ((switch_to_process table (Small 7)).run (at here nil (switching (Ref 6) (in_context nil) (in_context nil) nil nil))
    ≡ Died dead.Small)
    × ((switch_to_process table (Ref 7)).run (at here (Ref 7) (switching (Small 6) (in_context nil) (in_context (Ref 9)) nil nil))
    ≡ Died dead.Small)
    × ((switch_to_process table (Ref 7)).run (at here (Ref 7) (switching nil (in_context nil) (in_context (Ref 9)) nil nil))
    ≡ Died dead.Field)
unfolding opened at here there deep waits switching in_context object
not_switched = (refl, refl, refl, refl, refl)

-- primitive k with n arguments, where these words are the stack
unfoldable trying : ℕ → ℕ → List Value → (List Value → Table) → Transition (State Table) Bool
unfolding state deep
trying k n stack t = (tries table k n).run (deep (length stack) nil (t stack))

-- it succeeded: one word is left, the answer, and this process waits
unfoldable done : Value → List Value → (List Value → Table) → Transition (State Table) Bool
unfolding deep
done p stack t = Went true (deep 1 p (t stack))

-- it failed, and nothing is changed
abbrev Fails : ℕ → ℕ → List Value → (List Value → Table) → Type 0
Fails k n stack t = trying k n stack t ≡ Went false (deep (length stack) nil (t stack))

-- objects without a scheduler
unfoldable unscheduled : List Value → Table
unfolding object process alone
unscheduled stack =
    None ∷ object [] ∷ object [] ∷ object [] ∷ object [] ∷ object [] ∷ object [] ∷ object [] ∷ object [] ∷ object [] ∷ object [] ∷ object []
    ∷ alone 1 ∷ object (nil ∷ nil ∷ nil ∷ nil ∷ nil ∷ nil ∷ stack) ∷ []

-- 85: r is signalled; it needs three fields, and its death is a death.
signal_rows : (trying 85 0 (Ref 9 ∷ []) (objects empty empty idle (alone 1) (alone 1) (alone 1))
    ≡ done nil (Ref 9 ∷ []) (objects empty empty (semaphore nil nil (Small 1)) (alone 1) (alone 1) (alone 1)))
    × (trying 85 0 (Ref 9 ∷ []) (objects empty empty (semaphore (Ref 11) (Ref 11) (Small 0)) (alone 1) (alone 2) (alone 1))
    ≡ done (Ref 11) (Ref 9 ∷ []) (objects (list_of (Ref 10) (Ref 10)) empty idle (process nil (Small 1) (Ref 7)) (alone 2) (alone 1)))
    × Fails 85 0 (Ref 7 ∷ []) (objects empty empty idle (alone 1) (alone 1) (alone 1))
    × Fails 85 0 (Ref 9 ∷ []) (objects empty empty (bytes (1 ∷ 2 ∷ 3 ∷ [])) (alone 1) (alone 1) (alone 1))
    × Fails 85 0 (Small 9 ∷ []) (objects empty empty idle (alone 1) (alone 1) (alone 1))
    × Fails 85 1 (Ref 9 ∷ nil ∷ []) (objects empty empty idle (alone 1) (alone 1) (alone 1))
    × (trying 85 0 (Ref 9 ∷ []) (objects empty empty (semaphore nil nil nil) (alone 1) (alone 1) (alone 1)) ≡ Died dead.NotSmall)
    × (trying 85 0 (Ref 9 ∷ []) (objects empty empty (semaphore nil nil (Small 16383)) (alone 1) (alone 1) (alone 1)) ≡ Died dead.Excess)
    × (trying 85 0 (Ref 9 ∷ []) (objects empty empty (object (Ref 1 ∷ Ref 7 ∷ nil ∷ [])) (alone 1) (alone 1) (alone 1)) ≡ Died dead.NotSmall)
unfolding opened trying done state deep waits objects unscheduled alone empty idle list_of semaphore process object bytes
signal_rows = (refl, refl, refl, refl, refl, refl, refl, refl, refl)

-- 86: a signal in excess is taken; where none is, the active process waits, and the first of the highest priority goes on.
wait_rows : (trying 86 0 (Ref 9 ∷ []) (objects empty empty (semaphore nil nil (Small 16383)) (alone 1) (alone 1) (alone 1))
    ≡ done nil (Ref 9 ∷ []) (objects empty empty (semaphore nil nil (Small 16382)) (alone 1) (alone 1) (alone 1)))
    × (trying 86 0 (Ref 9 ∷ []) (objects empty empty (semaphore nil nil (Small 1)) (alone 1) (alone 1) (alone 1))
    ≡ done nil (Ref 9 ∷ []) (objects empty empty idle (alone 1) (alone 1) (alone 1)))
    × (trying 86 0 (Ref 9 ∷ []) (objects (list_of (Ref 12) (Ref 12)) empty idle (alone 1) (alone 1) (process nil (Small 1) (Ref 7)))
    ≡ done (Ref 12) (Ref 9 ∷ []) (objects empty empty (semaphore (Ref 10) (Ref 10) (Small 0)) (process nil (Small 1) (Ref 9)) (alone 1) (process nil (Small 1) (Ref 7))))
    × (trying 86 0 (Ref 9 ∷ []) (objects empty (list_of (Ref 12) (Ref 12)) (semaphore (Ref 11) (Ref 11) (Small 32767)) (alone 1) (process nil (Small 1) (Ref 9)) (process nil (Small 2) (Ref 8)))
    ≡ done (Ref 12) (Ref 9 ∷ []) (objects empty empty (semaphore (Ref 11) (Ref 10) (Small 32767)) (process nil (Small 1) (Ref 9)) (process (Ref 10) (Small 1) (Ref 9)) (process nil (Small 2) (Ref 8))))
    × Fails 86 0 (Ref 9 ∷ []) (objects empty empty (semaphore nil nil nil) (alone 1) (alone 1) (alone 1))
    × Fails 86 0 (Ref 7 ∷ []) (objects empty empty idle (alone 1) (alone 1) (alone 1))
    × Fails 86 0 (Small 9 ∷ []) (objects empty empty idle (alone 1) (alone 1) (alone 1))
    × Fails 86 1 (Ref 9 ∷ nil ∷ []) (objects empty empty idle (alone 1) (alone 1) (alone 1))
    × (trying 86 0 (Ref 9 ∷ []) (objects empty empty idle (alone 1) (alone 1) (alone 1)) ≡ Died dead.Idle)
unfolding opened trying done state deep waits objects unscheduled alone empty idle list_of semaphore process object bytes
wait_rows = (refl, refl, refl, refl, refl, refl, refl, refl, refl)

-- 87: r is resumed; it needs four fields.
resume_rows : (trying 87 0 (Ref 11 ∷ []) (objects empty empty idle (alone 1) (alone 1) (alone 1))
    ≡ done nil (Ref 11 ∷ []) (objects (list_of (Ref 11) (Ref 11)) empty idle (alone 1) (process nil (Small 1) (Ref 7)) (alone 1)))
    × (trying 87 0 (Ref 11 ∷ []) (objects empty empty idle (alone 1) (alone 2) (alone 1))
    ≡ done (Ref 11) (Ref 11 ∷ []) (objects (list_of (Ref 10) (Ref 10)) empty idle (process nil (Small 1) (Ref 7)) (alone 2) (alone 1)))
    × Fails 87 0 (Ref 9 ∷ []) (objects empty empty idle (alone 1) (alone 1) (alone 1))
    × Fails 87 0 (Small 11 ∷ []) (objects empty empty idle (alone 1) (alone 1) (alone 1))
    × Fails 87 1 (Ref 11 ∷ nil ∷ []) (objects empty empty idle (alone 1) (alone 1) (alone 1))
    × (trying 87 0 (Ref 11 ∷ []) (objects empty empty idle (alone 1) (process nil nil nil) (alone 1)) ≡ Died dead.NotSmall)
    × (trying 87 0 (Ref 11 ∷ []) (objects empty empty idle (alone 1) (alone 0) (alone 1)) ≡ Died dead.Field)
    × (trying 87 0 (Ref 12 ∷ []) unscheduled ≡ Died dead.Field)
unfolding opened trying done state deep waits objects unscheduled alone empty idle list_of semaphore process object bytes
resume_rows = (refl, refl, refl, refl, refl, refl, refl, refl)

-- 88: r, the active process, is suspended, and the answer is nil; another one, and one without a scheduler, fails.
suspend_rows : (trying 88 0 (Ref 10 ∷ []) (objects (list_of (Ref 11) (Ref 11)) empty idle (alone 1) (process nil (Small 1) (Ref 7)) (alone 1))
    ≡ done (Ref 11) (nil ∷ []) (objects empty empty idle (alone 1) (process nil (Small 1) (Ref 7)) (alone 1)))
    × Fails 88 0 (Ref 11 ∷ []) (objects (list_of (Ref 11) (Ref 11)) empty idle (alone 1) (process nil (Small 1) (Ref 7)) (alone 1))
    × Fails 88 0 (Small 10 ∷ []) (objects empty empty idle (alone 1) (alone 1) (alone 1))
    × Fails 88 1 (Ref 10 ∷ nil ∷ []) (objects empty empty idle (alone 1) (alone 1) (alone 1))
    × Fails 88 0 (Ref 12 ∷ []) unscheduled
    × (trying 88 0 (Ref 10 ∷ []) (objects empty empty idle (alone 1) (alone 1) (alone 1)) ≡ Died dead.Idle)
unfolding opened trying done state deep waits objects unscheduled alone empty idle list_of semaphore process object bytes
suspend_rows = (refl, refl, refl, refl, refl, refl)

-- primitive k with no argument, where this process waits to be switched to
unfoldable trying_new : ℕ → Value → List Value → (List Value → Table) → Transition (State Table) Bool
unfolding deep
trying_new k p stack t = (tries table k 0).run (deep (length stack) p (t stack))

-- Where a process waits to be switched to, that one is added to the semaphore, and that one is suspended.
new_rows : (trying_new 86 (Ref 11) (Ref 9 ∷ []) (objects (list_of (Ref 12) (Ref 12)) empty idle (alone 1) (alone 1) (process nil (Small 1) (Ref 7)))
    ≡ done (Ref 12) (Ref 9 ∷ []) (objects empty empty (semaphore (Ref 11) (Ref 11) (Small 0)) (alone 1) (process nil (Small 1) (Ref 9)) (process nil (Small 1) (Ref 7))))
    × (trying_new 88 (Ref 11) (Ref 11 ∷ []) (objects (list_of (Ref 12) (Ref 12)) empty idle (alone 1) (alone 1) (process nil (Small 1) (Ref 7)))
    ≡ done (Ref 12) (nil ∷ []) (objects empty empty idle (alone 1) (alone 1) (process nil (Small 1) (Ref 7))))
    × (trying_new 88 (Ref 11) (Ref 10 ∷ []) (objects (list_of (Ref 12) (Ref 12)) empty idle (alone 1) (alone 1) (process nil (Small 1) (Ref 7)))
    ≡ Went false (deep 1 (Ref 11) ((objects (list_of (Ref 12) (Ref 12)) empty idle (alone 1) (alone 1) (process nil (Small 1) (Ref 7))) (Ref 10 ∷ []))))
unfolding opened trying done state deep waits objects unscheduled alone empty idle list_of semaphore process object bytes trying_new
new_rows = (refl, refl, refl)

-- Worked rows of the cycle, computed from the definitions: pending signals, a process switch, the want of space, the warning that
-- space is low, and bytecodes that ask for something. There are two semaphores, three processes, and lists of those that are
-- ready for the priorities 4, 5 and 6.
use Rattle.std.proofs.Common.{◌≡◌, ℕ, List, [], ◌∷◌, ◌++◌, Some, None, Option, refl}
use Rattle.std.specs.Prelude.{◌+◌, pos, replicate, codes}
use Rattle.std.specs.Fmt.{digits}
use Rattle.st_model.specs.declared.dead.Dead.TheVariants as dead
use Rattle.st_model.specs.declared.event.Event.TheVariants.{Word}
use Rattle.st_model.specs.Values.{Value, Small, Ref}
use Rattle.st_model.specs.Objects.{Object, nil}
use Rattle.st_model.specs.Outcomes.{Ending, With, Space}
use Rattle.st_model.specs.Outcomes as outcome
use Rattle.st_model.specs.Machine.{State, Registers, World, Transition, Died, Went, empty_world}
use Rattle.st_model.specs.Table.{Table, table}
use Rattle.st_model.specs.Births.{births}
use Rattle.st_model.specs.Show.{raised}
use Rattle.st_model.specs.Cycles.{cycle, run, run_of, finished, warned}
use Rattle.st_model.specs.inside.Foreseen.{foreseen_cycle}
use Rattle.st_model.specs.Events.{event}
use Rattle.st_model.specs.Text.{input_text}
use Rattle.st_model.proofs.Opened.{opened}
use Rattle.st_model.proofs.StorageRows.{pointers, bytes, method}

unfoldable pub plain : List Value → Option Object
unfolding pointers
plain fields = pointers 6 fields

-- the list's first and last process
unfoldable pub list_of : Value → Value → Option Object
unfolding plain pointers
list_of first last = plain (first ∷ last ∷ [])

unfoldable pub empty : Option Object
unfolding list_of plain pointers
empty = list_of nil nil

-- its first and last process, and so many signals in excess
unfoldable pub semaphore : Value → Value → ℕ → Option Object
unfolding plain pointers
semaphore first last excess = plain (first ∷ last ∷ Small excess ∷ [])

unfoldable pub idle : ℕ → Option Object
unfolding semaphore plain pointers
idle excess = semaphore nil nil excess

-- the one behind it, its suspended context, its priority, and the list that it is in
unfoldable pub process : Value → Value → ℕ → Value → Option Object
unfolding plain pointers
process next context priority list = plain (next ∷ context ∷ Small priority ∷ list ∷ [])

-- a context of the method 42, with these pointers in stored form, and a stack of four words
unfoldable pub context : ℕ → ℕ → Value → Value → Option Object
unfolding pointers
context ip sp x y = pointers 11 (nil ∷ Small ip ∷ Small sp ∷ Ref 42 ∷ nil ∷ nil ∷ x ∷ y ∷ nil ∷ nil ∷ [])

-- The page, with these fields of the class of SmallIntegers; the scheduler 29, which has this process as the active one; its lists
-- 31, 32 and 33 for the priorities 4, 5 and 6; and from 31 on the objects of a row. New objects go to the place 5.
unfoldable pub objects : List Value → Option Object → Value → List (Option Object) → Table
unfolding plain pointers
objects integers new scheduled others =
    None ∷ plain [] ∷ plain [] ∷ plain [] ∷ plain (nil ∷ Ref 29 ∷ []) ∷ new ∷ plain integers ∷ plain [] ∷ plain [] ∷ None ∷ None
    ∷ plain [] ∷ plain [] ∷ plain [] ∷ plain [] ∷ None ∷ plain [] ∷ plain [] ∷ None ∷ None ∷ plain [] ∷ plain [] ∷ plain []
    ∷ None ∷ plain [] ∷ plain [] ∷ plain [] ∷ None ∷ plain [] ∷ plain (Ref 30 ∷ scheduled ∷ [])
    ∷ plain (nil ∷ nil ∷ nil ∷ Ref 31 ∷ Ref 32 ∷ Ref 33 ∷ []) ∷ others

-- the registers of a context of the method 42, with its next byte and so many words on its stack
unfoldable pub in_context : ℕ → ℕ → ℕ → Registers
in_context context ip depth = record { active = Ref context; home = Ref context; method = Ref 42; receiver = nil; ip = pos ip; sp = 5 + depth }

-- with these capacities
unfoldable pub within : ℕ → ℕ → World → Registers → Table → State Table
within entries words w r t = record { memory = t; registers = r; world = w; head = record { entries = entries; words = words; globals = None; symbols = None } }

unfoldable pub state : World → Registers → Table → State Table
unfolding within
state w r t = within 100 1000 w r t

-- the words that wait, the input semaphore, and the semaphores whose signals are pending
unfoldable pub around : List ℕ → Value → List Value → World
around words semaphore signals = record (empty_world nil) {
  waiting = words;
  devices = record (empty_world nil).devices { input_semaphore = semaphore; pending = signals };
}

-- signals alone
unfoldable pub pending : List Value → World
unfolding around
pending signals = around [] nil signals

-- The method 42, whose two literals are the semaphores. Its bytes, from 6 on: push 1, push 2, make a Point, a code that isn't used.
unfoldable pub code : Option Object
unfolding method
code = method (Small 2 ∷ Ref 34 ∷ Ref 35 ∷ []) (118 ∷ 119 ∷ 187 ∷ 126 ∷ [])

-- how a cycle ends, in the book's machine and in the one that foresees its steps
abbrev Ends : State Table → Transition (State Table) Ending → Type 0
Ends s e = (cycle table s ≡ e) × (foreseen_cycle s ≡ e)

-- it goes on
abbrev GoesOn : State Table → State Table → Type 0
GoesOn s t = Ends s (Went (With outcome.Went) t)

-- The process 36 of priority 4 is active, 38 of the same priority is ready, and 37 of priority 6 waits first at the semaphore 34.
unfoldable waiting_for_input : World → State Table
unfolding state within around pending in_context objects code context process idle semaphore empty list_of method plain pointers
waiting_for_input w = state w (in_context 39 6 1) (objects [] None (Ref 36)
    (list_of (Ref 38) (Ref 38) ∷ empty ∷ empty ∷ semaphore (Ref 37) (Ref 37) 0 ∷ idle 0
    ∷ process nil nil 4 nil ∷ process nil (Ref 40) 6 (Ref 34) ∷ process nil (Ref 41) 4 (Ref 31)
    ∷ context 9 3 (Small 8) nil ∷ context 8 1 (Small 9) nil ∷ context 7 0 nil nil ∷ code ∷ []))

-- 37 is active, and has pushed 2; 36 is the last that is ready, with its registers in its context
unfoldable served : World → State Table
unfolding state within around pending in_context objects code context process idle semaphore empty list_of method plain pointers
served w = state w (in_context 40 8 2) (objects [] None (Ref 37)
    (list_of (Ref 38) (Ref 36) ∷ empty ∷ empty ∷ idle 0 ∷ idle 0
    ∷ process nil (Ref 39) 4 (Ref 31) ∷ process nil (Ref 40) 6 (Ref 34) ∷ process (Ref 36) (Ref 41) 4 (Ref 31)
    ∷ context 7 1 (Small 8) nil ∷ context 8 1 (Small 9) (Small 2) ∷ context 7 0 nil nil ∷ code ∷ []))

-- An input word comes while the semaphore is held as the input semaphore, and its signal is pending. In the next cycle the one
-- bytecode is that of the process 37; the word still waits, and no signal is pending.
input_served : (event table (Word 4660) (waiting_for_input (around [] (Ref 34) [])) ≡ Some (waiting_for_input (around (4660 ∷ []) (Ref 34) (Ref 34 ∷ []))))
    × GoesOn (waiting_for_input (around (4660 ∷ []) (Ref 34) (Ref 34 ∷ []))) (served (around (4660 ∷ []) (Ref 34) []))
    × (finished table 1 (waiting_for_input (around (4660 ∷ []) (Ref 34) (Ref 34 ∷ []))) ≡ 1)
    × (input_text (around (4660 ∷ []) (Ref 34) []) ≡ codes "input 1 0 0 0 0 0\n")
unfolding opened state within around pending in_context objects code context process idle semaphore empty list_of method plain pointers digits waiting_for_input served
input_served = (refl, (refl, refl), refl, refl)

-- the same over births
input_served_over_births : cycle births (raised (waiting_for_input (around (4660 ∷ []) (Ref 34) (Ref 34 ∷ [])))) ≡ Went (With outcome.Went) (raised (served (around (4660 ∷ []) (Ref 34) [])))
unfolding opened state within around pending in_context objects code context process idle semaphore empty list_of method plain pointers waiting_for_input served raised
input_served_over_births = refl

-- 36 is active, 37 of priority 6 waits at the semaphore 34, and 38 of this priority at 35. These signals are pending.
unfoldable two_wait : List Value → ℕ → State Table
unfolding state within around pending in_context objects code context process idle semaphore empty list_of method plain pointers
two_wait signals priority = state (pending signals) (in_context 39 6 1) (objects [] None (Ref 36)
    (empty ∷ empty ∷ empty ∷ semaphore (Ref 37) (Ref 37) 0 ∷ semaphore (Ref 38) (Ref 38) 0
    ∷ process nil nil 4 nil ∷ process nil (Ref 40) 6 (Ref 34) ∷ process nil (Ref 41) priority (Ref 35)
    ∷ context 9 3 (Small 8) nil ∷ context 8 0 nil nil ∷ context 8 0 nil nil ∷ code ∷ []))

-- This process is active in its context and has pushed 2, and the other of the two is ready; 38 has this priority. Their lists are
-- those for the priorities 5 and 6 with the two processes' own, and what 37 and 38 pushed is what their contexts have.
unfoldable one_goes_on : Value → ℕ → ℕ → Option Object → Option Object → Value → Value → Value → Value → State Table
unfolding state within around pending in_context objects code context process idle semaphore empty list_of method plain pointers
one_goes_on active in_its priority fives sixes list37 list38 x37 x38 = state (pending []) (in_context in_its 8 1) (objects [] None active
    (list_of (Ref 36) (Ref 36) ∷ fives ∷ sixes ∷ idle 0 ∷ idle 0
    ∷ process nil (Ref 39) 4 (Ref 31) ∷ process nil (Ref 40) 6 list37 ∷ process nil (Ref 41) priority list38
    ∷ context 7 1 (Small 8) nil ∷ context 8 0 x37 nil ∷ context 8 0 x38 nil ∷ code ∷ []))

-- Two signals are pending, the oldest first. The newest is made first: the process 38, which waits for it, goes on, and 37 of the same
-- priority, which waits for the other one, is only ready. With the two signals the other way round 37 goes on.
-- A process that waits to go on is the active one for the signals after it: 38 of priority 5 takes the place of 36, and then 37 of
-- priority 6 that of 38, which is ready with its own context as it was.
two_signals : GoesOn (two_wait (Ref 34 ∷ Ref 35 ∷ []) 6) (one_goes_on (Ref 38) 41 6 empty (list_of (Ref 37) (Ref 37)) (Ref 33) (Ref 35) nil (Small 2))
    × GoesOn (two_wait (Ref 35 ∷ Ref 34 ∷ []) 6) (one_goes_on (Ref 37) 40 6 empty (list_of (Ref 38) (Ref 38)) (Ref 34) (Ref 33) (Small 2) nil)
    × GoesOn (two_wait (Ref 34 ∷ Ref 35 ∷ []) 5) (one_goes_on (Ref 37) 40 5 (list_of (Ref 38) (Ref 38)) empty (Ref 34) (Ref 32) (Small 2) nil)
unfolding opened state within around pending in_context objects code context process idle semaphore empty list_of method plain pointers two_wait one_goes_on
two_signals = ((refl, refl), (refl, refl), (refl, refl))

-- a process of no greater priority is ready, behind the others, and the active one goes on, with nothing stored in its context but the
-- word that it pushes
only_ready : GoesOn (state (pending (Ref 34 ∷ [])) (in_context 39 6 1) (objects [] None (Ref 36)
    (list_of (Ref 38) (Ref 38) ∷ empty ∷ empty ∷ semaphore (Ref 37) (Ref 37) 0 ∷ idle 0
    ∷ process nil nil 4 nil ∷ process nil (Ref 40) 4 (Ref 34) ∷ process nil (Ref 41) 4 (Ref 31)
    ∷ context 9 3 (Small 8) nil ∷ context 8 0 nil nil ∷ context 8 0 nil nil ∷ code ∷ [])))
    (state (pending []) (in_context 39 7 2) (objects [] None (Ref 36)
    (list_of (Ref 38) (Ref 37) ∷ empty ∷ empty ∷ idle 0 ∷ idle 0
    ∷ process nil nil 4 nil ∷ process nil (Ref 40) 4 (Ref 31) ∷ process (Ref 37) (Ref 41) 4 (Ref 31)
    ∷ context 9 3 (Small 8) (Small 1) ∷ context 8 0 nil nil ∷ context 8 0 nil nil ∷ code ∷ [])))
unfolding opened state within around pending in_context objects code context process idle semaphore empty list_of method plain pointers
only_ready = (refl, refl)

-- No process waits at the semaphores, which have so many signals in excess, and 37 and 38 are ready. The active context has this next byte, and
-- so many words on its stack, of which these are the first two.
unfoldable counting : World → ℕ → ℕ → ℕ → ℕ → Value → Value → List (Option Object) → State Table
unfolding state within around pending in_context objects code context process idle semaphore empty list_of method plain pointers
counting w ip depth a b x y others = state w (in_context 39 ip depth) (objects [] None (Ref 36)
    (list_of (Ref 37) (Ref 38) ∷ empty ∷ empty ∷ idle a ∷ idle b
    ∷ process nil nil 4 nil ∷ process (Ref 38) (Ref 40) 4 (Ref 31) ∷ process nil (Ref 41) 4 (Ref 31)
    ∷ context 9 3 x y ∷ context 8 0 nil nil ∷ context 8 0 nil nil ∷ code ∷ others))

-- signals for which no process waits are in excess, up to 16383 of them
in_excess : GoesOn (counting (pending (Ref 34 ∷ Ref 35 ∷ Ref 34 ∷ [])) 6 0 5 16382 nil nil []) (counting (pending []) 7 1 7 16383 (Small 1) nil [])
unfolding opened state within around pending in_context objects code context process idle semaphore empty list_of method plain pointers counting
in_excess = (refl, refl)

-- One more is a death, and the cycle isn't finished. It comes before that of a bytecode whose code isn't used; so does the second of
-- two. The bytecode's death comes where the signals can be made.
no_more_excess : Ends (counting (pending (Ref 34 ∷ [])) 6 0 16383 0 nil nil []) (Died dead.Excess)
    × (finished table 1 (counting (pending (Ref 34 ∷ [])) 6 0 16383 0 nil nil []) ≡ 0)
    × Ends (counting (pending (Ref 34 ∷ [])) 9 0 16383 0 nil nil []) (Died dead.Excess)
    × Ends (counting (pending (Ref 35 ∷ Ref 34 ∷ Ref 34 ∷ [])) 9 0 16382 0 nil nil []) (Died dead.Excess)
    × Ends (counting (pending (Ref 34 ∷ [])) 9 0 16382 0 nil nil []) (Died dead.Code)
unfolding opened state within around pending in_context objects code context process idle semaphore empty list_of method plain pointers counting
no_more_excess = ((refl, refl), refl, (refl, refl), (refl, refl), (refl, refl))

-- nil can be pending: its signal is a death where it has no fields
nil_pending : Ends (counting (pending (nil ∷ [])) 6 0 0 0 nil nil []) (Died dead.Field)
unfolding opened state within around pending in_context objects code context process idle semaphore empty list_of method plain pointers counting
nil_pending = (refl, refl)

-- the world in which this process waits to be switched to
unfoldable pub switching : Value → World
switching p = record (empty_world nil) { devices = record (empty_world nil).devices { new_process = p } }

-- A process that waits is switched to before the bytecode, without any signal. Its context is needed: a death in the switch comes
-- before that of the bytecode.
switched : GoesOn (state (switching (Ref 37)) (in_context 39 6 1) (objects [] None (Ref 36)
    (list_of (Ref 38) (Ref 36) ∷ empty ∷ empty ∷ idle 0 ∷ idle 0
    ∷ process nil nil 4 (Ref 31) ∷ process nil (Ref 40) 6 (Ref 34) ∷ process (Ref 36) (Ref 41) 4 (Ref 31)
    ∷ context 9 3 (Small 8) nil ∷ context 8 1 (Small 9) nil ∷ context 7 0 nil nil ∷ code ∷ [])))
    (served (pending []))
    × Ends (state (switching (Ref 37)) (in_context 39 9 1) (objects [] None (Ref 36)
    (list_of (Ref 38) (Ref 36) ∷ empty ∷ empty ∷ idle 0 ∷ idle 0
    ∷ process nil nil 4 (Ref 31) ∷ process nil nil 6 (Ref 34) ∷ process (Ref 36) (Ref 41) 4 (Ref 31)
    ∷ context 9 3 (Small 8) nil ∷ context 8 1 (Small 9) nil ∷ context 7 0 nil nil ∷ code ∷ [])))
    (Died dead.Field)
unfolding opened state within around pending in_context objects code context process idle semaphore empty list_of method plain pointers switching served
switched = ((refl, refl), (refl, refl))

-- A signal is pending for which 37 waits, whose bytecode makes a Point. 35 objects of 139 words are there, one of which nothing names.
unfoldable short_of_space : ℕ → ℕ → State Table
unfolding state within around pending in_context objects code context process idle semaphore empty list_of method plain pointers
short_of_space entries words = within entries words (pending (Ref 34 ∷ [])) (in_context 39 6 1) (objects [] None (Ref 36)
    (list_of (Ref 38) (Ref 38) ∷ empty ∷ empty ∷ semaphore (Ref 37) (Ref 37) 0 ∷ idle 0
    ∷ process nil nil 4 nil ∷ process nil (Ref 40) 6 (Ref 34) ∷ process nil (Ref 41) 4 (Ref 31)
    ∷ context 9 3 (Small 8) nil ∷ context 9 2 (Small 3) (Small 4) ∷ context 7 0 nil nil ∷ code ∷ plain [] ∷ []))

-- the switch is made, but nothing of the bytecode; what nothing names is still there
unfoldable only_switched : ℕ → ℕ → State Table
unfolding state within around pending in_context objects code context process idle semaphore empty list_of method plain pointers
only_switched entries words = within entries words (pending []) (in_context 40 8 2) (objects [] None (Ref 37)
    (list_of (Ref 38) (Ref 36) ∷ empty ∷ empty ∷ idle 0 ∷ idle 0
    ∷ process nil (Ref 39) 4 (Ref 31) ∷ process nil (Ref 40) 6 (Ref 34) ∷ process (Ref 36) (Ref 41) 4 (Ref 31)
    ∷ context 7 1 (Small 8) nil ∷ context 9 2 (Small 3) (Small 4) ∷ context 7 0 nil nil ∷ code ∷ plain [] ∷ []))

-- the Point is made, and what nothing names is gone
unfoldable pointed : ℕ → ℕ → State Table
unfolding state within around pending in_context objects code context process idle semaphore empty list_of method plain pointers
pointed entries words = within entries words (pending []) (in_context 40 9 1) (objects [] (pointers 13 (Small 3 ∷ Small 4 ∷ [])) (Ref 37)
    (list_of (Ref 38) (Ref 36) ∷ empty ∷ empty ∷ idle 0 ∷ idle 0
    ∷ process nil (Ref 39) 4 (Ref 31) ∷ process nil (Ref 40) 6 (Ref 34) ∷ process (Ref 36) (Ref 41) 4 (Ref 31)
    ∷ context 7 1 (Small 8) nil ∷ context 9 2 (Ref 5) (Small 4) ∷ context 7 0 nil nil ∷ code ∷ None ∷ []))

-- A Point takes one entry and four words. Without room for it the cycle ends in want of space, and the switch stands; then the next
-- cycle ends so too. None of these cycles is finished.
no_space : Ends (short_of_space 35 1000) (Went (Space (record { entries = 1; words = 4 }) (record { entries = 0; words = 861 })) (only_switched 35 1000))
    × Ends (only_switched 35 1000) (Went (Space (record { entries = 1; words = 4 }) (record { entries = 0; words = 861 })) (only_switched 35 1000))
    × Ends (short_of_space 100 142) (Went (Space (record { entries = 1; words = 4 }) (record { entries = 65; words = 3 })) (only_switched 100 142))
    × (finished table 3 (short_of_space 35 1000) ≡ 0)
unfolding opened state within around pending in_context objects code context process idle semaphore empty list_of method plain pointers short_of_space only_switched pointed
no_space = ((refl, refl), (refl, refl), (refl, refl), refl)

-- with room for just one entry, or for just four words, it is made
just_space : GoesOn (short_of_space 36 1000) (pointed 36 1000)
    × GoesOn (short_of_space 100 143) (pointed 100 143)
unfolding opened state within around pending in_context objects code context process idle semaphore empty list_of method plain pointers short_of_space only_switched pointed
just_space = ((refl, refl), (refl, refl))

-- the low-space semaphore, the entries and words below which space is low, and the signals that are pending
unfoldable pub low : Value → ℕ → ℕ → List Value → World
low semaphore entries words signals = record (empty_world nil) {
  low_entries = entries;
  low_words = words;
  devices = record (empty_world nil).devices { low_space = semaphore; pending = signals };
}

-- 100 entries and 1000 words; 35 objects of 139 words are there, one of two words that nothing names, so that 66 entries and 863 words
-- are free after a cycle that makes nothing
unfoldable before_warning : World → State Table
unfolding counting
before_warning w = counting w 6 0 0 0 nil nil (plain [] ∷ [])

-- 1 is pushed, and what nothing names is gone
unfoldable after_cycle : World → State Table
unfolding counting
after_cycle w = counting w 7 1 0 0 (Small 1) nil (None ∷ [])

-- Where fewer entries or words are free than were asked for, the signal is added and the semaphore let go. Where as many are free,
-- nothing is done, though fewer were before reclaiming; and nothing where no semaphore is held.
space_is_low : GoesOn (before_warning (low (Ref 34) 67 0 [])) (after_cycle (low nil 67 0 (Ref 34 ∷ [])))
    × GoesOn (before_warning (low (Ref 34) 0 864 [])) (after_cycle (low nil 0 864 (Ref 34 ∷ [])))
    × GoesOn (before_warning (low (Ref 34) 4294967295 4294967295 [])) (after_cycle (low nil 4294967295 4294967295 (Ref 34 ∷ [])))
    × GoesOn (before_warning (low (Ref 34) 66 863 [])) (after_cycle (low (Ref 34) 66 863 []))
    × GoesOn (before_warning (low nil 67 864 [])) (after_cycle (low nil 67 864 []))
unfolding opened state within around pending in_context objects code context process idle semaphore empty list_of method plain pointers low counting before_warning after_cycle
space_is_low = ((refl, refl), (refl, refl), (refl, refl), (refl, refl), (refl, refl))

-- the next cycle makes the signal, and adds none though space is low
warned_once : GoesOn (after_cycle (low nil 67 0 (Ref 34 ∷ []))) (counting (low nil 67 0 []) 8 2 1 0 (Small 1) (Small 2) (None ∷ []))
unfolding opened state within around pending in_context objects code context process idle semaphore empty list_of method plain pointers low counting after_cycle
warned_once = (refl, refl)

-- Where 4096 signals are pending, none is added, and the semaphore stays held.
warning_full : (warned table (before_warning (low (Ref 34) 99 0 (replicate 4096 (Ref 35)))) ≡ before_warning (low (Ref 34) 99 0 (replicate 4096 (Ref 35))))
    × (warned table (before_warning (low (Ref 34) 99 0 (replicate 4095 (Ref 35)))) ≡ before_warning (low nil 99 0 (replicate 4095 (Ref 35) ++ Ref 34 ∷ [])))
unfolding opened state within around pending in_context objects code context process idle semaphore empty list_of method plain pointers low counting before_warning
warning_full = (refl, refl)

-- The method 42, whose literals are a selector and the semaphores. Its bytes, from 8 on: send the selector without arguments, push 2.
unfoldable pub sending : Option Object
unfolding method
sending = method (Small 3 ∷ Ref 26 ∷ Ref 34 ∷ Ref 35 ∷ []) (208 ∷ 119 ∷ [])

-- the fields of the class that understands it, with the dictionary 43
unfoldable pub understanding : List Value
understanding = nil ∷ Ref 43 ∷ Small 0 ∷ []

-- from 43 on: the dictionary, its methods, and the method of this primitive; then others
unfoldable pub with_primitive : ℕ → List (Option Object) → List (Option Object)
unfolding method plain pointers
with_primitive primitive others = plain (Small 1 ∷ Ref 44 ∷ Ref 26 ∷ []) ∷ pointers 8 (Ref 45 ∷ []) ∷ method (Small 28674 ∷ Small primitive ∷ nil ∷ []) (120 ∷ []) ∷ others

-- The bytecode sends to this primitive, for a receiver on top of the stack. An object is there that nothing names.
unfoldable asking : ℕ → Value → List (Option Object) → World → State Table
unfolding state within around pending in_context objects code context process idle semaphore empty list_of method plain pointers sending understanding with_primitive
asking primitive receiver others w = state w (in_context 39 8 1) (objects understanding None (Ref 36)
    (list_of (Ref 37) (Ref 38) ∷ empty ∷ empty ∷ idle 0 ∷ idle 0
    ∷ process nil nil 4 nil ∷ process (Ref 38) (Ref 40) 4 (Ref 31) ∷ process nil (Ref 41) 4 (Ref 31)
    ∷ context 9 3 receiver nil ∷ context 8 0 nil nil ∷ context 8 0 nil nil ∷ sending ∷ with_primitive primitive (plain [] ∷ others)))

-- the receiver stays, and what nothing names is gone
unfoldable asked : ℕ → Value → List (Option Object) → World → State Table
unfolding state within around pending in_context objects code context process idle semaphore empty list_of method plain pointers sending understanding with_primitive
asked primitive receiver others w = state w (in_context 39 9 1) (objects understanding None (Ref 36)
    (list_of (Ref 37) (Ref 38) ∷ empty ∷ empty ∷ idle 0 ∷ idle 0
    ∷ process nil nil 4 nil ∷ process (Ref 38) (Ref 40) 4 (Ref 31) ∷ process nil (Ref 41) 4 (Ref 31)
    ∷ context 9 3 receiver nil ∷ context 8 0 nil nil ∷ context 8 0 nil nil ∷ sending ∷ with_primitive primitive (None ∷ others)))

-- 97, 113 and 114 end the cycle with what they ask for. Reclaiming and the warning are done before: 37 objects are left, so that 63
-- entries are free.
asks : Ends (asking 97 (Small 5) [] (low (Ref 34) 64 0 [])) (Went (With outcome.Snapshot) (asked 97 (Small 5) [] (low nil 64 0 (Ref 34 ∷ []))))
    × Ends (asking 113 (Small 5) [] (low (Ref 34) 64 0 [])) (Went (With outcome.Quit) (asked 113 (Small 5) [] (low nil 64 0 (Ref 34 ∷ []))))
    × Ends (asking 114 (Small 5) [] (low (Ref 34) 64 0 [])) (Went (With outcome.Debugger) (asked 114 (Small 5) [] (low nil 64 0 (Ref 34 ∷ []))))
    × Ends (asking 97 (Small 5) [] (low (Ref 34) 63 0 [])) (Went (With outcome.Snapshot) (asked 97 (Small 5) [] (low (Ref 34) 63 0 [])))
unfolding opened state within around pending in_context objects code context process idle semaphore empty list_of method plain pointers sending understanding with_primitive low asking asked
asks = ((refl, refl), (refl, refl), (refl, refl), (refl, refl))

unfoldable text : Option Object
unfolding bytes
text = bytes 6 (104 ∷ 105 ∷ [])

-- so does 128, whose receiver is of kind Bytes
asks_to_say : Ends (asking 128 (Ref 47) (text ∷ []) (low (Ref 34) 63 0 [])) (Went (With (outcome.Say (Ref 47))) (asked 128 (Ref 47) (text ∷ []) (low nil 63 0 (Ref 34 ∷ []))))
unfolding opened state within around pending in_context objects code context process idle semaphore empty list_of method plain pointers bytes sending understanding with_primitive text low asking asked
asks_to_say = (refl, refl)

-- a run ends there, and that cycle is finished
run_asks : (run table 5 (asking 113 (Small 5) [] (pending [])) ≡ Went (With outcome.Quit) (asked 113 (Small 5) [] (pending [])))
    × (run_of foreseen_cycle 5 (asking 113 (Small 5) [] (pending [])) ≡ Went (With outcome.Quit) (asked 113 (Small 5) [] (pending [])))
    × (finished table 5 (asking 113 (Small 5) [] (pending [])) ≡ 1)
unfolding opened state within around pending in_context objects code context process idle semaphore empty list_of method plain pointers sending understanding with_primitive asking asked
run_asks = (refl, refl, refl)

-- The bytecode sends to 86, and the active process waits at the semaphore. The switch to the highest that is ready comes with the next
-- cycle, whose bytecode is that one's.
waited : GoesOn (state (pending []) (in_context 39 8 1) (objects understanding None (Ref 36)
    (list_of (Ref 38) (Ref 38) ∷ list_of (Ref 37) (Ref 37) ∷ empty ∷ idle 0 ∷ idle 0
    ∷ process nil nil 4 nil ∷ process nil (Ref 40) 5 (Ref 32) ∷ process nil (Ref 41) 4 (Ref 31)
    ∷ context 9 3 (Ref 34) nil ∷ context 10 0 nil nil ∷ context 10 0 nil nil ∷ sending ∷ with_primitive 86 [])))
    (state (switching (Ref 37)) (in_context 39 9 1) (objects understanding None (Ref 36)
    (list_of (Ref 38) (Ref 38) ∷ empty ∷ empty ∷ semaphore (Ref 36) (Ref 36) 0 ∷ idle 0
    ∷ process nil nil 4 (Ref 34) ∷ process nil (Ref 40) 5 (Ref 32) ∷ process nil (Ref 41) 4 (Ref 31)
    ∷ context 9 3 (Ref 34) nil ∷ context 10 0 nil nil ∷ context 10 0 nil nil ∷ sending ∷ with_primitive 86 [])))
    × GoesOn (state (switching (Ref 37)) (in_context 39 9 1) (objects understanding None (Ref 36)
    (list_of (Ref 38) (Ref 38) ∷ empty ∷ empty ∷ semaphore (Ref 36) (Ref 36) 0 ∷ idle 0
    ∷ process nil nil 4 (Ref 34) ∷ process nil (Ref 40) 5 (Ref 32) ∷ process nil (Ref 41) 4 (Ref 31)
    ∷ context 9 3 (Ref 34) nil ∷ context 10 0 nil nil ∷ context 10 0 nil nil ∷ sending ∷ with_primitive 86 [])))
    (state (pending []) (in_context 40 10 1) (objects understanding None (Ref 37)
    (list_of (Ref 38) (Ref 38) ∷ empty ∷ empty ∷ semaphore (Ref 36) (Ref 36) 0 ∷ idle 0
    ∷ process nil (Ref 39) 4 (Ref 34) ∷ process nil (Ref 40) 5 (Ref 32) ∷ process nil (Ref 41) 4 (Ref 31)
    ∷ context 10 1 (Ref 34) nil ∷ context 10 0 (Small 2) nil ∷ context 10 0 nil nil ∷ sending ∷ with_primitive 86 [])))
unfolding opened state within around pending in_context objects code context process idle semaphore empty list_of method plain pointers sending understanding with_primitive switching
waited = ((refl, refl), (refl, refl))

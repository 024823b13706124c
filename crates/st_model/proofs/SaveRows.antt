-- Worked rows of saving, computed from the definitions.
use Rattle.std.proofs.Common.{◌≡◌, ℕ, List, [], ◌∷◌, Some, None, Option, refl}
use Rattle.std.specs.Prelude.{pos, replicate}
use Rattle.st_model.specs.declared.kind.Kind.TheVariants as kind
use Rattle.st_model.specs.declared.dead.Dead.TheVariants as dead
use Rattle.st_model.specs.Values.{Value, Small, Ref}
use Rattle.st_model.specs.Objects.{Object, nil}
use Rattle.st_model.specs.Machine.{State, World, Died, Went, empty_world}
use Rattle.st_model.specs.Table.{Table, table}
use Rattle.st_model.specs.Births.{births}
use Rattle.st_model.specs.Show.{raised}
use Rattle.st_model.specs.Contexts.{fetch_scheduled_registers}
use Rattle.st_model.specs.Saving.{save}
use Rattle.st_model.proofs.Opened.{opened}
use Rattle.st_model.proofs.StorageRows.{pointers, method}
use Rattle.st_model.proofs.CycleRows.{plain, list_of, empty, semaphore, idle, process, context, objects, in_context, within, state, around, code, switching}

-- The image with one process: the scheduler 29, whose active process is this one, the process 30 with this context, the context 31
-- with a large stack, and the method 32. From 33 on are the objects of a row.
unfoldable alone : Value → Value → Option Object → List (Option Object) → Table
unfolding plain pointers method
alone scheduled suspended active others =
    None ∷ plain [] ∷ plain [] ∷ plain [] ∷ plain (nil ∷ Ref 29 ∷ []) ∷ None ∷ plain [] ∷ plain [] ∷ plain [] ∷ None ∷ None
    ∷ plain [] ∷ plain [] ∷ plain [] ∷ plain [] ∷ None ∷ plain [] ∷ plain [] ∷ None ∷ None ∷ plain [] ∷ plain [] ∷ plain []
    ∷ None ∷ plain [] ∷ plain [] ∷ plain [] ∷ None ∷ plain [] ∷ plain (nil ∷ scheduled ∷ []) ∷ plain (nil ∷ suspended ∷ Small 4 ∷ nil ∷ [])
    ∷ active ∷ method (Small 128 ∷ []) (118 ∷ 119 ∷ 104 ∷ 163 ∷ 251 ∷ []) ∷ others

-- the context, with its pointers in stored form and three words on its stack
unfoldable running : ℕ → ℕ → Option Object
unfolding pointers
running ip sp = pointers 11 (nil ∷ Small ip ∷ Small sp ∷ Ref 32 ∷ nil ∷ nil ∷ Small 2 ∷ Small 1 ∷ Small 2 ∷ replicate 9 nil)

-- the registers of the context 31, with its next byte and so many words on its stack
unfoldable in_process : ℕ → ℕ → Table → State Table
in_process ip sp t = record {
  memory = t;
  registers = record { active = Ref 31; home = Ref 31; method = Ref 32; receiver = nil; ip = pos ip; sp = sp };
  world = empty_world nil;
  head = record { entries = 32767; words = 1048576; globals = None; symbols = None };
}

-- The registers are stored in the context, and it is the process's, whatever that had before. They are fetched again as they were.
-- What nothing names is gone.
saved : (save table (in_process 2 7 (alone (Ref 30) (Ref 31) (running 3 1) [])) ≡ Went tt (in_process 2 7 (alone (Ref 30) (Ref 31) (running 3 2) [])))
    × (save table (in_process 5 8 (alone (Ref 30) nil (running 3 1) [])) ≡ Went tt (in_process 5 8 (alone (Ref 30) (Ref 31) (running 6 3) [])))
    × (save table (in_process 2 5 (alone (Ref 30) (Small 7) (running 3 1) (plain (Ref 33 ∷ []) ∷ plain [] ∷ []))) ≡ Went tt (in_process 2 5 (alone (Ref 30) (Ref 31) (running 3 0) (plain (Ref 33 ∷ []) ∷ None ∷ []))))
unfolding opened in_process running alone method plain pointers
saved = (refl, refl, refl)

-- a machine that begins with it has these registers
begun_again : (fetch_scheduled_registers table).run (record (in_process 0 5 (alone (Ref 30) (Ref 31) (running 6 3) [])) { registers = record { active = nil; home = nil; method = nil; receiver = nil; ip = pos 0; sp = 5 } })
    ≡ Went tt (in_process 5 8 (alone (Ref 30) (Ref 31) (running 6 3) []))
unfolding opened in_process running alone method plain pointers
begun_again = refl

-- Where the scheduler names itself as the process, its field becomes the context, whose instruction pointer is no context.
no_context : save table (in_process 2 6 (alone (Ref 29) (Ref 31) (running 3 1) [])) ≡ Died dead.Small
unfolding opened in_process running alone method plain pointers
no_context = refl

-- The scheduler's process has a field for the context, and the context fields for the registers; the context's own fields are
-- fetched again.
not_saved : (save table (in_process 2 6 (alone nil (Ref 31) (running 3 1) [])) ≡ Died dead.Field)
    × (save table (in_process 2 6 (alone (Small 30) (Ref 31) (running 3 1) [])) ≡ Died dead.Small)
    × (save table (in_process 2 6 (alone (Ref 32) (Ref 31) (running 3 1) [])) ≡ Died dead.Kind)
    × (save table (in_process 2 6 (alone (Ref 30) (Ref 31) (plain (nil ∷ nil ∷ [])) [])) ≡ Died dead.Field)
    × (save table (in_process 2 6 (alone (Ref 30) (Ref 31) (Some (record { class = 7; kind = kind.Bytes; fields = []; units = 1 ∷ 2 ∷ 3 ∷ 4 ∷ [] })) [])) ≡ Died dead.Kind)
    × (save table (in_process 2 8 (alone (Ref 30) (Ref 31) (pointers 11 (nil ∷ Small 3 ∷ Small 1 ∷ Ref 32 ∷ nil ∷ nil ∷ Small 2 ∷ Small 1 ∷ [])) [])) ≡ Died dead.Sp)
unfolding opened in_process running alone method plain pointers
not_saved = (refl, refl, refl, refl, refl, refl)

-- The process 36 is active and ready, 37 is this new process that waits, and 38 is ready too.
unfoldable before_switch : World → List (Option Object) → State Table
unfolding state within in_context objects code context process idle semaphore empty list_of method plain pointers
before_switch w others = state w (in_context 39 6 1) (objects [] None (Ref 36)
    (list_of (Ref 38) (Ref 36) ∷ empty ∷ empty ∷ idle 0 ∷ idle 0 ∷ process nil nil 4 (Ref 31) ∷ process nil (Ref 40) 6 (Ref 34) ∷ process (Ref 36) (Ref 41) 4 (Ref 31)
    ∷ context 9 3 (Small 8) nil ∷ context 8 1 (Small 9) nil ∷ context 7 0 nil nil ∷ code ∷ others))

-- 37 is active, and both contexts have their registers
unfoldable after_switch : World → List (Option Object) → State Table
unfolding state within in_context objects code context process idle semaphore empty list_of method plain pointers
after_switch w others = state w (in_context 40 7 1) (objects [] None (Ref 37)
    (list_of (Ref 38) (Ref 36) ∷ empty ∷ empty ∷ idle 0 ∷ idle 0 ∷ process nil (Ref 39) 4 (Ref 31) ∷ process nil (Ref 40) 6 (Ref 34) ∷ process (Ref 36) (Ref 41) 4 (Ref 31)
    ∷ context 7 1 (Small 8) nil ∷ context 8 1 (Small 9) nil ∷ context 7 0 nil nil ∷ code ∷ others))

-- A switch that waits is carried out first. Saving what was saved changes nothing. What nothing names is gone.
switch_saved : (save table (before_switch (switching (Ref 37)) (plain [] ∷ [])) ≡ Went tt (after_switch (switching nil) (None ∷ [])))
    × (save table (after_switch (switching nil) []) ≡ Went tt (after_switch (switching nil) []))
unfolding opened before_switch after_switch state within in_context objects code context process idle semaphore empty list_of method plain pointers switching
switch_saved = (refl, refl)

-- the same over births
switch_saved_over_births : save births (raised (before_switch (switching (Ref 37)) [])) ≡ Went tt (raised (after_switch (switching nil) []))
unfolding opened before_switch after_switch state within in_context objects code context process idle semaphore empty list_of method plain pointers switching raised
switch_saved_over_births = refl

-- signals that are pending, words that wait, an input semaphore, the mouse and the clocks
unfoldable busy : World
unfolding around
busy = record (around (7 ∷ 9 ∷ []) (Ref 34) (Ref 34 ∷ Ref 35 ∷ [])) { mouse_x = 3; mouse_y = 4; second_clock = 5; millisecond_clock = 6 }

-- No signal is made before a save, and what lies round the machine stays. Without a switch the process 37 is in no list here, and so it
-- is gone, with its context.
world_kept : save table (before_switch busy [])
    ≡ Went tt (state busy (in_context 39 6 1) (objects [] None (Ref 36)
    (list_of (Ref 38) (Ref 36) ∷ empty ∷ empty ∷ idle 0 ∷ idle 0 ∷ process nil (Ref 39) 4 (Ref 31) ∷ None ∷ process (Ref 36) (Ref 41) 4 (Ref 31)
    ∷ context 7 1 (Small 8) nil ∷ None ∷ context 7 0 nil nil ∷ code ∷ [])))
unfolding opened before_switch busy state within in_context objects code context process idle semaphore empty list_of method plain pointers around
world_kept = refl

-- The laws that join the book's machine, over births, to the code's, over tables.
use Rattle.std.specs.Prelude.{◌≡◌, ◌≤◌, ℕ, length, slice_get, Some, true}
use Rattle.st_model.specs.Values.{Value, Ref}
use Rattle.st_model.specs.Objects.{Object, is_bytes}
use Rattle.st_model.specs.Outcomes.{With, Say}
use Rattle.st_model.specs.Machine.{State, Step, Went, ◌>>◌}
use Rattle.st_model.specs.Formed.{IsWord, IsFormed}
use Rattle.st_model.specs.Births.{Births, births, births_with, borne, object_born}
use Rattle.st_model.specs.declared.event.Event.{Event}
use Rattle.st_model.specs.Table.{Table, entry, table, apart, bounded_table}
use Rattle.st_model.specs.Contexts.{fetch_scheduled_registers}
use Rattle.st_model.specs.Steps.{top, look_at_words}
use Rattle.st_model.specs.Executing.{respond_or_perform}
use Rattle.st_model.specs.Bytecodes.{step}
use Rattle.st_model.specs.Cycles.{check_process_switch, cycle, run, run_of, finished, finished_of}
use Rattle.st_model.specs.Events.{event}
use Rattle.st_model.specs.Saving.{store_process, settled_after, save}
use Rattle.st_model.specs.Show.{Shows, IsClosed, raised}
use Rattle.st_model.specs.inside.Foreseen.{KeepsClosed, foreseen_cycle, IsSound, EndsShown, ShownAgain, ShownIfTaken, Foretells, DoesWithin}

-- what is foreseen over a table of 32768 places is what the births do
abbrev pub ApartForetells : Type 0
ApartForetells = (c : State Table) (s : State Births) → Shows c s → length c.memory ≡ 32768
    → Foretells ((step apart).run c) ((step births).run s)

-- and what the births do within the capacities the bounded table does
abbrev pub BoundedDoes : Type 0
BoundedDoes = (c : State Table) (s : State Births) → Shows c s → length c.memory ≡ 32768 → DoesWithin c s

-- with another object under each name under which none was born, a step does the same
abbrev pub MissesNothing : {A : Type 0} → Step Births A → (Object → Step Births A) → Type 0
MissesNothing over_births over_more = (o : Object) (c : State Table) (s : State Births) → Shows c s → (over_more o).run s ≡ over_births.run s

-- so does a bytecode
abbrev pub StepMissesNothing : Type 0
StepMissesNothing = MissesNothing (step births) (λ o. step (births_with o))

-- what comes before it
abbrev pub SwitchMissesNothing : Type 0
SwitchMissesNothing = MissesNothing (check_process_switch births) (λ o. check_process_switch (births_with o))

-- and what stores a process
abbrev pub StoreMissesNothing : Type 0
StoreMissesNothing = MissesNothing (store_process births) (λ o. store_process (births_with o))

-- a running machine begins with a table of 32768 places, in which nothing dangles, that shows the births; of entries its
-- capacity is at most 32767
pub record Runs (c : State Table) (s : State Births) : Type 0 where
  pub shows : Shows c s
  pub sound : IsSound c
  pub entries : c.head.entries ≤ 32767

-- after n cycles it shows the births, or has died of the cause of which they died
abbrev pub RunsShow : Type 0
RunsShow = (n : ℕ) (c : State Table) (s : State Births) → Runs c s → EndsShown (run_of foreseen_cycle n c) (run births n s)

-- and as many are finished
abbrev pub RunsCount : Type 0
RunsCount = (n : ℕ) (c : State Table) (s : State Births) → Runs c s → finished_of foreseen_cycle n c ≡ finished births n s

-- the registers that are fetched over the births that a closed table is raised to are those that are fetched over it
abbrev pub StartShows : Type 0
StartShows = (c : State Table) → IsClosed c
    → ShownAgain ((fetch_scheduled_registers table).run c) ((fetch_scheduled_registers births).run (raised c))

-- an event makes of the table what shows what it makes of the births, or is taken by neither
abbrev pub EventShows : Type 0
EventShows = (e : Event) (c : State Table) (s : State Births) → Shows c s → ShownIfTaken (event table e c) (event births e s)

-- a process that is stored over the table, with what is dropped then, shows the births that are saved
abbrev pub SaveShows : Type 0
SaveShows = (c : State Table) (s : State Births) → Runs c s → ShownAgain (settled_after table ((store_process bounded_table).run c)) (save births s)

-- A table whose objects are what their kinds say shows births in which each SmallInteger of a kept object has 15 bits.
abbrev pub KeptAreWords : Type 0
KeptAreWords = (c : State Table) (s : State Births) → Shows c s → ((k : ℕ) (o : Object) → entry c.memory k ≡ Some o → IsFormed o)
    → (n p : ℕ) (o : Object) → borne s.memory n ≡ Some p → object_born s.memory n ≡ Some o → (i : ℕ) (x : Value) → slice_get o.fields i ≡ Some x → IsWord x

-- the object of this name is of kind Bytes
abbrev pub IsOfBytes : Births → Value → Type 0
IsOfBytes h v = (n : ℕ) × (o : Object) × (v ≡ Ref n) × (object_born h n ≡ Some o) × (is_bytes o.kind ≡ true)

-- what a cycle of the book's machine says is the bytes of such an object
abbrev pub SaysBytes : Type 0
SaysBytes = (s t : State Births) (v : Value) → cycle births s ≡ Went (With (Say v)) t → IsOfBytes t.memory v

-- A primitive by its number, once receiver and arguments were looked at, leaves a closed table closed.
abbrev pub PrimitivesKeepClosed : Type 0
PrimitivesKeepClosed = (k n : ℕ) → KeepsClosed (look_at_words bounded_table n >> respond_or_perform bounded_table k n)

-- what it says is the word at the top of the stack that it leaves
abbrev pub PrimitivesSayTop : Type 0
PrimitivesSayTop = (k n : ℕ) (s t : State Table) (v : Value) → (look_at_words bounded_table n >> respond_or_perform bounded_table k n).run s ≡ Went (Some (Say v)) t
    → (top bounded_table).run t ≡ Went v t

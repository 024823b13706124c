-- The image of a kernel text, or the first chunk at which it is wrong.
use Rattle.std.specs.Prelude.{ℕ, ◌+◌, List, [], ◌∷◌, Bool, true, false, Option, Some, None, Result, Ok, Err, if◌then◌else◌}
use Rattle.st_model.specs.Machine.{Head, State, Transition, Died, Went}
use Rattle.st_model.specs.Births.{Births}
use Rattle.st_model.specs.Table.{Table}
use Rattle.st_model.specs.Show.{show, raised}
use Rattle.st_model.specs.Start.{idle_state}
use Rattle.st_kernel_text.specs.declared.cause.Cause.{Cause}
use Rattle.st_kernel_text.specs.declared.cause.Cause.TheVariants.{Form, Name, Variables, Missing}
use Rattle.st_kernel_text.specs.Parts.{Side, Start, Part, opening, header, method, start}
use Rattle.st_kernel_text.specs.Definitions.{definition_by}
use Rattle.st_kernel_text.specs.Texts.{Account, account}
use Rattle.st_first_objects.specs.First.{first_view, has_room}
use Rattle.st_protocol.specs.Installing.{Install, Installed, Refused, Accepted}
use Rattle.st_kernel.specs.Starting.{begin_by}

-- an image: its objects, and what its head says
pub record Built : Type 0 where
  pub objects : Table
  pub head : Head

-- The first chunk that is wrong, counted from 1, and the least cause there: 1 its form, 2 a name, 3 variables, 4 a needed class,
-- 5 a method that is refused, 6 a start that finds no method without arguments, 7 objects that have no room.
pub record Fault : Type 0 where
  pub chunk : ℕ
  pub cause : ℕ

abbrev pub fault_at : (chunk cause : ℕ) → Result Built Fault
fault_at chunk cause = Err (record { chunk = chunk; cause = cause })

abbrev pub cause_number : Cause → ℕ
cause_number Form = 1
cause_number Name = 2
cause_number Variables = 3
cause_number Missing = 4

-- behind all parts stands the cause at which reading stopped; a text without a start isn't in its form
abbrev pub unfinished : (chunk : ℕ) → Option Cause → Result Built Fault
unfinished n None = fault_at n 1
unfinished n (Some cause) = fault_at n (cause_number cause)

-- THE START

-- behind the start the text is over, or there stands the cause at which reading stopped
abbrev pub finished : (chunk : ℕ) → Option Cause → Result Built Fault → Result Built Fault
finished n cause (Err fault) = Err fault
finished n None (Ok b) = Ok b
finished n (Some cause) (Ok b) = fault_at n (cause_number cause)

-- what is said where the first process was begun so
abbrev pub begun_as : (chunk : ℕ) → Transition (State Table) Bool → Result Built Fault
begun_as n (Died cause) = fault_at n 6
begun_as n (Went false c) = fault_at n 7
begun_as n (Went true c) = Ok (record { objects = c.memory; head = c.head })

-- the first process is begun in the table that the births show
abbrev pub begun_in : (chunk : ℕ) → Start → State Table → Result Built Fault
begun_in n s c = begun_as n ((begin_by c.head s).run c)

-- METHODS

-- the method is refused, or the text goes on over the births with it
abbrev pub with_installed : (chunk : ℕ) → Installed → (State Births → Result Built Fault) → Result Built Fault
with_installed n (Refused why) goes_on = fault_at n 5
with_installed n (Accepted selector after) goes_on = goes_on after

-- THE TEXT

-- The chunks from the one of this number on, over the births that those before it left. Methods are of the side of a class that the
-- last header named.
unfoldable pub built_from : Install → Option Cause → (chunk : ℕ) → State Births → Side → List Part → Result Built Fault
built_from install cause n s side [] = unfinished n cause
built_from install cause n s side (header named ∷ parts) = built_from install cause (n + 1) s named parts
built_from install cause n s side (method text ∷ parts) =
    with_installed n (install (definition_by side text) s) (λ t. built_from install cause (n + 1) t side parts)
built_from install cause n s side (start first ∷ parts) = finished (n + 1) cause (begun_in n first (show s))
built_from install cause n s side (part ∷ parts) = built_from install cause (n + 1) s side parts

-- before the first header
abbrev pub no_side : Side
no_side = record { class = []; meta = false }

-- The same where the first objects have no room, behind the chunk that opened the last group. They are to have room where the group of
-- the first method opens. A text without a method has none that its start could find.
unfoldable pub without_room : Option Cause → (opened chunk : ℕ) → List Part → Result Built Fault
without_room cause opened n [] = unfinished n cause
without_room cause opened n (opening ∷ parts) = without_room cause n (n + 1) parts
without_room cause opened n (method text ∷ parts) = fault_at opened 7
without_room cause opened n (start first ∷ parts) = fault_at n 6
without_room cause opened n (part ∷ parts) = without_room cause opened (n + 1) parts

-- the objects that the declarations make are the first births
abbrev pub built_by : Install → Account → Result Built Fault
built_by install a =
    if has_room a
    then built_from install a.cause 1 (raised (idle_state (first_view a))) no_side a.parts
    else without_room a.cause 0 1 a.parts

abbrev pub built : Install → (text : List ℕ) → Result Built Fault
built install text = built_by install (account text)

-- The state over the table that the objects and the registers of a row make, and what a call of a row does to it.
use Rattle.std.specs.Prelude.{◌≡◌, ℕ, ◌+◌, ◌≤◌, Bool, true, false, Result, Ok, Err}
use Rattle.st_model.specs.declared.dead.Dead.{Dead}
use Rattle.st_model.specs.declared.deed.Deed.{Deed}
use Rattle.st_model.specs.declared.deed.Deed.TheVariants.{Nothing}
use Rattle.st_model.specs.Outcomes.{Outcome}
use Rattle.st_model.specs.Outcomes as outcome
use Rattle.st_model.specs.Values.{word}
use Rattle.st_model.specs.Machine.{Registers, Head, State, Step}
use Rattle.st_model.specs.Table.{Table}
use Rattle.st_model.specs.inside.Calls.{Does}
use Rattle.st_model.specs.Deeds.{with_deed}
use Rattle.st_memory.specs.declared.objects.Objects.{Ghosts}
use Rattle.st_frames.specs.declared.registers.Registers.{Registers as Words}
use Rattle.st_frames.specs.declared.fetched.Fetched.{Fetched}
use Rattle.st_frames.specs.declared.tried.Tried.{Tried}
use Rattle.st_frames.specs.declared.tried.Tried.TheVariants.{Failed, Done, Leaves}
use Rattle.st_frames.specs.declared.ending.RowEnd.{RowEnd}
use Rattle.st_frames.specs.declared.ending.RowEnd.TheVariants as rows

abbrev pub registers_in : Words → Registers
registers_in r = record { active = word r.active; home = word r.home; method = word r.method; receiver = word r.receiver; ip = r.ip; sp = r.sp }

abbrev pub fetched_in : Fetched → Registers
fetched_in f = record { active = word f.active; home = word f.home; method = word f.method; receiver = word f.receiver; ip = f.ip; sp = f.sp }

-- the state over the table, with the world that the registers have beside them
unfoldable pub row_state : Table → Head → Words → State Table
row_state t a r = record { memory = t; registers = registers_in r; world = r.world.now; head = a }

-- the state that objects and registers make
abbrev pub state_of : {M : Type 0} → Ghosts M → M → Words → State Table
state_of o m r = row_state (o.table m) (o.head m) r

-- the call is this step, which leaves objects and registers as they are
abbrev pub RowReads : {M A B : Type 0} → Ghosts M → Step Table A → (B → A) → M → Words → Result B Dead → Type 0
RowReads o step f m r result = Does step f (state_of o m r) result (state_of o m r)

-- the call is this step, and leaves the world that the registers have beside them
pub record RowDoes {M A B : Type 0} (o : Ghosts M) (step : Step Table A) (f : B → A) (m : M) (r : Words) (result : Result B Dead) (n : M) (q : Words) : Type 0 where
  pub does : Does step f (state_of o m r) result (state_of o n q)
  pub world : q.world.now ≡ r.world.now

-- the call is this step, which leaves the objects as they are
abbrev pub RowMoves : {M A B : Type 0} → Ghosts M → Step Table A → (B → A) → M → Words → Result B Dead → Words → Type 0
RowMoves o step f m old result new = RowDoes o step f m old result m new

-- the state in which is done besides what a call leaves to be done, where it has a result
abbrev pub with_left : {B : Type 0} → (B → Deed) → Result B Dead → State Table → State Table
with_left g (Ok b) s = with_deed (g b) s
with_left g (Err cause) s = s

-- The call is this step but for a deed, which it leaves to be done; and it leaves the world that the registers have beside them.
-- For example `aString at: 1 put: $x`: the call pops receiver and arguments and pushes $x. The deed stores 120 as byte 0 of the string.
pub record RowLeaves {M A B : Type 0} (o : Ghosts M) (step : Step Table A) (f : B → A) (g : B → Deed) (m : M) (r : Words)
    (result : Result B Dead) (n : M) (q : Words) : Type 0 where
  pub does : Does step f (state_of o m r) result (with_left g result (state_of o n q))
  pub world : q.world.now ≡ r.world.now

-- whether a primitive succeeded that was tried
abbrev pub is_done : Tried → Bool
is_done Failed = false
is_done Done = true
is_done Leaves = true

-- and which deed it leaves to be done, if this is the one in the registers
abbrev pub deed_of_trial : Deed → Tried → Deed
deed_of_trial left Failed = Nothing
deed_of_trial left Done = Nothing
deed_of_trial left Leaves = left

-- the call tries a primitive, which is this step but for the deed that it leaves in the registers
abbrev pub RowTries : {M : Type 0} → Ghosts M → Step Table Bool → M → Words → Result Tried Dead → M → Words → Type 0
RowTries o step m r result n q = RowLeaves o step is_done (deed_of_trial q.left) m r result n q

-- the outcome of a step whose row left these registers and ended so
abbrev pub outcome_in : Words → RowEnd → Outcome
outcome_in q rows.Went = outcome.Went
outcome_in q rows.Leaves = outcome.Went
outcome_in q rows.Says = outcome.Say (word q.said)
outcome_in q rows.Snapshot = outcome.Snapshot
outcome_in q rows.Quit = outcome.Quit
outcome_in q rows.Debugger = outcome.Debugger

-- and the deed that it leaves to be done
abbrev pub deed_in : Words → RowEnd → Deed
deed_in q rows.Went = Nothing
deed_in q rows.Leaves = q.left
deed_in q rows.Says = Nothing
deed_in q rows.Snapshot = Nothing
deed_in q rows.Quit = Nothing
deed_in q rows.Debugger = Nothing

-- the call is this step but for the deed that it leaves in the registers
abbrev pub RowEnds : {M : Type 0} → Ghosts M → Step Table Outcome → M → Words → Result RowEnd Dead → M → Words → Type 0
RowEnds o step m r result n q = RowLeaves o step (outcome_in q) (deed_in q) m r result n q

-- The call takes at most so many changes, and leaves what is fixed. For example a push stores one field of the active context, so it
-- takes 1.
pub record Takes {M : Type 0} (o : Ghosts M) (most : ℕ) (old new : M) : Type 0 where
  pub room : o.room old ≤ o.room new + most
  pub fixed : o.fixed new ≡ o.fixed old

-- of a primitive that was tried: none where it failed
abbrev pub tried_changes : ℕ → Result Tried Dead → ℕ
tried_changes most (Ok Failed) = 0
tried_changes most (Ok Done) = most
tried_changes most (Ok Leaves) = most
tried_changes most (Err cause) = most

-- Bounds of how many changes are made. An object that is made counts as one, and as one more for each 2,048 words of its body.

-- by what activates a method: its context and four fields, the words that are passed, and two fields of the context that is left
abbrev pub activation_changes : ℕ
activation_changes = 8

-- by a primitive on objects, besides the deed that it leaves: an object of at most 65,533 words, which counts as 32, and the answer
abbrev pub storage_changes : ℕ
storage_changes = 33

-- by a primitive on blocks: a block of at most 65,533 words and five of its fields, and the answer
abbrev pub block_changes : ℕ
block_changes = 38

-- by a primitive on processes and devices, besides the deed that it leaves
abbrev pub process_changes : ℕ
process_changes = 7

-- by what responds to a primitive: it may activate the method once one on objects was tried
abbrev pub response_changes : ℕ
response_changes = storage_changes + activation_changes

-- by a send: an Array of at most 16,383 arguments, which counts as 8, and what is copied into it; a Message and its two fields, which
-- is pushed
abbrev pub send_changes : ℕ
send_changes = 13

-- by what executes a method: it may perform a selector, and so arrange the stack and send before it responds
abbrev pub execution_changes : ℕ
execution_changes = 1 + send_changes + response_changes

-- by a jump on a condition: a word is pushed, and a send
abbrev pub jump_changes : ℕ
jump_changes = 1 + send_changes

-- by a return: two words are pushed, and a send
abbrev pub return_changes : ℕ
return_changes = 2 + send_changes

-- by each of these with the execution of what was called
abbrev pub executed_send_changes : ℕ
executed_send_changes = send_changes + execution_changes

abbrev pub executed_jump_changes : ℕ
executed_jump_changes = jump_changes + execution_changes

abbrev pub executed_return_changes : ℕ
executed_return_changes = return_changes + execution_changes

-- by a bytecode, of which a return makes the most: 70
abbrev pub bytecode_changes : ℕ
bytecode_changes = executed_return_changes

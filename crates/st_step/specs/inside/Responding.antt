-- Parts of how a method responds that is executed, and what a call leaves that tries a primitive.
use Rattle.std.specs.Prelude.{◌≡◌, ℕ, Result, Ok, Err, IfOk, Option, Some, None}
use Rattle.std.specs.Option.{option_map}
use Rattle.st_model.specs.declared.dead.Dead.{Dead}
use Rattle.st_model.specs.declared.deed.Deed.{Deed}
use Rattle.st_model.specs.declared.deed.Deed.TheVariants.{Nothing}
use Rattle.st_model.specs.declared.word.Word.{Word}
use Rattle.st_model.specs.Values.{word}
use Rattle.st_model.specs.Machine.{ObjectMemory, Step}
use Rattle.st_model.specs.Outcomes.{Outcome}
use Rattle.st_model.specs.Executing.{execute_found}
use Rattle.st_model.specs.Table.{Table}
use Rattle.st_memory.specs.declared.objects.Objects.{Ghosts}
use Rattle.st_frames.specs.declared.registers.Registers.{Registers as Words}
use Rattle.st_frames.specs.declared.ending.RowEnd.{RowEnd}
use Rattle.st_frames.specs.declared.ending.RowEnd.TheVariants as rows
use Rattle.st_frames.specs.declared.tried.Tried.{Tried}
use Rattle.st_frames.specs.declared.tried.Tried.TheVariants.{Failed, Done, Leaves}
use Rattle.st_frames.specs.inside.Rows.{RowLeaves, state_of, outcome_in, deed_in, storage_changes}
use Rattle.st_lookup.specs.inside.Places.{found_word}
use Rattle.st_control.specs.declared.sent.Sent.{Sent}

-- a message that was sent, with the method that was found for it, if there is one
abbrev pub execute_sent : {H : Type 0} → ObjectMemory H → Sent → Option Word → Step H Outcome
execute_sent m sent found = execute_found m (word sent.class) (word sent.selector) sent.arguments (found_word found)

-- what a primitive comes to, if it didn't fail, whose row left these registers, and what it leaves to be done
abbrev pub outcome_if_any : Words → Option RowEnd → Option Outcome
outcome_if_any q x = option_map (outcome_in q) x

abbrev pub deed_if_any : Words → Option RowEnd → Deed
deed_if_any q None = Nothing
deed_if_any q (Some end) = deed_in q end

-- the call tries a primitive by its number, which is this step but for the deed that it leaves in the registers
abbrev pub RowResponds : {M : Type 0} → Ghosts M → Step Table (Option Outcome) → M → Words → Result (Option RowEnd) Dead → M → Words → Type 0
RowResponds o step m r result n q = RowLeaves o step (outcome_if_any q) (deed_if_any q) m r result n q

-- a primitive that failed left the state as it was
abbrev pub StaysIfFailed : {M : Type 0} → Ghosts M → M → Words → Result (Option RowEnd) Dead → M → Words → Type 0
StaysIfFailed o m r result n q = IfOk result (λ x. x ≡ None → state_of o n q ≡ state_of o m r)

-- the end of a primitive that its family tried; none where it failed
abbrev pub end_of_trial : Tried → Option RowEnd
end_of_trial Failed = None
end_of_trial Done = Some rows.Went
end_of_trial Leaves = Some rows.Leaves

-- How many changes a primitive makes that is tried by its number: where it failed, no more than one on objects, so that its
-- method can be activated.
abbrev pub number_changes : ℕ → Result (Option RowEnd) Dead → ℕ
number_changes most (Ok None) = storage_changes
number_changes most (Ok (Some end)) = most
number_changes most (Err cause) = most

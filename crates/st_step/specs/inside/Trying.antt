-- A primitive that is called by its number, whatever method has it (chapter 29). It answers how it ended, or none where it
-- failed.
use Rattle.std.specs.Prelude.{◌≡◌, ℕ, Result, IfOk, Option, Some, None}
use Rattle.st_model.specs.declared.dead.Dead.{Dead}
use Rattle.st_model.specs.Values.{Value}
use Rattle.st_model.specs.Outcomes.{Outcome, outcome_of}
use Rattle.st_model.specs.Outcomes as outcome
use Rattle.st_model.specs.Machine.{ObjectMemory, World, Went, Step, ◌>>◌}
use Rattle.st_model.specs.Steps.{top, look_at_words}
use Rattle.st_model.specs.Executing.{respond_or_perform}
use Rattle.st_model.specs.Table.{bounded_table}
use Rattle.st_model.specs.View.{View}
use Rattle.st_frames.specs.declared.frame.Frame.{Frame}
use Rattle.st_frames.specs.declared.registers.Registers.{Registers as Words}
use Rattle.st_frames.specs.declared.ending.RowEnd.{RowEnd}
use Rattle.st_frames.specs.inside.Rows.{outcome_in}
use Rattle.st_frames.specs.inside.Shown.{shown}
use Rattle.st_input.specs.declared.tried.Tried.{Tried}
use Rattle.st_input.specs.declared.tried.Tried.TheVariants as trials

-- what a primitive of the code was that was tried
abbrev pub outcome_of_trial : Tried → Option Outcome
outcome_of_trial trials.Failed = None
outcome_of_trial trials.Done = Some outcome.Went
outcome_of_trial (trials.Outcome o) = Some (outcome_of o)

-- where it failed, memory, registers and world are as they were
abbrev pub IsStill : View → Frame → World → Result Tried Dead → View → Frame → World → Type 0
IsStill v f w result u g x = IfOk result (λ t. t ≡ trials.Failed → (u ≡ v) × (g ≡ f) × (x ≡ w))

-- what a primitive says, whose row ended so and left these registers, is the word at the top of the stack
abbrev pub SaysTop : View → Frame → Words → RowEnd → Type 0
SaysTop v f q end = (w : World) × ((x : Value) → outcome_in q end ≡ outcome.Say x → (top bounded_table).run (shown v f w) ≡ Went x (shown v f w))

module _ {H : Type 0} (m : ObjectMemory H) where
  -- receiver and arguments are looked at first: where one is below the stack, no number fails
  unfoldable pub tried_number : ℕ → ℕ → Step H (Option Outcome)
  tried_number primitive n = do
    look_at_words m n
    respond_or_perform m primitive n

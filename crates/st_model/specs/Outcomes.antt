-- How a bytecode ends that doesn't die, and how a cycle does.
use Rattle.std.specs.Prelude.{ℕ}
use Rattle.st_model.specs.declared.demand.Demand.{Demand}
use Rattle.st_model.specs.declared.outcome.Outcome.{Outcome as CodeOutcome}
use Rattle.st_model.specs.declared.outcome.Outcome.TheVariants as outcomes
use Rattle.st_model.specs.Values.{Value, value, renamed, IsLive}

-- It went on; or something is asked for besides, which is done after the cycle: that an image is saved, that the
-- bytes of an object are said, that the run ends, or that it ends for a debugger.
pub data Outcome : Type 0 where
  Went Snapshot Quit Debugger : Outcome
  Say : Value → Outcome

-- an outcome with its name changed
abbrev pub renamed_outcome : (ℕ → ℕ) → Outcome → Outcome
renamed_outcome f Went = Went
renamed_outcome f Snapshot = Snapshot
renamed_outcome f Quit = Quit
renamed_outcome f Debugger = Debugger
renamed_outcome f (Say v) = Say (renamed f v)

-- an outcome that names only what lives
abbrev pub IsLiveOutcome : (ℕ → Type 0) → Outcome → Type 0
IsLiveOutcome live Went = Unit {0}
IsLiveOutcome live Snapshot = Unit {0}
IsLiveOutcome live Quit = Unit {0}
IsLiveOutcome live Debugger = Unit {0}
IsLiveOutcome live (Say v) = IsLive live v

-- How a cycle ends in which the machine doesn't die: with its bytecode's outcome; or for want of space, with what the
-- bytecode would have taken and what is left.
pub data Ending : Type 0 where
  With : Outcome → Ending
  Space : Demand → Demand → Ending

-- an ending with its name changed
abbrev pub renamed_ending : (ℕ → ℕ) → Ending → Ending
renamed_ending f (With o) = With (renamed_outcome f o)
renamed_ending f (Space demand left) = Space demand left

-- an ending that names only what lives
abbrev pub IsLiveEnding : (ℕ → Type 0) → Ending → Type 0
IsLiveEnding live (With o) = IsLiveOutcome live o
IsLiveEnding live (Space demand left) = Unit {0}

-- what an outcome of the code means
abbrev pub outcome_of : CodeOutcome → Outcome
outcome_of outcomes.Went = Went
outcome_of outcomes.Snapshot = Snapshot
outcome_of (outcomes.Say o) = Say (value o)
outcome_of outcomes.Quit = Quit
outcome_of outcomes.Debugger = Debugger

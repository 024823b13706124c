-- Parts of a cycle.
use Rattle.std.specs.Prelude.{◌≡◌, ◌==◌, ◌&&◌, not, nat_lt, length, Bool, true, false, Result, Ok, Err, Option, Some, None}
use Rattle.st_model.specs.declared.dead.Dead.{Dead}
use Rattle.st_model.specs.declared.deed.Deed.{Deed}
use Rattle.st_model.specs.declared.demand.Demand.{Demand}
use Rattle.st_model.specs.Outcomes.{Outcome, Ending, With, outcome_of}
use Rattle.st_model.specs.Outcomes as outcome
use Rattle.st_model.specs.Machine.{State, World, Transition, Died, Went}
use Rattle.st_model.specs.Objects.{nil}
use Rattle.st_model.specs.Events.{is_held}
use Rattle.st_model.specs.Table.{Table, table, apart}
use Rattle.st_model.specs.Bytecodes.{step}
use Rattle.st_model.specs.Settled.{reclaim}
use Rattle.st_model.specs.Cycles.{is_low, warned}
use Rattle.st_model.specs.Deeds.{with_deed}
use Rattle.st_model.specs.inside.Foreseen.{foreseen}
use Rattle.st_model.specs.declared.outcome.Outcome.TheVariants as code_outcome
use Rattle.st_model.specs.inside.Calls.{transition_of}
use Rattle.st_machine.specs.declared.cycling.CycleEnd.{CycleEnd}
use Rattle.st_machine.specs.declared.cycling.CycleEnd.TheVariants as cycle_end
use Rattle.st_machine.specs.declared.doing.StretchEnd.{StretchEnd}
use Rattle.st_machine.specs.declared.doing.StretchEnd.TheVariants.{ToForesee, Leaves, Warns, Asks}
use Rattle.st_machine.specs.inside.Runs.{ending_of}

-- the cycle from the bytecode on
abbrev pub foreseen_step : State Table → Transition (State Table) Ending
foreseen_step c = foreseen c ((step apart).run c)

-- what comes after a bytecode
abbrev pub Finishes : State Table → State Table → Type 0
Finishes c d = warned table (reclaim table c) ≡ d

-- nothing comes before a bytecode: no signal is pending, and no process waits to be switched to
abbrev pub IsCalm : World → Type 0
IsCalm w = (length w.devices.pending == 0 && not (is_held nil w.devices.new_process)) ≡ true

-- it is to be told that space is low: it is, and there are a semaphore and room for its signal
abbrev pub warns : Demand → World → Bool
warns free w = is_held nil w.devices.low_space && (is_low free w && nat_lt (length w.devices.pending) 4096)

-- A cycle ends so from its bytecode on, with whatever comes of c by what is still to be done.
abbrev pub GoesBy : Transition (State Table) Ending → Outcome → (State Table → Type 0) → Type 0
GoesBy t o left = (d : State Table) → left d → t ≡ Went (With o) d

-- A bytecode that is done without a plan dies as the cycle does, or goes on as that does, or changes nothing; or of the cycle is still to
-- be done the deed that is left and what comes after a bytecode, or the warning alone, or what comes after one that asks for something
-- besides.
abbrev pub GoesCalmly : State Table → Deed → Result (Option StretchEnd) Dead → State Table → Type 0
GoesCalmly c left (Err cause) d = foreseen_step c ≡ Died cause
GoesCalmly c left (Ok None) d = foreseen_step c ≡ Went (With outcome.Went) d
GoesCalmly c left (Ok (Some ToForesee)) d = d ≡ c
GoesCalmly c left (Ok (Some Leaves)) d = GoesBy (foreseen_step c) outcome.Went (Finishes (with_deed left d))
GoesCalmly c left (Ok (Some Warns)) d = GoesBy (foreseen_step c) outcome.Went (λ e. warned table d ≡ e)
GoesCalmly c left (Ok (Some (Asks o))) d = GoesBy (foreseen_step c) (outcome_of o) (Finishes d)

-- what is left of the cycle is done
abbrev pub Follows : Deed → StretchEnd → State Table → Result CycleEnd Dead → State Table → Type 0
Follows left ToForesee c result d = foreseen_step c ≡ transition_of ending_of result d
Follows left Leaves c result d = (result ≡ Ok (cycle_end.With code_outcome.Went)) × Finishes (with_deed left c) d
Follows left Warns c result d = (result ≡ Ok (cycle_end.With code_outcome.Went)) × (warned table c ≡ d)
Follows left (Asks o) c result d = (result ≡ Ok (cycle_end.With o)) × Finishes c d

-- What comes before a bytecode over a memory is shown beside the births.
use Rattle.std.proofs.Common.{◌≡◌, ◌≤◌, Some, None, Ok, Err, sym, subst}
use Rattle.st_model.specs.declared.dead.Dead.{Dead}
use Rattle.st_model.specs.Machine.{World, State, Transition, Died, Went}
use Rattle.st_model.specs.Births.{Births}
use Rattle.st_model.specs.Table.{Table, bounded_table}
use Rattle.st_model.specs.Show.{Shows}
use Rattle.st_model.specs.inside.Foreseen.{IsSound, ShownAgain}
use Rattle.st_model.specs.Cycles.{check_process_switch}
use Rattle.std.specs.Prelude.{Result}
use Rattle.std.specs.Result.{result_err}
use Rattle.st_model.specs.inside.Calls.{Does, itself}
use Rattle.st_model.specs.View.{View, IsWhole}
use Rattle.st_simulation.proofs.Between.{shows_again}
use Rattle.st_simulation.proofs.CyclesSame.{check_process_switch-same}
use Rattle.st_frames.specs.declared.frame.Frame.{Frame}
use Rattle.st_frames.specs.inside.Shown.{shown, IsReady}
use Rattle.st_frames.proofs.Closed.{is_closed}
use Rattle.st_machine.specs.Prepared.{prepared, PreparedAs}

-- where a sound table does what comes before a bytecode, it shows what the births come to, or both die of one cause
pub switch_shows_births : (c : State Table) (s : State Births) → Shows c s → IsSound c → c.head.entries ≤ 32767 → ShownAgain ((check_process_switch bounded_table).run c) (prepared s)
switch_shows_births c s shows sound few = shows_again (λ H m. check_process_switch m) (λ H K M N sim. check_process_switch-same sim) c s shows sound few

module _ (v : View) (f : Frame) (w : World) (whole : IsWhole v) (ready : IsReady v f w) (s : State Births) (h : Shows (shown v f w) s) where
  beside : ShownAgain ((check_process_switch bounded_table).run (shown v f w)) (prepared s)
  beside = switch_shows_births (shown v f w) s h (record { places = whole.places; closed = is_closed v f w whole ready }) whole.most_entries

  dead_as : (k : Dead) (o : Transition (State Births) (Unit {0})) (d : State Table) → ShownAgain (Died k) o → PreparedAs (Some k) d o
  dead_as k (Died j) d e = sym e
  dead_as k (Went x t) d e = e

  shown_as : (d : State Table) (o : Transition (State Births) (Unit {0})) → ShownAgain (Went tt d) o → PreparedAs None d o
  shown_as d (Died j) e = e
  shown_as d (Went x t) e = e.0

  pub prepare_dies : (k : Dead) (d : State Table) → (check_process_switch bounded_table).run (shown v f w) ≡ Died k → PreparedAs (Some k) d (prepared s)
  prepare_dies k d e = dead_as k (prepared s) d (subst (λ o. ShownAgain o (prepared s)) e beside)

  pub prepare_goes : (d : State Table) → (check_process_switch bounded_table).run (shown v f w) ≡ Went tt d → PreparedAs None d (prepared s)
  prepare_goes d e = shown_as d (prepared s) (subst (λ o. ShownAgain o (prepared s)) e beside)

  -- what the code answers, as the births come to it
  pub prepared_by : (r : Result (Unit {0}) Dead) (d : State Table) → Does (check_process_switch bounded_table) itself (shown v f w) r d → PreparedAs (result_err r) d (prepared s)
  prepared_by (Ok u) d e = prepare_goes d e
  prepared_by (Err k) d e = prepare_dies k d e

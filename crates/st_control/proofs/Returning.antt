-- A return to the sender is one past the home context, and one to the caller is past the active context.
use Rattle.std.proofs.Common.{◌≡◌, refl}
use Rattle.st_model.specs.Values.{Value, word}
use Rattle.st_model.specs.Machine.{ObjectMemory, Head, after, ◌>>=◌}
use Rattle.st_model.specs.Steps.{get_active, get_home}
use Rattle.st_model.specs.Table.{Table}
use Rattle.st_model.specs.Returns.{return_to_sender, return_to_caller}
use Rattle.st_frames.specs.declared.registers.Registers.{Registers as Words}
use Rattle.st_frames.specs.inside.Rows.{row_state}
use Rattle.st_frames.proofs.Doing.{rows}
use Rattle.st_control.specs.inside.Returning.{return_past}

module _ (m : ObjectMemory Table) (t : Table) (a : Head) (r : Words) (v : Value) where
  pub past-home : (return_to_sender m v).run (row_state t a r) ≡ (return_past m (word r.home) v).run (row_state t a r)
  unfolding return_to_sender return_past get_home row_state ◌>>=◌ after
  past-home = refl

  pub past-active : (return_to_caller m v).run (row_state t a r) ≡ (return_past m (word r.active) v).run (row_state t a r)
  unfolding return_to_caller return_past get_active row_state ◌>>=◌ after
  past-active = refl

-- a row that returns
pub ruleset returning = (rows, past-home, past-active)

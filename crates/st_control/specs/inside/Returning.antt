-- Returns past a context: to the sender of a home context, or to the caller of an active one.
use Rattle.std.specs.Prelude.{Option}
use Rattle.st_model.specs.Values.{Value}
use Rattle.st_model.specs.Machine.{ObjectMemory, Step, ◌>>=◌}
use Rattle.st_model.specs.Steps.{fetch_field}
use Rattle.st_model.specs.Sends.{Call}
use Rattle.st_model.specs.Returns.{return_to}

-- v is returned to the context in field 0 of this one
unfoldable pub return_past : {H : Type 0} → ObjectMemory H → Value → Value → Step H (Option Call)
return_past m context v = do
  c ← fetch_field m context 0
  return_to m c v

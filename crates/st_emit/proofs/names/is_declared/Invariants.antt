use Rattle.std.proofs.Common.{◌≡◌, drop}
use Rattle.std.specs.Prelude.{is_some}
use Rattle.st_emit.specs.Names.{declared_as}
use Rattle.st_emit.specs.inside.NameViews.{scope_view}
use Rattle.st_emit.proofs.names.is_declared.Given as goal

abbrev pub invariant-loop-frame : goal.invariant-loop-frame
invariant-loop-frame l = is_some (declared_as (scope_view (drop l.frame-index l.scope)) l.text) ≡ is_some (declared_as (scope_view l.scope) l.text)

use Rattle.std.proofs.Common.{◌≡◌, drop}
use Rattle.st_emit.specs.Names.{declared_as, own_variable}
use Rattle.st_emit.specs.inside.NameViews.{scope_view}
use Rattle.st_emit.proofs.names.declared_as.Given as goal

abbrev pub invariant-loop-frame : goal.invariant-loop-frame
invariant-loop-frame l = own_variable (declared_as (scope_view (drop l.frame-index l.scope)) l.text) ≡ own_variable (declared_as (scope_view l.scope) l.text)

use Rattle.st_scope.proofs.TextsOf.{LastNames}
use Rattle.st_scope.proofs.fields.field_names.Given as goal

-- the names of the last classes
abbrev pub invariant-loop-left : goal.invariant-loop-left
invariant-loop-left g l = LastNames l.classes (g.M.Memory.view l.m).objects l.left l.names.items

abbrev pub decreases-loop-left : goal.decreases-loop-left
decreases-loop-left g l = l.left

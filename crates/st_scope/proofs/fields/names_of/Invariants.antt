use Rattle.st_scope.proofs.TextsOf.{LeftNames}
use Rattle.st_scope.proofs.fields.names_of.Given as goal

-- the names so far, and those from the next one on
abbrev pub invariant-loop-o : goal.invariant-loop-o
invariant-loop-o g l = LeftNames l.list (g.M.Memory.view l.m).objects l.o-index l.names.items

use Rattle.st_scope.proofs.LeftTables.{LeftTables}
use Rattle.st_scope.proofs.sharing.association_in.Given as goal

-- no table so far has a member of this name
abbrev pub invariant-loop-names : goal.invariant-loop-names
invariant-loop-names g l = LeftTables l.tables l.text l.names-index (g.M.Memory.view l.m).objects

use Rattle.st_scope.proofs.PoolsOf.{LeftPools}
use Rattle.st_scope.proofs.pools.pools.Given as goal

-- the pools so far, and those of the classes from the next one on
abbrev pub invariant-loop-class : goal.invariant-loop-class
invariant-loop-class g l = LeftPools l.classes (g.M.Memory.view l.m).objects l.class-index l.tables.items

use Rattle.std.proofs.Common.{take}
use Rattle.st_scope.specs.inside.Walks.{mentions_of}
use Rattle.st_scope.specs.inside.Sought.{AreSought}
use Rattle.st_scope.proofs.sought.shared_names.Given as goal

-- the names so far were sought
abbrev pub invariant-loop-name : goal.invariant-loop-name
invariant-loop-name g l = AreSought (g.M.Memory.view l.m).objects l.tables (mentions_of (take l.name-index l.names)) l.search

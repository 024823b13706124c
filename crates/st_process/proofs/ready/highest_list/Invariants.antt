use Rattle.st_model.specs.Values.{word}
use Rattle.st_process.proofs.Highest.{Left}
use Rattle.st_process.proofs.ready.highest_list.Given as goal

abbrev pub invariant-loop-left : goal.invariant-loop-left
invariant-loop-left g l = Left g.O.Objects.names (word l.lists) l.n l.left (g.O.Objects.table l.m)

abbrev pub decreases-loop-left : goal.decreases-loop-left
decreases-loop-left g l = l.left

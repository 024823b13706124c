use Rattle.st_model.specs.Values.{value}
use Rattle.st_scope.specs.inside.Meanings.{values_of}
use Rattle.st_scope.proofs.Lineages.{LeftChain}
use Rattle.st_scope.proofs.chains.chain.Given as goal

-- the chain is the classes so far, and the chain from the next one on
abbrev pub invariant-loop-next : goal.invariant-loop-next
invariant-loop-next g l = LeftChain l.least (value l.fn.class) l.left (value l.next) (values_of l.classes) (g.M.Memory.view l.m).objects

abbrev pub decreases-loop-next : goal.decreases-loop-next
decreases-loop-next g l = l.left

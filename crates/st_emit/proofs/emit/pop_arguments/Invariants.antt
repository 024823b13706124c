use Rattle.st_emit.specs.inside.Around.{arguments_part}
use Rattle.st_emit.specs.inside.Drafts.{Goes}
use Rattle.st_emit.proofs.emit.pop_arguments.Given as goal

abbrev pub invariant-loop-left : goal.invariant-loop-left
invariant-loop-left l = Goes (arguments_part l.first l.left) l.draft (arguments_part l.first l.arguments) l.fn.draft

abbrev pub decreases-loop-left : goal.decreases-loop-left
decreases-loop-left l = l.left

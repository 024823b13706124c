use Rattle.std.proofs.Common.{arith}
use Rattle.st_model.proofs.Runs.{runs}
use Rattle.st_scope.specs.Classes.{class_on_side}
use Rattle.st_scope.proofs.classes.class_on_side.Goals as goal

pub returns-then-meta-clause-class : goal.returns-then-meta-clause-class
unfolding class_on_side
returns-then-meta-clause-class g c = grind (arith, runs)

pub returns-else-meta-clause-class : goal.returns-else-meta-clause-class
unfolding class_on_side
returns-else-meta-clause-class g c = grind (arith, runs)

use Rattle.std.proofs.Common.{arith}
use Rattle.st_model.proofs.Runs.{runs}
use Rattle.st_scope.specs.Classes.{class_named}
use Rattle.st_scope.proofs.classes.class_named.Goals as goal

pub returns-in_err-association-clause-class : goal.returns-in_err-association-clause-class
unfolding class_named
returns-in_err-association-clause-class g c = grind (arith, runs)

pub returns-in_err-class-clause-class : goal.returns-in_err-class-clause-class
unfolding class_named
returns-in_err-class-clause-class g c = grind (arith, runs)

pub returns-clause-class : goal.returns-clause-class
unfolding class_named
returns-clause-class g c = grind (arith, runs)

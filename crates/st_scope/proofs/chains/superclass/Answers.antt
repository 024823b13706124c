use Rattle.std.proofs.Common.{arith}
use Rattle.st_model.proofs.Runs.{runs}
use Rattle.st_scope.specs.Classes.{superclass}
use Rattle.st_scope.proofs.chains.superclass.Goals as goal

pub returns-in_err-check_fields : goal.returns-in_err-check_fields
unfolding superclass
returns-in_err-check_fields g c = grind (arith, runs)

pub returns : goal.returns
unfolding superclass
returns g c = grind (arith, runs)

use Rattle.std.proofs.Common.{arith}
use Rattle.st_model.proofs.Runs.{runs}
use Rattle.st_kernel.specs.Starting.{method_of}
use Rattle.st_kernel.proofs.finding.method_of.Goals as goal

pub returns-in_err-class : goal.returns-in_err-class
unfolding method_of
returns-in_err-class g c = grind (arith, runs)

pub returns-in_err-symbol : goal.returns-in_err-symbol
unfolding method_of
returns-in_err-symbol g c = grind (arith, runs)

pub returns : goal.returns
unfolding method_of
returns g c = grind (arith, runs)

use Rattle.std.proofs.Common.{arith}
use Rattle.st_model.proofs.Runs.{runs}
use Rattle.st_kernel.proofs.Methods.{arguments}
use Rattle.st_kernel.specs.Starting.{unary_method}
use Rattle.st_kernel.proofs.finding.unary_method.Goals as goal

pub returns-in_err-find : goal.returns-in_err-find
unfolding unary_method
returns-in_err-find g c = grind (arith, runs, arguments)

pub returns-in_err-method : goal.returns-in_err-method
unfolding unary_method
returns-in_err-method g c = grind (arith, runs, arguments)

pub returns-in_err-method_arguments : goal.returns-in_err-method_arguments
unfolding unary_method
returns-in_err-method_arguments g c = grind (arith, runs, arguments)

pub returns-then-branch-eq0 : goal.returns-then-branch-eq0
unfolding unary_method
returns-then-branch-eq0 g c = grind (arith, runs, arguments)

pub returns-else-branch-eq0 : goal.returns-else-branch-eq0
unfolding unary_method
returns-else-branch-eq0 g c = grind (arith, runs, arguments)

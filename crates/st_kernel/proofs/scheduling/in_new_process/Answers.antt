use Rattle.std.proofs.Common.{arith}
use Rattle.st_frames.proofs.Doing.{rows}
use Rattle.st_kernel.specs.Starting.{in_new_process}
use Rattle.st_kernel.proofs.scheduling.in_new_process.Goals as goal

pub returns-in_err-check_not_method_class-clause-does : goal.returns-in_err-check_not_method_class-clause-does
unfolding in_new_process
returns-in_err-check_not_method_class-clause-does g c = grind (arith, rows)

pub returns-in_err-process-clause-does : goal.returns-in_err-process-clause-does
unfolding in_new_process
returns-in_err-process-clause-does g c = grind (arith, rows)

pub returns-then-same-clause-does : goal.returns-then-same-clause-does
unfolding in_new_process
returns-then-same-clause-does g c = grind (arith, rows)

pub returns-clause-does : goal.returns-clause-does
unfolding in_new_process
returns-clause-does g c = grind (arith, rows)

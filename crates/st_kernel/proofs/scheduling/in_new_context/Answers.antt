use Rattle.std.proofs.Common.{arith}
use Rattle.st_frames.proofs.Doing.{rows}
use Rattle.st_kernel.specs.Starting.{in_new_context}
use Rattle.st_kernel.proofs.scheduling.in_new_context.Goals as goal

pub returns-in_err-method_header-clause-does : goal.returns-in_err-method_header-clause-does
unfolding in_new_context
returns-in_err-method_header-clause-does g c = grind (arith, rows)

pub returns-in_err-context-clause-does : goal.returns-in_err-context-clause-does
unfolding in_new_context
returns-in_err-context-clause-does g c = grind (arith, rows)

pub returns-then-same-clause-does : goal.returns-then-same-clause-does
unfolding in_new_context
returns-then-same-clause-does g c = grind (arith, rows)

pub returns-clause-does : goal.returns-clause-does
unfolding in_new_context
returns-clause-does g c = grind (arith, rows)

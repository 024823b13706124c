use Rattle.std.proofs.Common.{arith}
use Rattle.st_frames.proofs.Doing.{rows}
use Rattle.st_model.specs.Executing.{execute_by, respond_by_extension, or_activate}
use Rattle.st_step.proofs.perform.execute_performed.Goals as goal

pub returns-in_err-method_header-clause-does : goal.returns-in_err-method_header-clause-does
unfolding execute_by respond_by_extension or_activate
returns-in_err-method_header-clause-does g c = grind (arith, rows)

pub returns-then-flag-ne7-clause-does : goal.returns-then-flag-ne7-clause-does
unfolding execute_by respond_by_extension or_activate
returns-then-flag-ne7-clause-does g c = grind (arith, rows)

pub returns-in_err-primitive-clause-does : goal.returns-in_err-primitive-clause-does
unfolding execute_by respond_by_extension or_activate
returns-in_err-primitive-clause-does g c = grind (arith, rows)

pub returns-in_err-end-clause-does : goal.returns-in_err-end-clause-does
unfolding execute_by respond_by_extension or_activate
returns-in_err-end-clause-does g c = grind (arith, rows)

pub returns-in-Some-clause-does : goal.returns-in-Some-clause-does
unfolding execute_by respond_by_extension or_activate
returns-in-Some-clause-does g c = grind (arith, rows)

pub returns-in-None-clause-does : goal.returns-in-None-clause-does
unfolding execute_by respond_by_extension or_activate
returns-in-None-clause-does g c = grind (arith, rows)

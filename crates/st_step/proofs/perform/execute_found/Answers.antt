use Rattle.std.proofs.Common.{arith}
use Rattle.st_frames.proofs.Doing.{rows}
use Rattle.st_model.specs.Executing.{execute_found}
use Rattle.st_step.proofs.perform.execute_found.Goals as goal

pub returns-in-Some-clause-does : goal.returns-in-Some-clause-does
unfolding execute_found
returns-in-Some-clause-does g c = grind (arith, rows)

pub returns-in_err-call-in-None-clause-does : goal.returns-in_err-call-in-None-clause-does
unfolding execute_found
returns-in_err-call-in-None-clause-does g c = grind (arith, rows)

pub returns-in_ok-call-in-None-clause-does : goal.returns-in_ok-call-in-None-clause-does
unfolding execute_found
returns-in_ok-call-in-None-clause-does g c = grind (arith, rows)

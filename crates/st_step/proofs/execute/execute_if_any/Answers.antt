use Rattle.std.proofs.Common.{arith}
use Rattle.st_frames.proofs.Doing.{rows}
use Rattle.st_model.specs.Executing.{execute_if_any}
use Rattle.st_step.proofs.execute.execute_if_any.Goals as goal

pub returns-in-Some-clause-does : goal.returns-in-Some-clause-does
unfolding execute_if_any
returns-in-Some-clause-does g c = grind (arith, rows)

pub returns-in-None-clause-does : goal.returns-in-None-clause-does
unfolding execute_if_any
returns-in-None-clause-does g c = grind (arith, rows)

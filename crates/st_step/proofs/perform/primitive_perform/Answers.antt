use Rattle.std.proofs.Common.{arith}
use Rattle.st_frames.proofs.Doing.{rows}
use Rattle.st_model.specs.Executing.{primitive_perform}
use Rattle.st_step.proofs.perform.primitive_perform.Goals as goal

pub returns-in_err-receiver-clause-does : goal.returns-in_err-receiver-clause-does
unfolding primitive_perform
returns-in_err-receiver-clause-does g c = grind (arith, rows)

pub returns-in_err-selector-clause-does : goal.returns-in_err-selector-clause-does
unfolding primitive_perform
returns-in_err-selector-clause-does g c = grind (arith, rows)

pub returns-clause-does : goal.returns-clause-does
unfolding primitive_perform
returns-clause-does g c = grind (arith, rows)

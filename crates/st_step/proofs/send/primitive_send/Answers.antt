use Rattle.std.proofs.Common.{arith}
use Rattle.st_frames.proofs.Doing.{rows}
use Rattle.st_model.specs.Bytecodes.{primitive_send}
use Rattle.st_model.specs.Executing.{goes_on}
use Rattle.st_step.proofs.send.primitive_send.Goals as goal

pub returns-in_err-equivalence-in-22-clause-does : goal.returns-in_err-equivalence-in-22-clause-does
unfolding primitive_send goes_on
returns-in_err-equivalence-in-22-clause-does g c = grind (arith, rows)

pub returns-in_err-receiver_class-in-23-clause-does : goal.returns-in_err-receiver_class-in-23-clause-does
unfolding primitive_send goes_on
returns-in_err-receiver_class-in-23-clause-does g c = grind (arith, rows)

pub returns-in-24-clause-does : goal.returns-in-24-clause-does
unfolding primitive_send goes_on
returns-in-24-clause-does g c = grind (arith, rows)

pub returns-in_default-clause-does : goal.returns-in_default-clause-does
unfolding primitive_send goes_on
returns-in_default-clause-does g c = grind (arith, rows)

pub returns-in_ok-equivalence-in-22-clause-does : goal.returns-in_ok-equivalence-in-22-clause-does
unfolding primitive_send goes_on
returns-in_ok-equivalence-in-22-clause-does g c = grind (arith, rows)

pub returns-in_ok-receiver_class-in-23-clause-does : goal.returns-in_ok-receiver_class-in-23-clause-does
unfolding primitive_send goes_on
returns-in_ok-receiver_class-in-23-clause-does g c = grind (arith, rows)

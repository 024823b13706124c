use Rattle.std.proofs.Common.{arith}
use Rattle.st_control.proofs.Tries.{passing}
use Rattle.st_model.specs.Arithmetic.{integer_answer}
use Rattle.st_control.proofs.arithmetic.integer_answer.Goals as goal

pub returns-in_err-receiver-clause-does : goal.returns-in_err-receiver-clause-does
unfolding integer_answer
returns-in_err-receiver-clause-does g c = grind (arith, passing)

pub returns-in_err-argument-clause-does : goal.returns-in_err-argument-clause-does
unfolding integer_answer
returns-in_err-argument-clause-does g c = grind (arith, passing)

pub returns-clause-does : goal.returns-clause-does
unfolding integer_answer
returns-clause-does g c = grind (arith, passing)

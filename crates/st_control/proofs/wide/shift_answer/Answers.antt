use Rattle.std.proofs.Common.{arith}
use Rattle.st_control.proofs.Tries.{passing}
use Rattle.st_model.specs.Arithmetic.{shift_answer}
use Rattle.st_control.proofs.wide.shift_answer.Goals as goal

pub returns-in_err-receiver : goal.returns-in_err-receiver
unfolding shift_answer
returns-in_err-receiver g c = grind (arith, passing)

pub returns-in_err-by : goal.returns-in_err-by
unfolding shift_answer
returns-in_err-by g c = grind (arith, passing)

pub returns : goal.returns
unfolding shift_answer
returns g c = grind (arith, passing)

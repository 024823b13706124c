use Rattle.std.proofs.Common.{arith}
use Rattle.st_frames.proofs.Doing.{rows}
use Rattle.st_model.specs.Arithmetic.{large_answer}
use Rattle.st_control.proofs.wide.large_answer.Goals as goal

pub returns-in_err-receiver : goal.returns-in_err-receiver
unfolding large_answer
returns-in_err-receiver g c = grind (arith, rows)

pub returns-in_err-argument : goal.returns-in_err-argument
unfolding large_answer
returns-in_err-argument g c = grind (arith, rows)

pub returns : goal.returns
unfolding large_answer
returns g c = grind (arith, rows)

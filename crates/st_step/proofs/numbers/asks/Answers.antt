use Rattle.std.proofs.Common.{arith}
use Rattle.st_frames.proofs.Doing.{rows}
use Rattle.st_model.specs.Executing.{succeeds, asks}
use Rattle.st_step.proofs.numbers.asks.Goals as goal

pub returns-in_err-receiver-clause-does : goal.returns-in_err-receiver-clause-does
unfolding succeeds asks
returns-in_err-receiver-clause-does g c = grind (arith, rows)

pub returns-in_err-answer_with-clause-does : goal.returns-in_err-answer_with-clause-does
unfolding succeeds asks
returns-in_err-answer_with-clause-does g c = grind (arith, rows)

pub returns-clause-does : goal.returns-clause-does
unfolding succeeds asks
returns-clause-does g c = grind (arith, rows)

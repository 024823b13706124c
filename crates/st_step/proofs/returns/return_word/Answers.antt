use Rattle.std.proofs.Common.{arith}
use Rattle.st_control.proofs.Returning.{returning}
use Rattle.st_model.specs.Executing.{executed_if_any}
use Rattle.st_step.proofs.returns.return_word.Goals as goal

pub returns-in_err-call-clause-does : goal.returns-in_err-call-clause-does
unfolding executed_if_any
returns-in_err-call-clause-does g c = grind (arith, returning)

pub returns-clause-does : goal.returns-clause-does
unfolding executed_if_any
returns-clause-does g c = grind (arith, returning)

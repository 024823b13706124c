use Rattle.std.proofs.Common.{arith}
use Rattle.st_step.proofs.Tries.{tries}
use Rattle.st_model.specs.Executing.{if_done}
use Rattle.st_step.proofs.numbers.try_arithmetic.Goals as goal

pub returns-in_err-answer_integers-in-Ok-clause-does : goal.returns-in_err-answer_integers-in-Ok-clause-does
unfolding if_done
returns-in_err-answer_integers-in-Ok-clause-does g c = grind (arith, tries)

pub returns-in_ok-answer_integers-in-Ok-clause-does : goal.returns-in_ok-answer_integers-in-Ok-clause-does
unfolding if_done
returns-in_ok-answer_integers-in-Ok-clause-does g c = grind (arith, tries)

pub returns-in-Err-clause-does : goal.returns-in-Err-clause-does
unfolding if_done
returns-in-Err-clause-does g c = grind (arith, tries)

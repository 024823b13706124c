use Rattle.std.proofs.Common.{arith}
use Rattle.st_storage.proofs.SayTries.{says}
use Rattle.st_storage.proofs.saying.primitive_say.Goals as goal

pub returns-in_err-answer_with-in-Ok-clause-does : goal.returns-in_err-answer_with-in-Ok-clause-does
returns-in_err-answer_with-in-Ok-clause-does g c = grind (arith, says)

pub returns-in_ok-answer_with-in-Ok-clause-does : goal.returns-in_ok-answer_with-in-Ok-clause-does
returns-in_ok-answer_with-in-Ok-clause-does g c = grind (arith, says)

pub returns-in-Err-clause-does : goal.returns-in-Err-clause-does
returns-in-Err-clause-does g c = grind (arith, says)

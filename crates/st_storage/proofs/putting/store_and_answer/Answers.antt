use Rattle.std.proofs.Common.{arith}
use Rattle.st_frames.proofs.Doing.{rows}
use Rattle.st_model.specs.Storage.{store_and_answer}
use Rattle.st_storage.proofs.putting.store_and_answer.Goals as goal

pub returns-in_err-deed-clause-does : goal.returns-in_err-deed-clause-does
unfolding store_and_answer
returns-in_err-deed-clause-does g c = grind (arith, rows)

pub returns-clause-does : goal.returns-clause-does
unfolding store_and_answer
returns-clause-does g c = grind (arith, rows)

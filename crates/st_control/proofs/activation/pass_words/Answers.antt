use Rattle.std.proofs.Common.{arith}
use Rattle.st_frames.proofs.Doing.{rows}
use Rattle.st_model.specs.Contexts.{pass_words}
use Rattle.st_control.proofs.activation.pass_words.Goals as goal

pub returns-in_err-transfer-clause-does : goal.returns-in_err-transfer-clause-does
unfolding pass_words
returns-in_err-transfer-clause-does g c = grind (arith, rows)

pub returns-clause-does : goal.returns-clause-does
unfolding pass_words
returns-clause-does g c = grind (arith, rows)

use Rattle.std.proofs.Common.{arith}
use Rattle.st_frames.proofs.Doing.{rows}
use Rattle.st_model.specs.Primitives.{succeed}
use Rattle.st_control.proofs.arithmetic.answer_integers.Goals as goal

pub returns-in_err-value-clause-does : goal.returns-in_err-value-clause-does
unfolding succeed
returns-in_err-value-clause-does g c = grind (arith, rows)

pub returns-clause-does : goal.returns-clause-does
unfolding succeed
returns-clause-does g c = grind (arith, rows)

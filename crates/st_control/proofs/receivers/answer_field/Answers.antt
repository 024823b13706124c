use Rattle.std.proofs.Common.{arith}
use Rattle.st_frames.proofs.Doing.{rows}
use Rattle.st_model.specs.Executing.{answer_field}
use Rattle.st_control.proofs.receivers.answer_field.Goals as goal

pub returns-in_err-object-clause-does : goal.returns-in_err-object-clause-does
unfolding answer_field
returns-in_err-object-clause-does g c = grind (arith, rows)

pub returns-in_err-answer-clause-does : goal.returns-in_err-answer-clause-does
unfolding answer_field
returns-in_err-answer-clause-does g c = grind (arith, rows)

pub returns-clause-does : goal.returns-clause-does
unfolding answer_field
returns-clause-does g c = grind (arith, rows)

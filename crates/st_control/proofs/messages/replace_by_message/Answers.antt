use Rattle.std.proofs.Common.{arith}
use Rattle.st_frames.proofs.Doing.{rows}
use Rattle.st_model.specs.Sends.{replace_by_message}
use Rattle.st_control.proofs.messages.replace_by_message.Goals as goal

pub returns-in_err-array-clause-does : goal.returns-in_err-array-clause-does
unfolding replace_by_message
returns-in_err-array-clause-does g c = grind (arith, rows)

pub returns-in_err-message-clause-does : goal.returns-in_err-message-clause-does
unfolding replace_by_message
returns-in_err-message-clause-does g c = grind (arith, rows)

pub returns-in_err-drop_words-clause-does : goal.returns-in_err-drop_words-clause-does
unfolding replace_by_message
returns-in_err-drop_words-clause-does g c = grind (arith, rows)

pub returns-clause-does : goal.returns-clause-does
unfolding replace_by_message
returns-clause-does g c = grind (arith, rows)

use Rattle.std.proofs.Common.{arith}
use Rattle.st_frames.proofs.Doing.{rows}
use Rattle.st_model.specs.Sends.{new_message}
use Rattle.st_control.proofs.messages.new_message.Goals as goal

pub returns-in_err-message-clause-does : goal.returns-in_err-message-clause-does
unfolding new_message
returns-in_err-message-clause-does g c = grind (arith, rows)

pub returns-in_err-store_field-clause-does : goal.returns-in_err-store_field-clause-does
unfolding new_message
returns-in_err-store_field-clause-does g c = grind (arith, rows)

pub returns-in_err-store_field-2-clause-does : goal.returns-in_err-store_field-2-clause-does
unfolding new_message
returns-in_err-store_field-2-clause-does g c = grind (arith, rows)

pub returns-clause-does : goal.returns-clause-does
unfolding new_message
returns-clause-does g c = grind (arith, rows)

use Rattle.std.proofs.Common.{arith}
use Rattle.st_frames.proofs.Doing.{rows}
use Rattle.st_model.specs.Sends.{not_understood, call_not_understood}
use Rattle.st_control.proofs.sends.not_understood.Goals as goal

pub returns-in_err-method-clause-does : goal.returns-in_err-method-clause-does
unfolding not_understood call_not_understood
returns-in_err-method-clause-does g c = grind (arith, rows)

pub returns-in_err-replace_by_message-in-Some-clause-does : goal.returns-in_err-replace_by_message-in-Some-clause-does
unfolding not_understood call_not_understood
returns-in_err-replace_by_message-in-Some-clause-does g c = grind (arith, rows)

pub returns-in_ok-replace_by_message-in-Some-clause-does : goal.returns-in_ok-replace_by_message-in-Some-clause-does
unfolding not_understood call_not_understood
returns-in_ok-replace_by_message-in-Some-clause-does g c = grind (arith, rows)

pub returns-in-None-clause-does : goal.returns-in-None-clause-does
unfolding not_understood call_not_understood
returns-in-None-clause-does g c = grind (arith, rows)

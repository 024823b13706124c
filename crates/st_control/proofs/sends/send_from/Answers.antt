use Rattle.std.proofs.Common.{arith}
use Rattle.st_frames.proofs.Doing.{rows}
use Rattle.st_model.specs.Sends.{send_from, call_found}
use Rattle.st_control.proofs.sends.send_from.Goals as goal

pub returns-in_err-method-clause-does : goal.returns-in_err-method-clause-does
unfolding send_from call_found
returns-in_err-method-clause-does g c = grind (arith, rows)

pub returns-in-Some-clause-does : goal.returns-in-Some-clause-does
unfolding send_from call_found
returns-in-Some-clause-does g c = grind (arith, rows)

pub returns-in-None-clause-does : goal.returns-in-None-clause-does
unfolding send_from call_found
returns-in-None-clause-does g c = grind (arith, rows)

use Rattle.std.proofs.Common.{arith}
use Rattle.st_frames.proofs.Doing.{rows}
use Rattle.st_model.specs.Sends.{send}
use Rattle.st_control.proofs.sends.send.Goals as goal

pub returns-in_err-receiver-clause-does : goal.returns-in_err-receiver-clause-does
unfolding send
returns-in_err-receiver-clause-does g c = grind (arith, rows)

pub returns-in_err-class-clause-does : goal.returns-in_err-class-clause-does
unfolding send
returns-in_err-class-clause-does g c = grind (arith, rows)

pub returns-clause-does : goal.returns-clause-does
unfolding send
returns-clause-does g c = grind (arith, rows)

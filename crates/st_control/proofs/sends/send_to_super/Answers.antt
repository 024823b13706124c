use Rattle.std.proofs.Common.{arith}
use Rattle.st_frames.proofs.Doing.{rows}
use Rattle.st_model.specs.Sends.{send_to_super}
use Rattle.st_control.proofs.sends.send_to_super.Goals as goal

pub returns-in_err-under-clause-does : goal.returns-in_err-under-clause-does
unfolding send_to_super
returns-in_err-under-clause-does g c = grind (arith, rows)

pub returns-in_err-class-clause-does : goal.returns-in_err-class-clause-does
unfolding send_to_super
returns-in_err-class-clause-does g c = grind (arith, rows)

pub returns-clause-does : goal.returns-clause-does
unfolding send_to_super
returns-clause-does g c = grind (arith, rows)

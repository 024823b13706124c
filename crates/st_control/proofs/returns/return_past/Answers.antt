use Rattle.std.proofs.Common.{arith}
use Rattle.st_frames.proofs.Doing.{rows}
use Rattle.st_control.specs.inside.Returning.{return_past}
use Rattle.st_model.specs.Returns.{return_to, return_to_context, calls, calls_nothing}
use Rattle.st_control.proofs.returns.return_past.Goals as goal

pub returns-in_err-target-clause-does : goal.returns-in_err-target-clause-does
unfolding return_past return_to return_to_context calls calls_nothing
returns-in_err-target-clause-does g c = grind (arith, rows)

pub returns-in_err-ip-clause-does : goal.returns-in_err-ip-clause-does
unfolding return_past return_to return_to_context calls calls_nothing
returns-in_err-ip-clause-does g c = grind (arith, rows)

pub returns-in_err-return_into-clause-does : goal.returns-in_err-return_into-clause-does
unfolding return_past return_to return_to_context calls calls_nothing
returns-in_err-return_into-clause-does g c = grind (arith, rows)

pub returns-clause-does : goal.returns-clause-does
unfolding return_past return_to return_to_context calls calls_nothing
returns-clause-does g c = grind (arith, rows)

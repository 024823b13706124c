use Rattle.std.proofs.Common.{arith}
use Rattle.st_frames.proofs.Doing.{rows}
use Rattle.st_model.specs.Sends.{argument_array}
use Rattle.st_control.proofs.messages.argument_array.Goals as goal

pub returns-in_err-array-clause-does : goal.returns-in_err-array-clause-does
unfolding argument_array
returns-in_err-array-clause-does g c = grind (arith, rows)

pub returns-in_err-copy_arguments-clause-does : goal.returns-in_err-copy_arguments-clause-does
unfolding argument_array
returns-in_err-copy_arguments-clause-does g c = grind (arith, rows)

pub returns-clause-does : goal.returns-clause-does
unfolding argument_array
returns-clause-does g c = grind (arith, rows)

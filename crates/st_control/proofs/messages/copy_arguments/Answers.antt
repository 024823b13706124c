use Rattle.std.proofs.Common.{arith}
use Rattle.st_frames.proofs.Doing.{rows}
use Rattle.st_model.specs.Sends.{copy_arguments}
use Rattle.st_control.proofs.messages.copy_arguments.Goals as goal

pub returns-clause-does : goal.returns-clause-does
unfolding copy_arguments
returns-clause-does g c = grind (arith, rows)

use Rattle.std.proofs.Common.{arith}
use Rattle.st_frames.proofs.Doing.{rows}
use Rattle.st_model.specs.Bytecodes.{push_receiver}
use Rattle.st_control.proofs.stack.push_receiver.Goals as goal

pub returns-clause-does : goal.returns-clause-does
unfolding push_receiver
returns-clause-does g c = grind (arith, rows)

use Rattle.std.proofs.Common.{arith}
use Rattle.st_frames.proofs.Doing.{rows}
use Rattle.st_model.specs.Bytecodes.{push_constant}
use Rattle.st_control.proofs.stack.push_constant.Goals as goal

pub returns-clause-does : goal.returns-clause-does
unfolding push_constant
returns-clause-does g c = grind (arith, rows)

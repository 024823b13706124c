use Rattle.std.proofs.Common.{arith}
use Rattle.st_frames.proofs.Doing.{rows}
use Rattle.st_model.specs.Bytecodes.{fetch_literal_constant}
use Rattle.st_control.proofs.operands.fetch_literal_constant.Goals as goal

pub returns : goal.returns
unfolding fetch_literal_constant
returns g c = grind (arith, rows)

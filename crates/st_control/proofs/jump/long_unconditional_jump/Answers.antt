use Rattle.std.proofs.Common.{arith}
use Rattle.st_frames.proofs.Doing.{rows}
use Rattle.st_model.specs.Bytecodes.{long_unconditional_jump}
use Rattle.st_control.proofs.jump.long_unconditional_jump.Goals as goal

pub returns-in_err-byte : goal.returns-in_err-byte
unfolding long_unconditional_jump
returns-in_err-byte g c = grind (arith, rows)

pub returns : goal.returns
unfolding long_unconditional_jump
returns g c = grind (arith, rows)

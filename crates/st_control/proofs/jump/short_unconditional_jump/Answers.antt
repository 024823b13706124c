use Rattle.std.proofs.Common.{arith}
use Rattle.st_frames.proofs.Doing.{rows}
use Rattle.st_model.specs.Bytecodes.{short_unconditional_jump}
use Rattle.st_control.proofs.jump.short_unconditional_jump.Goals as goal

pub returns : goal.returns
unfolding short_unconditional_jump
returns g c = grind (arith, rows)

use Rattle.std.proofs.Common.{arith}
use Rattle.st_frames.proofs.Doing.{rows}
use Rattle.st_model.specs.Returns.{calls_nothing}
use Rattle.st_control.proofs.jumps.jump_forward.Goals as goal

pub returns-in_err-jump : goal.returns-in_err-jump
unfolding calls_nothing
returns-in_err-jump g c = grind (arith, rows)

pub returns : goal.returns
unfolding calls_nothing
returns g c = grind (arith, rows)

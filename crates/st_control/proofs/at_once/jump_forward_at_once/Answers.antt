use Rattle.std.proofs.Common.{arith}
use Rattle.st_frames.proofs.Doing.{rows}
use Rattle.st_control.specs.inside.AtOnce.{at_once}
use Rattle.st_control.proofs.at_once.jump_forward_at_once.Goals as goal

pub returns-in_err-jump : goal.returns-in_err-jump
unfolding at_once
returns-in_err-jump g c = grind (arith, rows)

pub returns : goal.returns
unfolding at_once
returns g c = grind (arith, rows)

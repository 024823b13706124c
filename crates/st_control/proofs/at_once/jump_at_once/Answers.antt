use Rattle.std.proofs.Common.{arith}
use Rattle.st_frames.proofs.Doing.{rows}
use Rattle.st_control.specs.inside.AtOnce.{jump_at_once}
use Rattle.st_control.proofs.at_once.jump_at_once.Goals as goal

pub returns-in_err-x : goal.returns-in_err-x
unfolding jump_at_once
returns-in_err-x g c = grind (arith, rows)

pub returns-then-same : goal.returns-then-same
unfolding jump_at_once
returns-then-same g c = grind (arith, rows)

pub returns : goal.returns
unfolding jump_at_once
returns g c = grind (arith, rows)

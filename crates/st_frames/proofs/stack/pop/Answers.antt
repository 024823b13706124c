use Rattle.std.proofs.Common.{arith}
use Rattle.st_frames.proofs.Doing.{rows}
use Rattle.st_model.specs.Steps.{pop}
use Rattle.st_frames.proofs.stack.pop.Goals as goal

pub returns-in_err-x : goal.returns-in_err-x
unfolding pop
returns-in_err-x g c = grind (arith, rows)

pub returns : goal.returns
unfolding pop
returns g c = grind (arith, rows)

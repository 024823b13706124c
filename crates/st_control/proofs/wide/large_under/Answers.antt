use Rattle.std.proofs.Common.{arith}
use Rattle.st_frames.proofs.Doing.{rows}
use Rattle.st_model.specs.Arithmetic.{large_under}
use Rattle.st_control.proofs.wide.large_under.Goals as goal

pub returns-in_err-v : goal.returns-in_err-v
unfolding large_under
returns-in_err-v g c = grind (arith, rows)

pub returns : goal.returns
unfolding large_under
returns g c = grind (arith, rows)

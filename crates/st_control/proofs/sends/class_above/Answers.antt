use Rattle.std.proofs.Common.{arith}
use Rattle.st_frames.proofs.Doing.{rows}
use Rattle.st_model.specs.Sends.{class_above}
use Rattle.st_control.proofs.sends.class_above.Goals as goal

pub returns-in_err-association : goal.returns-in_err-association
unfolding class_above
returns-in_err-association g c = grind (arith, rows)

pub returns-in_err-class : goal.returns-in_err-class
unfolding class_above
returns-in_err-class g c = grind (arith, rows)

pub returns : goal.returns
unfolding class_above
returns g c = grind (arith, rows)

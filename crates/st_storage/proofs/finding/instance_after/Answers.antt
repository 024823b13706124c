use Rattle.std.proofs.Common.{arith}
use Rattle.st_frames.proofs.Doing.{rows}
use Rattle.st_model.specs.Storage.{instance_after}
use Rattle.st_model.specs.Steps.{or_die}
use Rattle.st_storage.proofs.finding.instance_after.Goals as goal

pub returns-in_err-half : goal.returns-in_err-half
unfolding instance_after or_die
returns-in_err-half g c = grind (arith, rows)

pub returns-in_err-class : goal.returns-in_err-class
unfolding instance_after or_die
returns-in_err-class g c = grind (arith, rows)

pub returns-in-Some : goal.returns-in-Some
unfolding instance_after or_die
returns-in-Some g c = grind (arith, rows)

pub returns-in-None : goal.returns-in-None
unfolding instance_after or_die
returns-in-None g c = grind (arith, rows)

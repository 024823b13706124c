use Rattle.std.proofs.Common.{arith}
use Rattle.st_frames.proofs.Doing.{rows}
use Rattle.st_model.specs.Executing.{takes}
use Rattle.st_step.proofs.perform.takes.Goals as goal

pub returns-in-None : goal.returns-in-None
unfolding takes
returns-in-None g c = grind (arith, rows)

pub returns-in_err-taken-in-Some : goal.returns-in_err-taken-in-Some
unfolding takes
returns-in_err-taken-in-Some g c = grind (arith, rows)

pub returns-in_ok-taken-in-Some : goal.returns-in_ok-taken-in-Some
unfolding takes
returns-in_ok-taken-in-Some g c = grind (arith, rows)

use Rattle.std.proofs.Common.{arith}
use Rattle.st_frames.proofs.Doing.{rows}
use Rattle.st_model.specs.Executing.{goes_on}
use Rattle.st_step.proofs.flags.activated.Goals as goal

pub returns-in_err-activate-clause-does : goal.returns-in_err-activate-clause-does
unfolding goes_on
returns-in_err-activate-clause-does g c = grind (arith, rows)

pub returns-clause-does : goal.returns-clause-does
unfolding goes_on
returns-clause-does g c = grind (arith, rows)

use Rattle.std.proofs.Common.{arith}
use Rattle.st_frames.proofs.Doing.{rows}
use Rattle.st_model.specs.Blocks.{passing}
use Rattle.st_control.proofs.values.passing.Goals as goal

pub returns-in_err-check_class-clause-does : goal.returns-in_err-check_class-clause-does
unfolding passing
returns-in_err-check_class-clause-does g c = grind (arith, rows)

pub returns-in_err-count-clause-does : goal.returns-in_err-count-clause-does
unfolding passing
returns-in_err-count-clause-does g c = grind (arith, rows)

pub returns-clause-does : goal.returns-clause-does
unfolding passing
returns-clause-does g c = grind (arith, rows)

use Rattle.std.proofs.Common.{arith}
use Rattle.st_frames.proofs.Doing.{rows}
use Rattle.st_model.specs.Returns.{must_be_boolean}
use Rattle.st_control.proofs.jumps.must_be_boolean.Goals as goal

pub returns-in_err-push-clause-does : goal.returns-in_err-push-clause-does
unfolding must_be_boolean
returns-in_err-push-clause-does g c = grind (arith, rows)

pub returns-clause-does : goal.returns-clause-does
unfolding must_be_boolean
returns-clause-does g c = grind (arith, rows)

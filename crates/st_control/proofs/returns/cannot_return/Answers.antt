use Rattle.std.proofs.Common.{arith}
use Rattle.st_frames.proofs.Doing.{rows}
use Rattle.st_model.specs.Returns.{cannot_return}
use Rattle.st_control.proofs.returns.cannot_return.Goals as goal

pub returns-in_err-push-clause-does : goal.returns-in_err-push-clause-does
unfolding cannot_return
returns-in_err-push-clause-does g c = grind (arith, rows)

pub returns-in_err-push-2-clause-does : goal.returns-in_err-push-2-clause-does
unfolding cannot_return
returns-in_err-push-2-clause-does g c = grind (arith, rows)

pub returns-clause-does : goal.returns-clause-does
unfolding cannot_return
returns-clause-does g c = grind (arith, rows)

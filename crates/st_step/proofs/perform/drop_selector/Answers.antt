use Rattle.std.proofs.Common.{arith}
use Rattle.st_frames.proofs.Doing.{rows}
use Rattle.st_model.specs.Executing.{drop_selector}
use Rattle.st_step.proofs.perform.drop_selector.Goals as goal

pub returns-in_err-transfer-clause-does : goal.returns-in_err-transfer-clause-does
unfolding drop_selector
returns-in_err-transfer-clause-does g c = grind (arith, rows)

pub returns-clause-does : goal.returns-clause-does
unfolding drop_selector
returns-clause-does g c = grind (arith, rows)

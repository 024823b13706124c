use Rattle.std.proofs.Common.{arith}
use Rattle.st_frames.proofs.Doing.{checks}
use Rattle.st_model.specs.Executing.{spread_array}
use Rattle.st_step.proofs.perform.spread_array.Goals as goal

pub returns-then-end-gt16388-clause-does : goal.returns-then-end-gt16388-clause-does
unfolding spread_array
returns-then-end-gt16388-clause-does g c = grind (arith, checks)

pub returns-in_err-transfer-clause-does : goal.returns-in_err-transfer-clause-does
unfolding spread_array
returns-in_err-transfer-clause-does g c = grind (arith, checks)

pub returns-clause-does : goal.returns-clause-does
unfolding spread_array
returns-clause-does g c = grind (arith, checks)

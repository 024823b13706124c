use Rattle.std.proofs.Common.{arith}
use Rattle.st_frames.proofs.Doing.{rows}
use Rattle.st_model.specs.Returns.{jump_on, calls}
use Rattle.st_control.proofs.jumps.jump_on.Goals as goal

pub returns-in_err-x-clause-does : goal.returns-in_err-x-clause-does
unfolding jump_on calls
returns-in_err-x-clause-does g c = grind (arith, rows)

pub returns-then-same-clause-does : goal.returns-then-same-clause-does
unfolding jump_on calls
returns-then-same-clause-does g c = grind (arith, rows)

pub returns-then-same-2-clause-does : goal.returns-then-same-2-clause-does
unfolding jump_on calls
returns-then-same-2-clause-does g c = grind (arith, rows)

pub returns-in_err-must_be_boolean-clause-does : goal.returns-in_err-must_be_boolean-clause-does
unfolding jump_on calls
returns-in_err-must_be_boolean-clause-does g c = grind (arith, rows)

pub returns-clause-does : goal.returns-clause-does
unfolding jump_on calls
returns-clause-does g c = grind (arith, rows)

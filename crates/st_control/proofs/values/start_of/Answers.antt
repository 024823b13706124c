use Rattle.std.proofs.Common.{arith}
use Rattle.st_control.proofs.Valued.{starts}
use Rattle.st_model.specs.Blocks.{start_of}
use Rattle.st_control.proofs.values.start_of.Goals as goal

pub returns-in_err-check_class-clause-does : goal.returns-in_err-check_class-clause-does
unfolding start_of
returns-in_err-check_class-clause-does g c = grind (arith, starts)

pub returns-in_err-fields-clause-does : goal.returns-in_err-fields-clause-does
unfolding start_of
returns-in_err-fields-clause-does g c = grind (arith, starts)

pub returns-in_err-x-clause-does : goal.returns-in_err-x-clause-does
unfolding start_of
returns-in_err-x-clause-does g c = grind (arith, starts)

pub returns-in_err-arguments-clause-does : goal.returns-in_err-arguments-clause-does
unfolding start_of
returns-in_err-arguments-clause-does g c = grind (arith, starts)

pub returns-then-arguments-n-clause-does : goal.returns-then-arguments-n-clause-does
unfolding start_of
returns-then-arguments-n-clause-does g c = grind (arith, starts)

pub returns-in_err-first-clause-does : goal.returns-in_err-first-clause-does
unfolding start_of
returns-in_err-first-clause-does g c = grind (arith, starts)

pub returns-then-fields-n-clause-does : goal.returns-then-fields-n-clause-does
unfolding start_of
returns-then-fields-n-clause-does g c = grind (arith, starts)

pub returns-clause-does : goal.returns-clause-does
unfolding start_of
returns-clause-does g c = grind (arith, starts)

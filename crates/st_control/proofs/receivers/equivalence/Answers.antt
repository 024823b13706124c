use Rattle.std.proofs.Common.{arith}
use Rattle.st_frames.proofs.Doing.{rows}
use Rattle.st_model.specs.Arithmetic.{equivalence}
use Rattle.st_model.specs.Primitives.{truth}
use Rattle.st_control.proofs.receivers.equivalence.Goals as goal

pub returns-in_err-receiver-clause-does : goal.returns-in_err-receiver-clause-does
unfolding equivalence truth
returns-in_err-receiver-clause-does g c = grind (arith, rows)

pub returns-in_err-argument-clause-does : goal.returns-in_err-argument-clause-does
unfolding equivalence truth
returns-in_err-argument-clause-does g c = grind (arith, rows)

pub returns-then-same-clause-does : goal.returns-then-same-clause-does
unfolding equivalence truth
returns-then-same-clause-does g c = grind (arith, rows)

pub returns-else-same-clause-does : goal.returns-else-same-clause-does
unfolding equivalence truth
returns-else-same-clause-does g c = grind (arith, rows)

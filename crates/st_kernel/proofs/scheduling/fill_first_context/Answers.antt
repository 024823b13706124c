use Rattle.std.proofs.Common.{arith}
use Rattle.st_frames.proofs.Doing.{rows}
use Rattle.st_kernel.specs.Starting.{fill_first_context}
use Rattle.st_kernel.proofs.scheduling.fill_first_context.Goals as goal

pub returns-in_err-store_field-clause-does : goal.returns-in_err-store_field-clause-does
unfolding fill_first_context
returns-in_err-store_field-clause-does g c = grind (arith, rows)

pub returns-in_err-store_field-2-clause-does : goal.returns-in_err-store_field-2-clause-does
unfolding fill_first_context
returns-in_err-store_field-2-clause-does g c = grind (arith, rows)

pub returns-in_err-store_field-3-clause-does : goal.returns-in_err-store_field-3-clause-does
unfolding fill_first_context
returns-in_err-store_field-3-clause-does g c = grind (arith, rows)

pub returns-clause-does : goal.returns-clause-does
unfolding fill_first_context
returns-clause-does g c = grind (arith, rows)

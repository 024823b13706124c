use Rattle.std.proofs.Common.{arith}
use Rattle.st_frames.proofs.Doing.{rows}
use Rattle.st_model.specs.Contexts.{fill_context}
use Rattle.st_control.proofs.activation.fill_context.Goals as goal

pub returns-in_err-store_field-clause-does : goal.returns-in_err-store_field-clause-does
unfolding fill_context
returns-in_err-store_field-clause-does g c = grind (arith, rows)

pub returns-in_err-store_field-2-clause-does : goal.returns-in_err-store_field-2-clause-does
unfolding fill_context
returns-in_err-store_field-2-clause-does g c = grind (arith, rows)

pub returns-in_err-store_field-3-clause-does : goal.returns-in_err-store_field-3-clause-does
unfolding fill_context
returns-in_err-store_field-3-clause-does g c = grind (arith, rows)

pub returns-clause-does : goal.returns-clause-does
unfolding fill_context
returns-clause-does g c = grind (arith, rows)

use Rattle.std.proofs.Common.{arith}
use Rattle.st_frames.proofs.Doing.{rows}
use Rattle.st_model.specs.Contexts.{new_context}
use Rattle.st_control.proofs.activation.new_context.Goals as goal

pub returns-in_err-context-clause-does : goal.returns-in_err-context-clause-does
unfolding new_context
returns-in_err-context-clause-does g c = grind (arith, rows)

pub returns-in_err-fill_context-clause-does : goal.returns-in_err-fill_context-clause-does
unfolding new_context
returns-in_err-fill_context-clause-does g c = grind (arith, rows)

pub returns-clause-does : goal.returns-clause-does
unfolding new_context
returns-clause-does g c = grind (arith, rows)

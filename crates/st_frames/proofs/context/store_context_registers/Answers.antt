use Rattle.std.proofs.Common.{arith}
use Rattle.st_frames.proofs.Doing.{rows}
use Rattle.st_model.specs.Contexts.{store_context_registers}
use Rattle.st_frames.proofs.context.store_context_registers.Goals as goal

pub returns-in_err-store_field-clause-does : goal.returns-in_err-store_field-clause-does
unfolding store_context_registers
returns-in_err-store_field-clause-does g c = grind (arith, rows)

pub returns-clause-does : goal.returns-clause-does
unfolding store_context_registers
returns-clause-does g c = grind (arith, rows)

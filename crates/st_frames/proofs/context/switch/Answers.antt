use Rattle.std.proofs.Common.{arith}
use Rattle.st_frames.proofs.Doing.{rows}
use Rattle.st_model.specs.Contexts.{switch}
use Rattle.st_frames.proofs.context.switch.Goals as goal

pub returns-in_err-store_context_registers-clause-does : goal.returns-in_err-store_context_registers-clause-does
unfolding switch
returns-in_err-store_context_registers-clause-does g c = grind (arith, rows)

pub returns-clause-does : goal.returns-clause-does
unfolding switch
returns-clause-does g c = grind (arith, rows)

use Rattle.std.proofs.Common.{arith}
use Rattle.st_frames.proofs.Doing.{rows}
use Rattle.st_model.specs.Contexts.{fetch_context_registers}
use Rattle.st_frames.proofs.context.fetch_context_registers.Goals as goal

pub returns-in_err-new : goal.returns-in_err-new
unfolding fetch_context_registers
returns-in_err-new g c = grind (arith, rows)

pub returns : goal.returns
unfolding fetch_context_registers
returns g c = grind (arith, rows)

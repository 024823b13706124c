use Rattle.std.proofs.Common.{arith}
use Rattle.st_model.proofs.Runs.{runs}
use Rattle.st_model.specs.Contexts.{context_registers}
use Rattle.st_frames.proofs.reading.read_fields.Goals as goal

pub returns-in_err-home : goal.returns-in_err-home
unfolding context_registers
returns-in_err-home g c = grind (arith, runs)

pub returns-in_err-method : goal.returns-in_err-method
unfolding context_registers
returns-in_err-method g c = grind (arith, runs)

pub returns-in_err-receiver : goal.returns-in_err-receiver
unfolding context_registers
returns-in_err-receiver g c = grind (arith, runs)

pub returns-in_err-ip : goal.returns-in_err-ip
unfolding context_registers
returns-in_err-ip g c = grind (arith, runs)

pub returns-in_err-sp : goal.returns-in_err-sp
unfolding context_registers
returns-in_err-sp g c = grind (arith, runs)

pub returns : goal.returns
unfolding context_registers
returns g c = grind (arith, runs)

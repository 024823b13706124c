use Rattle.std.proofs.Common.{arith}
use Rattle.st_frames.proofs.Doing.{rows}
use Rattle.st_model.specs.Bytecodes.{extended_send}
use Rattle.st_model.specs.Executing.{executed}
use Rattle.st_step.proofs.send.extended_send.Goals as goal

pub returns-in_err-byte-clause-does : goal.returns-in_err-byte-clause-does
unfolding extended_send executed
returns-in_err-byte-clause-does g c = grind (arith, rows)

pub returns-in_err-call-clause-does : goal.returns-in_err-call-clause-does
unfolding extended_send executed
returns-in_err-call-clause-does g c = grind (arith, rows)

pub returns-clause-does : goal.returns-clause-does
unfolding extended_send executed
returns-clause-does g c = grind (arith, rows)

use Rattle.std.proofs.Common.{arith}
use Rattle.st_frames.proofs.Doing.{rows}
use Rattle.st_model.specs.Executing.{executed}
use Rattle.st_step.proofs.send.send_literal_selector.Goals as goal

pub returns-in_err-call-clause-does : goal.returns-in_err-call-clause-does
unfolding executed
returns-in_err-call-clause-does g c = grind (arith, rows)

pub returns-clause-does : goal.returns-clause-does
unfolding executed
returns-clause-does g c = grind (arith, rows)

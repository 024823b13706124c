use Rattle.std.proofs.Common.{arith}
use Rattle.st_frames.proofs.Doing.{rows}
use Rattle.st_step.specs.inside.Jumping.{long_conditional_jump}
use Rattle.st_model.specs.Executing.{executed_if_any}
use Rattle.st_step.proofs.jump.long_conditional_jump.Goals as goal

pub returns-in_err-byte-clause-does : goal.returns-in_err-byte-clause-does
unfolding long_conditional_jump executed_if_any
returns-in_err-byte-clause-does g c = grind (arith, rows)

pub returns-in_err-call-clause-does : goal.returns-in_err-call-clause-does
unfolding long_conditional_jump executed_if_any
returns-in_err-call-clause-does g c = grind (arith, rows)

pub returns-clause-does : goal.returns-clause-does
unfolding long_conditional_jump executed_if_any
returns-clause-does g c = grind (arith, rows)

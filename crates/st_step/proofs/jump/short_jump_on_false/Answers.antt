use Rattle.std.proofs.Common.{arith}
use Rattle.st_frames.proofs.Doing.{rows}
use Rattle.st_model.specs.Bytecodes.{short_jump_on_false}
use Rattle.st_model.specs.Executing.{executed_if_any}
use Rattle.st_step.proofs.jump.short_jump_on_false.Goals as goal

pub returns-in_err-call-clause-does : goal.returns-in_err-call-clause-does
unfolding short_jump_on_false executed_if_any
returns-in_err-call-clause-does g c = grind (arith, rows)

pub returns-clause-does : goal.returns-clause-does
unfolding short_jump_on_false executed_if_any
returns-clause-does g c = grind (arith, rows)

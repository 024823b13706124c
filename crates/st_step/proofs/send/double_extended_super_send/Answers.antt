use Rattle.std.proofs.Common.{arith}
use Rattle.st_frames.proofs.Doing.{rows}
use Rattle.st_model.specs.Bytecodes.{double_extended_super_send, send_literal_to_super}
use Rattle.st_model.specs.Executing.{executed}
use Rattle.st_step.proofs.send.double_extended_super_send.Goals as goal

pub returns-in_err-arguments-clause-does : goal.returns-in_err-arguments-clause-does
unfolding double_extended_super_send send_literal_to_super executed
returns-in_err-arguments-clause-does g c = grind (arith, rows)

pub returns-in_err-literal-clause-does : goal.returns-in_err-literal-clause-does
unfolding double_extended_super_send send_literal_to_super executed
returns-in_err-literal-clause-does g c = grind (arith, rows)

pub returns-in_err-selector-clause-does : goal.returns-in_err-selector-clause-does
unfolding double_extended_super_send send_literal_to_super executed
returns-in_err-selector-clause-does g c = grind (arith, rows)

pub returns-in_err-call-clause-does : goal.returns-in_err-call-clause-does
unfolding double_extended_super_send send_literal_to_super executed
returns-in_err-call-clause-does g c = grind (arith, rows)

pub returns-clause-does : goal.returns-clause-does
unfolding double_extended_super_send send_literal_to_super executed
returns-clause-does g c = grind (arith, rows)

use Rattle.std.proofs.Common.{arith}
use Rattle.st_frames.proofs.Doing.{rows}
use Rattle.st_model.specs.Bytecodes.{send_literal}
use Rattle.st_step.proofs.send.send_literal.Goals as goal

pub returns-in_err-selector-clause-does : goal.returns-in_err-selector-clause-does
unfolding send_literal
returns-in_err-selector-clause-does g c = grind (arith, rows)

pub returns-clause-does : goal.returns-clause-does
unfolding send_literal
returns-clause-does g c = grind (arith, rows)

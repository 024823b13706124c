use Rattle.std.proofs.Common.{arith}
use Rattle.st_frames.proofs.Doing.{rows}
use Rattle.st_model.specs.Bytecodes.{extended_push}
use Rattle.st_control.proofs.stack.extended_push.Goals as goal

pub returns-in_err-byte-clause-does : goal.returns-in_err-byte-clause-does
unfolding extended_push
returns-in_err-byte-clause-does g c = grind (arith, rows)

pub returns-clause-does : goal.returns-clause-does
unfolding extended_push
returns-clause-does g c = grind (arith, rows)

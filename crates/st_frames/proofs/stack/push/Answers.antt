use Rattle.std.proofs.Common.{arith}
use Rattle.st_frames.proofs.Doing.{rows}
use Rattle.st_model.specs.Steps.{push}
use Rattle.st_frames.proofs.stack.push.Goals as goal

pub returns-in_err-put-clause-does : goal.returns-in_err-put-clause-does
unfolding push
returns-in_err-put-clause-does g c = grind (arith, rows)

pub returns-clause-does : goal.returns-clause-does
unfolding push
returns-clause-does g c = grind (arith, rows)

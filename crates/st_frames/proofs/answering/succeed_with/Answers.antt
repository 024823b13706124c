use Rattle.std.proofs.Common.{arith}
use Rattle.st_frames.proofs.Doing.{rows}
use Rattle.st_frames.specs.inside.Answering.{succeed_with}
use Rattle.st_frames.proofs.answering.succeed_with.Goals as goal

pub returns-in_err-answer_with-clause-does : goal.returns-in_err-answer_with-clause-does
unfolding succeed_with
returns-in_err-answer_with-clause-does g c = grind (arith, rows)

pub returns-clause-does : goal.returns-clause-does
unfolding succeed_with
returns-clause-does g c = grind (arith, rows)

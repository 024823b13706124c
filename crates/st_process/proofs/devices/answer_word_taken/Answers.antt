use Rattle.std.proofs.Common.{arith}
use Rattle.st_frames.proofs.Doing.{rows}
use Rattle.st_frames.specs.inside.Answering.{succeed_by}
use Rattle.st_process.proofs.devices.answer_word_taken.Goals as goal

pub returns-in_err-answer-clause-does : goal.returns-in_err-answer-clause-does
unfolding succeed_by
returns-in_err-answer-clause-does g c = grind (arith, rows)

pub returns-clause-does : goal.returns-clause-does
unfolding succeed_by
returns-clause-does g c = grind (arith, rows)

use Rattle.std.proofs.Common.{arith}
use Rattle.st_frames.proofs.Doing.{rows}
use Rattle.st_model.specs.Primitives.{answer_with}
use Rattle.st_frames.proofs.answering.answer_with.Goals as goal

pub returns-in_err-pop_words-clause-does : goal.returns-in_err-pop_words-clause-does
unfolding answer_with
returns-in_err-pop_words-clause-does g c = grind (arith, rows)

pub returns-clause-does : goal.returns-clause-does
unfolding answer_with
returns-clause-does g c = grind (arith, rows)

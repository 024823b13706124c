use Rattle.std.proofs.Common.{arith}
use Rattle.st_frames.proofs.Doing.{rows}
use Rattle.st_model.specs.Primitives.{answer_with, pop_words}
use Rattle.st_control.proofs.arithmetic.answer_pair.Goals as goal

pub returns-in_err-pop-clause-does : goal.returns-in_err-pop-clause-does
unfolding answer_with pop_words
returns-in_err-pop-clause-does g c = grind (arith, rows)

pub returns-in_err-pop-2-clause-does : goal.returns-in_err-pop-2-clause-does
unfolding answer_with pop_words
returns-in_err-pop-2-clause-does g c = grind (arith, rows)

pub returns-clause-does : goal.returns-clause-does
unfolding answer_with pop_words
returns-clause-does g c = grind (arith, rows)

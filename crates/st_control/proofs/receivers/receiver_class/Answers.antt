use Rattle.std.proofs.Common.{arith}
use Rattle.st_frames.proofs.Doing.{rows}
use Rattle.st_model.specs.Arithmetic.{receiver_class}
use Rattle.st_model.specs.Primitives.{answer_with, pop_words}
use Rattle.st_control.proofs.receivers.receiver_class.Goals as goal

pub returns-in_err-receiver-clause-does : goal.returns-in_err-receiver-clause-does
unfolding receiver_class answer_with pop_words
returns-in_err-receiver-clause-does g c = grind (arith, rows)

pub returns-in_err-class-clause-does : goal.returns-in_err-class-clause-does
unfolding receiver_class answer_with pop_words
returns-in_err-class-clause-does g c = grind (arith, rows)

pub returns-in_err-pop-clause-does : goal.returns-in_err-pop-clause-does
unfolding receiver_class answer_with pop_words
returns-in_err-pop-clause-does g c = grind (arith, rows)

pub returns-clause-does : goal.returns-clause-does
unfolding receiver_class answer_with pop_words
returns-clause-does g c = grind (arith, rows)

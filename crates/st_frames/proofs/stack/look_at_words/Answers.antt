use Rattle.std.proofs.Common.{arith}
use Rattle.st_frames.proofs.Doing.{rows}
use Rattle.st_model.specs.Steps.{look_at_words}
use Rattle.st_frames.proofs.stack.look_at_words.Goals as goal

pub returns-in_err-under : goal.returns-in_err-under
unfolding look_at_words
returns-in_err-under g c = grind (arith, rows)

pub returns-in_err-top : goal.returns-in_err-top
unfolding look_at_words
returns-in_err-top g c = grind (arith, rows)

pub returns : goal.returns
unfolding look_at_words
returns g c = grind (arith, rows)

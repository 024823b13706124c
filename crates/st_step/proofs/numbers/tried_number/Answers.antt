use Rattle.std.proofs.Common.{arith}
use Rattle.st_frames.proofs.Doing.{rows}
use Rattle.st_step.specs.inside.Trying.{tried_number}
use Rattle.st_step.proofs.numbers.tried_number.Goals as goal

pub returns-in_err-look_at_words-clause-does : goal.returns-in_err-look_at_words-clause-does
unfolding tried_number
returns-in_err-look_at_words-clause-does g c = grind (arith, rows)

pub returns-clause-does : goal.returns-clause-does
unfolding tried_number
returns-clause-does g c = grind (arith, rows)

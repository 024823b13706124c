use Rattle.std.proofs.Common.{arith}
use Rattle.st_frames.proofs.Doing.{rows}
use Rattle.st_model.specs.Executing.{goes_on, by_flag}
use Rattle.st_step.proofs.flags.by_flag.Goals as goal

pub returns-in-5-clause-does : goal.returns-in-5-clause-does
unfolding by_flag goes_on
returns-in-5-clause-does g c = grind (arith, rows)

pub returns-in_err-answer_field-in-6-clause-does : goal.returns-in_err-answer_field-in-6-clause-does
unfolding by_flag goes_on
returns-in_err-answer_field-in-6-clause-does g c = grind (arith, rows)

pub returns-in_ok-answer_field-in-6-clause-does : goal.returns-in_ok-answer_field-in-6-clause-does
unfolding by_flag goes_on
returns-in_ok-answer_field-in-6-clause-does g c = grind (arith, rows)

pub returns-in_default-clause-does : goal.returns-in_default-clause-does
unfolding by_flag goes_on
returns-in_default-clause-does g c = grind (arith, rows)

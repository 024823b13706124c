use Rattle.std.proofs.Common.{arith}
use Rattle.st_frames.proofs.Doing.{rows}
use Rattle.st_model.specs.Input.{low_space}
use Rattle.st_process.proofs.low_space.low_space.Goals as goal

pub returns-in_err-check_fields-clause-does : goal.returns-in_err-check_fields-clause-does
unfolding low_space
returns-in_err-check_fields-clause-does g c = grind (arith, rows)

pub returns-in_err-entries-clause-does : goal.returns-in_err-entries-clause-does
unfolding low_space
returns-in_err-entries-clause-does g c = grind (arith, rows)

pub returns-in_err-words-clause-does : goal.returns-in_err-words-clause-does
unfolding low_space
returns-in_err-words-clause-does g c = grind (arith, rows)

pub returns-clause-does : goal.returns-clause-does
unfolding low_space
returns-clause-does g c = grind (arith, rows)

use Rattle.std.proofs.Common.{arith}
use Rattle.st_frames.proofs.Doing.{rows}
use Rattle.st_model.specs.Primitives.{new_large}
use Rattle.st_frames.proofs.large.new_large.Goals as goal

pub returns-in_err-word-clause-does : goal.returns-in_err-word-clause-does
unfolding new_large
returns-in_err-word-clause-does g c = grind (arith, rows)

pub returns-in_err-find_bytes-clause-does : goal.returns-in_err-find_bytes-clause-does
unfolding new_large
returns-in_err-find_bytes-clause-does g c = grind (arith, rows)

pub returns-clause-does : goal.returns-clause-does
unfolding new_large
returns-clause-does g c = grind (arith, rows)

use Rattle.std.proofs.Common.{arith}
use Rattle.st_frames.proofs.Doing.{rows}
use Rattle.st_model.specs.Storage.{replacing}
use Rattle.st_storage.proofs.replacing.replacing.Goals as goal

pub returns-in_err-check_bytes-clause-does : goal.returns-in_err-check_bytes-clause-does
unfolding replacing
returns-in_err-check_bytes-clause-does g c = grind (arith, rows)

pub returns-in_err-check_bytes-2-clause-does : goal.returns-in_err-check_bytes-2-clause-does
unfolding replacing
returns-in_err-check_bytes-2-clause-does g c = grind (arith, rows)

pub returns-in_err-first-clause-does : goal.returns-in_err-first-clause-does
unfolding replacing
returns-in_err-first-clause-does g c = grind (arith, rows)

pub returns-in_err-last-clause-does : goal.returns-in_err-last-clause-does
unfolding replacing
returns-in_err-last-clause-does g c = grind (arith, rows)

pub returns-in_err-from-clause-does : goal.returns-in_err-from-clause-does
unfolding replacing
returns-in_err-from-clause-does g c = grind (arith, rows)

pub returns-clause-does : goal.returns-clause-does
unfolding replacing
returns-clause-does g c = grind (arith, rows)

use Rattle.std.proofs.Common.{arith}
use Rattle.st_frames.proofs.Doing.{checks}
use Rattle.st_model.specs.Storage.{checked_replacing}
use Rattle.st_storage.proofs.replacing.checked_replacing.Goals as goal

pub returns-then-p-lt1-clause-does : goal.returns-then-p-lt1-clause-does
unfolding checked_replacing
returns-then-p-lt1-clause-does g c = grind (arith, checks)

pub returns-then-p-lt1-2-clause-does : goal.returns-then-p-lt1-2-clause-does
unfolding checked_replacing
returns-then-p-lt1-2-clause-does g c = grind (arith, checks)

pub returns-in_err-fetch_size-clause-does : goal.returns-in_err-fetch_size-clause-does
unfolding checked_replacing
returns-in_err-fetch_size-clause-does g c = grind (arith, checks)

pub returns-clause-does : goal.returns-clause-does
unfolding checked_replacing
returns-clause-does g c = grind (arith, checks)

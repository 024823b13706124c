use Rattle.std.proofs.Common.{arith}
use Rattle.st_frames.proofs.Doing.{rows}
use Rattle.st_model.specs.Storage.{storing_by_index}
use Rattle.st_storage.proofs.storing.storing_by_index.Goals as goal

pub returns-in_err-place-clause-does : goal.returns-in_err-place-clause-does
unfolding storing_by_index
returns-in_err-place-clause-does g c = grind (arith, rows)

pub returns-clause-does : goal.returns-clause-does
unfolding storing_by_index
returns-clause-does g c = grind (arith, rows)

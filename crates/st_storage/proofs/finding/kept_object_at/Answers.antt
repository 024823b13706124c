use Rattle.std.proofs.Common.{arith}
use Rattle.st_frames.proofs.Doing.{rows}
use Rattle.st_model.specs.Storage.{kept_object_at}
use Rattle.st_model.specs.Steps.{or_die}
use Rattle.st_storage.proofs.finding.kept_object_at.Goals as goal

pub returns-in_err-n : goal.returns-in_err-n
unfolding kept_object_at or_die
returns-in_err-n g c = grind (arith, rows)

pub returns-in-Some : goal.returns-in-Some
unfolding kept_object_at or_die
returns-in-Some g c = grind (arith, rows)

pub returns-in-None : goal.returns-in-None
unfolding kept_object_at or_die
returns-in-None g c = grind (arith, rows)

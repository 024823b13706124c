use Rattle.std.proofs.Common.{arith}
use Rattle.st_frames.proofs.Doing.{rows}
use Rattle.st_model.specs.Storage.{half_pointer, check_object}
use Rattle.st_storage.proofs.finding.half_pointer.Goals as goal

pub returns-in_err-fetch_kind-clause-does : goal.returns-in_err-fetch_kind-clause-does
unfolding half_pointer check_object
returns-in_err-fetch_kind-clause-does g c = grind (arith, rows)

pub returns-clause-does : goal.returns-clause-does
unfolding half_pointer check_object
returns-clause-does g c = grind (arith, rows)

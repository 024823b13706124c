use Rattle.std.proofs.Common.{arith}
use Rattle.st_frames.proofs.Doing.{rows}
use Rattle.st_model.specs.Storage.{check_objects, check_object}
use Rattle.st_storage.proofs.finding.check_objects.Goals as goal

pub returns-in_err-fetch_kind : goal.returns-in_err-fetch_kind
unfolding check_objects check_object
returns-in_err-fetch_kind g c = grind (arith, rows)

pub returns-in_err-fetch_kind-2 : goal.returns-in_err-fetch_kind-2
unfolding check_objects check_object
returns-in_err-fetch_kind-2 g c = grind (arith, rows)

pub returns : goal.returns
unfolding check_objects check_object
returns g c = grind (arith, rows)

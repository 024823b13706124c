use Rattle.std.proofs.Common.{arith}
use Rattle.st_frames.proofs.Doing.{rows}
use Rattle.st_model.specs.Storage.{place_behind_fixed}
use Rattle.st_storage.proofs.elements.place_behind_fixed.Goals as goal

pub returns-in_err-fixed : goal.returns-in_err-fixed
unfolding place_behind_fixed
returns-in_err-fixed g c = grind (arith, rows)

pub returns : goal.returns
unfolding place_behind_fixed
returns g c = grind (arith, rows)

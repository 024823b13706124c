use Rattle.std.proofs.Common.{arith}
use Rattle.st_frames.proofs.Doing.{rows}
use Rattle.st_model.specs.Storage.{place_at}
use Rattle.st_storage.proofs.elements.place_at.Goals as goal

pub returns-in_err-i : goal.returns-in_err-i
unfolding place_at
returns-in_err-i g c = grind (arith, rows)

pub returns : goal.returns
unfolding place_at
returns g c = grind (arith, rows)

use Rattle.std.proofs.Common.{arith}
use Rattle.st_frames.proofs.Doing.{rows}
use Rattle.st_model.specs.Storage.{character_at}
use Rattle.st_storage.proofs.strings.character_at.Goals as goal

pub returns-in_err-place : goal.returns-in_err-place
unfolding character_at
returns-in_err-place g c = grind (arith, rows)

pub returns : goal.returns
unfolding character_at
returns g c = grind (arith, rows)

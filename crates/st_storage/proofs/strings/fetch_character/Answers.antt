use Rattle.std.proofs.Common.{arith}
use Rattle.st_frames.proofs.Doing.{rows}
use Rattle.st_model.specs.Storage.{fetch_character}
use Rattle.st_storage.proofs.strings.fetch_character.Goals as goal

pub returns-in_err-byte : goal.returns-in_err-byte
unfolding fetch_character
returns-in_err-byte g c = grind (arith, rows)

pub returns : goal.returns
unfolding fetch_character
returns g c = grind (arith, rows)

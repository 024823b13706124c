use Rattle.std.proofs.Common.{arith}
use Rattle.st_frames.proofs.Doing.{rows}
use Rattle.st_model.specs.Storage.{character_byte}
use Rattle.st_storage.proofs.strings.character_byte.Goals as goal

pub returns-in_err-check_class : goal.returns-in_err-check_class
unfolding character_byte
returns-in_err-check_class g c = grind (arith, rows)

pub returns-in_err-code : goal.returns-in_err-code
unfolding character_byte
returns-in_err-code g c = grind (arith, rows)

pub returns : goal.returns
unfolding character_byte
returns g c = grind (arith, rows)

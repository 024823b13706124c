use Rattle.std.proofs.Common.{arith}
use Rattle.st_frames.proofs.Doing.{rows}
use Rattle.st_frames.proofs.Tries.{tests, counts}
use Rattle.st_model.specs.Storage.{check_header}
use Rattle.st_storage.proofs.compiled_methods.check_header.Goals as goal

pub returns-in_err-n : goal.returns-in_err-n
unfolding check_header
returns-in_err-n g c = grind (arith, rows, tests, counts)

pub returns-in_err-bits : goal.returns-in_err-bits
unfolding check_header
returns-in_err-bits g c = grind (arith, rows, tests, counts)

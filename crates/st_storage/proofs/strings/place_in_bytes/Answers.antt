use Rattle.std.proofs.Common.{arith}
use Rattle.st_frames.proofs.Doing.{rows}
use Rattle.st_model.specs.Storage.{place_in_bytes}
use Rattle.st_storage.proofs.strings.place_in_bytes.Goals as goal

pub returns-in_err-check_bytes-clause-does : goal.returns-in_err-check_bytes-clause-does
unfolding place_in_bytes
returns-in_err-check_bytes-clause-does g c = grind (arith, rows)

pub returns-clause-does : goal.returns-clause-does
unfolding place_in_bytes
returns-clause-does g c = grind (arith, rows)

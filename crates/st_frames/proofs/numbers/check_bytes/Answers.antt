use Rattle.std.proofs.Common.{arith}
use Rattle.st_frames.proofs.Doing.{rows}
use Rattle.st_frames.proofs.Tries.{tests}
use Rattle.st_model.specs.Primitives.{check_bytes}
use Rattle.st_frames.proofs.numbers.check_bytes.Goals as goal

pub returns-in_err-fetch_kind-clause-does : goal.returns-in_err-fetch_kind-clause-does
unfolding check_bytes
returns-in_err-fetch_kind-clause-does g c = grind (arith, rows, tests)

pub returns-in-Bytes-clause-does : goal.returns-in-Bytes-clause-does
unfolding check_bytes
returns-in-Bytes-clause-does g c = grind (arith, rows, tests)

pub returns-in_default-clause-does : goal.returns-in_default-clause-does
unfolding check_bytes
returns-in_default-clause-does g c = grind (arith, rows, tests)

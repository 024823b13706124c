use Rattle.std.proofs.Common.{arith}
use Rattle.st_frames.proofs.Doing.{rows}
use Rattle.st_model.specs.Storage.{header_or_literal}
use Rattle.st_storage.proofs.compiled_methods.header_or_literal.Goals as goal

pub returns-in_err-place : goal.returns-in_err-place
unfolding header_or_literal
returns-in_err-place g c = grind (arith, rows)

pub returns : goal.returns
unfolding header_or_literal
returns g c = grind (arith, rows)

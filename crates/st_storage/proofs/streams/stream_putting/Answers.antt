use Rattle.std.proofs.Common.{arith}
use Rattle.st_frames.proofs.Doing.{rows}
use Rattle.st_model.specs.Storage.{stream_putting, putting_at}
use Rattle.st_storage.proofs.streams.stream_putting.Goals as goal

pub returns-in_err-standing-clause-does : goal.returns-in_err-standing-clause-does
unfolding stream_putting putting_at
returns-in_err-standing-clause-does g c = grind (arith, rows)

pub returns-in_err-element-clause-does : goal.returns-in_err-element-clause-does
unfolding stream_putting putting_at
returns-in_err-element-clause-does g c = grind (arith, rows)

pub returns-clause-does : goal.returns-clause-does
unfolding stream_putting putting_at
returns-clause-does g c = grind (arith, rows)

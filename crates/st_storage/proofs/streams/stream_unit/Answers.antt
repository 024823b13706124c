use Rattle.std.proofs.Common.{arith}
use Rattle.st_frames.proofs.Doing.{rows}
use Rattle.st_model.specs.Storage.{stream_unit}
use Rattle.st_storage.proofs.streams.stream_unit.Goals as goal

pub returns-in-Objects-clause-does : goal.returns-in-Objects-clause-does
unfolding stream_unit
returns-in-Objects-clause-does g c = grind (arith, rows)

pub returns-in_err-byte-in-Characters-clause-does : goal.returns-in_err-byte-in-Characters-clause-does
unfolding stream_unit
returns-in_err-byte-in-Characters-clause-does g c = grind (arith, rows)

pub returns-in_ok-byte-in-Characters-clause-does : goal.returns-in_ok-byte-in-Characters-clause-does
unfolding stream_unit
returns-in_ok-byte-in-Characters-clause-does g c = grind (arith, rows)

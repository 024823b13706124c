use Rattle.std.proofs.Common.{arith}
use Rattle.st_frames.proofs.Doing.{rows}
use Rattle.st_model.specs.Storage.{stream_standing, standing_at}
use Rattle.st_storage.proofs.streams.stream_standing.Goals as goal

pub returns-in_err-collection-clause-does : goal.returns-in_err-collection-clause-does
unfolding stream_standing standing_at
returns-in_err-collection-clause-does g c = grind (arith, rows)

pub returns-in_err-elements-clause-does : goal.returns-in_err-elements-clause-does
unfolding stream_standing standing_at
returns-in_err-elements-clause-does g c = grind (arith, rows)

pub returns-in_err-position-clause-does : goal.returns-in_err-position-clause-does
unfolding stream_standing standing_at
returns-in_err-position-clause-does g c = grind (arith, rows)

pub returns-in_err-place-clause-does : goal.returns-in_err-place-clause-does
unfolding stream_standing standing_at
returns-in_err-place-clause-does g c = grind (arith, rows)

pub returns-clause-does : goal.returns-clause-does
unfolding stream_standing standing_at
returns-clause-does g c = grind (arith, rows)

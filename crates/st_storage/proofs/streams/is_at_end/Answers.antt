use Rattle.std.proofs.Common.{arith}
use Rattle.st_frames.proofs.Doing.{rows}
use Rattle.st_model.specs.Storage.{is_at_end}
use Rattle.st_storage.proofs.streams.is_at_end.Goals as goal

pub returns-in_err-collection : goal.returns-in_err-collection
unfolding is_at_end
returns-in_err-collection g c = grind (arith, rows)

pub returns-in_err-has_characters : goal.returns-in_err-has_characters
unfolding is_at_end
returns-in_err-has_characters g c = grind (arith, rows)

pub returns-in_err-position : goal.returns-in_err-position
unfolding is_at_end
returns-in_err-position g c = grind (arith, rows)

pub returns-in_err-limit : goal.returns-in_err-limit
unfolding is_at_end
returns-in_err-limit g c = grind (arith, rows)

pub returns-in_err-size : goal.returns-in_err-size
unfolding is_at_end
returns-in_err-size g c = grind (arith, rows)

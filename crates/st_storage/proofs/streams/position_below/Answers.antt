use Rattle.std.proofs.Common.{arith}
use Rattle.std.proofs.lemmas.Int.{ints}
use Rattle.st_frames.proofs.Doing.{row-memory, rows}
use Rattle.st_storage.proofs.Valued.{position-failed, positions}
use Rattle.st_model.specs.Storage.{position_below}
use Rattle.st_storage.proofs.streams.position_below.Goals as goal

pub returns-then-position-lt0-clause-does : goal.returns-then-position-lt0-clause-does
returns-then-position-lt0-clause-does g c =
    position-failed _ _ _ _ _ _ (c.in_ok-position.ensures.integer _ (row-memory _ _ _)) (c.in_ok-limit.ensures.integer _ (row-memory _ _ _)) (omega (arith, ints)) (omega (arith, ints))

pub returns-in_err-position-clause-does : goal.returns-in_err-position-clause-does
unfolding position_below
returns-in_err-position-clause-does g c = grind (arith, rows, positions)

pub returns-in_err-limit-clause-does : goal.returns-in_err-limit-clause-does
unfolding position_below
returns-in_err-limit-clause-does g c = grind (arith, rows, positions)

pub returns-then-limit-position-clause-does : goal.returns-then-limit-position-clause-does
unfolding position_below
returns-then-limit-position-clause-does g c = grind (arith, rows, positions)

use Rattle.std.proofs.Common.{arith}
use Rattle.st_frames.proofs.Doing.{rows}
use Rattle.st_model.specs.Storage.{storing_character, character_storing_at}
use Rattle.st_storage.proofs.strings.storing_character.Goals as goal

pub returns-in_err-place-clause-does : goal.returns-in_err-place-clause-does
unfolding storing_character character_storing_at
returns-in_err-place-clause-does g c = grind (arith, rows)

pub returns-in_err-byte-clause-does : goal.returns-in_err-byte-clause-does
unfolding storing_character character_storing_at
returns-in_err-byte-clause-does g c = grind (arith, rows)

pub returns-clause-does : goal.returns-clause-does
unfolding storing_character character_storing_at
returns-clause-does g c = grind (arith, rows)

use Rattle.std.proofs.Common.{arith}
use Rattle.st_frames.proofs.Doing.{rows}
use Rattle.st_storage.proofs.streams.store_position.Goals as goal

pub returns-clause-does : goal.returns-clause-does
returns-clause-does g c = grind (arith, rows)

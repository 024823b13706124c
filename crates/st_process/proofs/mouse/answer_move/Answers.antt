use Rattle.std.proofs.Common.{arith}
use Rattle.st_frames.proofs.Doing.{rows}
use Rattle.st_process.proofs.Changing.{mice}
use Rattle.st_frames.specs.inside.Answering.{succeed_by}
use Rattle.st_process.proofs.mouse.answer_move.Goals as goal

pub returns-clause-does : goal.returns-clause-does
unfolding succeed_by
returns-clause-does g c = grind (arith, rows, mice)

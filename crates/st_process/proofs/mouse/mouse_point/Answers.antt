use Rattle.std.proofs.Common.{arith}
use Rattle.st_frames.proofs.Doing.{rows}
use Rattle.st_process.proofs.Worlds.{worlds}
use Rattle.st_model.specs.Input.{mouse_point}
use Rattle.st_process.proofs.mouse.mouse_point.Goals as goal

pub returns-clause-does : goal.returns-clause-does
unfolding mouse_point
returns-clause-does g c = grind (arith, rows, worlds)

use Rattle.std.proofs.Common.{arith}
use Rattle.st_frames.proofs.Doing.{rows}
use Rattle.st_process.proofs.Changing.{points}
use Rattle.st_process.proofs.mouse.primitive_mouse_point.Goals as goal

pub returns-in_err-point-clause-does : goal.returns-in_err-point-clause-does
returns-in_err-point-clause-does g c = grind (arith, rows, points)

pub returns-clause-does : goal.returns-clause-does
returns-clause-does g c = grind (arith, rows, points)

use Rattle.std.proofs.Common.{arith}
use Rattle.st_frames.proofs.Doing.{rows, pages}
use Rattle.st_process.proofs.Timers.{timers}
use Rattle.st_process.proofs.timer.set_timer.Goals as goal

pub returns-in-Rings-clause-does : goal.returns-in-Rings-clause-does
returns-in-Rings-clause-does g c = grind (arith, rows, pages, timers)

pub returns-in-Waits-clause-does : goal.returns-in-Waits-clause-does
returns-in-Waits-clause-does g c = grind (arith, rows, pages, timers)

pub returns-in-LetsGo-clause-does : goal.returns-in-LetsGo-clause-does
returns-in-LetsGo-clause-does g c = grind (arith, rows, pages, timers)

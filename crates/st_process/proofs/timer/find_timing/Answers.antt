use Rattle.std.proofs.Common.{arith}
use Rattle.st_frames.proofs.Doing.{rows}
use Rattle.st_process.proofs.Semaphores.{timings}
use Rattle.st_process.proofs.timer.find_timing.Goals as goal

pub returns-in_err-check_four_bytes-clause-does : goal.returns-in_err-check_four_bytes-clause-does
returns-in_err-check_four_bytes-clause-does g c = grind (arith, rows, timings)

pub returns-in_err-time-clause-does : goal.returns-in_err-time-clause-does
returns-in_err-time-clause-does g c = grind (arith, rows, timings)

pub returns-clause-does : goal.returns-clause-does
returns-clause-does g c = grind (arith, rows, timings)

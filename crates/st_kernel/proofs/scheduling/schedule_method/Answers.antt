use Rattle.std.proofs.Common.{arith}
use Rattle.st_frames.proofs.Doing.{rows}
use Rattle.st_kernel.specs.Starting.{schedule_method}
use Rattle.st_kernel.proofs.scheduling.schedule_method.Goals as goal

pub returns-in_err-fill_first_context-clause-does : goal.returns-in_err-fill_first_context-clause-does
unfolding schedule_method
returns-in_err-fill_first_context-clause-does g c = grind (arith, rows)

pub returns-in_err-schedule-clause-does : goal.returns-in_err-schedule-clause-does
unfolding schedule_method
returns-in_err-schedule-clause-does g c = grind (arith, rows)

pub returns-clause-does : goal.returns-clause-does
unfolding schedule_method
returns-clause-does g c = grind (arith, rows)

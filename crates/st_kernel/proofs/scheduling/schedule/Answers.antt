use Rattle.std.proofs.Common.{arith}
use Rattle.st_frames.proofs.Doing.{rows}
use Rattle.st_kernel.specs.Starting.{schedule}
use Rattle.st_kernel.proofs.scheduling.schedule.Goals as goal

pub returns-in_err-store_field-clause-does : goal.returns-in_err-store_field-clause-does
unfolding schedule
returns-in_err-store_field-clause-does g c = grind (arith, rows)

pub returns-in_err-store_field-2-clause-does : goal.returns-in_err-store_field-2-clause-does
unfolding schedule
returns-in_err-store_field-2-clause-does g c = grind (arith, rows)

pub returns-in_err-scheduler-clause-does : goal.returns-in_err-scheduler-clause-does
unfolding schedule
returns-in_err-scheduler-clause-does g c = grind (arith, rows)

pub returns-clause-does : goal.returns-clause-does
unfolding schedule
returns-clause-does g c = grind (arith, rows)

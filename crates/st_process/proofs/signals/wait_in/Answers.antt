use Rattle.std.proofs.Common.{arith}
use Rattle.st_frames.proofs.Doing.{rows}
use Rattle.st_model.specs.Processes.{wait_in}
use Rattle.st_process.proofs.signals.wait_in.Goals as goal

pub returns-in_err-process-clause-does : goal.returns-in_err-process-clause-does
unfolding wait_in
returns-in_err-process-clause-does g c = grind (arith, rows)

pub returns-in_err-add_last-clause-does : goal.returns-in_err-add_last-clause-does
unfolding wait_in
returns-in_err-add_last-clause-does g c = grind (arith, rows)

pub returns-clause-does : goal.returns-clause-does
unfolding wait_in
returns-clause-does g c = grind (arith, rows)

use Rattle.std.proofs.Common.{arith}
use Rattle.st_frames.proofs.Doing.{rows}
use Rattle.st_model.specs.Processes.{excess_of}
use Rattle.st_process.proofs.processes.excess_of.Goals as goal

pub returns-in_err-check_fields-clause-does : goal.returns-in_err-check_fields-clause-does
unfolding excess_of
returns-in_err-check_fields-clause-does g c = grind (arith, rows)

pub returns-clause-does : goal.returns-clause-does
unfolding excess_of
returns-clause-does g c = grind (arith, rows)

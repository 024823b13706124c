use Rattle.std.proofs.Common.{arith}
use Rattle.st_frames.proofs.Doing.{checks}
use Rattle.st_model.specs.Processes.{check_fields}
use Rattle.st_process.proofs.processes.check_fields.Goals as goal

pub returns-in_err-count : goal.returns-in_err-count
unfolding check_fields
returns-in_err-count g c = grind (arith, checks)

pub returns-then-count-n : goal.returns-then-count-n
unfolding check_fields
returns-then-count-n g c = grind (arith, checks)

pub returns : goal.returns
unfolding check_fields
returns g c = grind (arith, checks)

use Rattle.std.proofs.Common.{arith}
use Rattle.st_frames.proofs.Doing.{checks}
use Rattle.st_model.specs.Input.{check_four_bytes}
use Rattle.st_process.proofs.clocks.check_four_bytes.Goals as goal

pub returns-in_err-check_bytes : goal.returns-in_err-check_bytes
unfolding check_four_bytes
returns-in_err-check_bytes g c = grind (arith, checks)

pub returns-in_err-n : goal.returns-in_err-n
unfolding check_four_bytes
returns-in_err-n g c = grind (arith, checks)

pub returns-then-n-lt4 : goal.returns-then-n-lt4
unfolding check_four_bytes
returns-then-n-lt4 g c = grind (arith, checks)

pub returns : goal.returns
unfolding check_four_bytes
returns g c = grind (arith, checks)

use Rattle.std.proofs.Common.{arith}
use Rattle.st_frames.proofs.Doing.{rows}
use Rattle.st_model.specs.Input.{store_time}
use Rattle.st_process.proofs.clocks.store_time.Goals as goal

pub returns-in_err-find_bytes-clause-does : goal.returns-in_err-find_bytes-clause-does
unfolding store_time
returns-in_err-find_bytes-clause-does g c = grind (arith, rows)

pub returns-clause-does : goal.returns-clause-does
unfolding store_time
returns-clause-does g c = grind (arith, rows)

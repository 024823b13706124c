use Rattle.std.proofs.Common.{arith}
use Rattle.st_frames.proofs.Doing.{rows}
use Rattle.st_model.specs.Bytecodes.{step}
use Rattle.st_step.proofs.rows.step_row.Goals as goal

pub returns-in_err-byte-clause-does : goal.returns-in_err-byte-clause-does
unfolding step
returns-in_err-byte-clause-does g c = grind (arith, rows)

pub returns-clause-does : goal.returns-clause-does
unfolding step
returns-clause-does g c = grind (arith, rows)

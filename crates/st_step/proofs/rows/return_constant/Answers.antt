use Rattle.std.proofs.Common.{arith}
use Rattle.st_frames.proofs.Doing.{rows}
use Rattle.st_model.specs.Bytecodes.{return_constant}
use Rattle.st_model.specs.Executing.{executed_if_any}
use Rattle.st_step.proofs.rows.return_constant.Goals as goal

pub returns-clause-does : goal.returns-clause-does
unfolding return_constant executed_if_any
returns-clause-does g c = grind (arith, rows)

use Rattle.std.proofs.Common.{arith}
use Rattle.st_frames.proofs.Doing.{rows}
use Rattle.st_model.specs.Bytecodes.{store_and_pop}
use Rattle.st_control.proofs.stack.store_and_pop.Goals as goal

pub returns-in_err-x-clause-does : goal.returns-in_err-x-clause-does
unfolding store_and_pop
returns-in_err-x-clause-does g c = grind (arith, rows)

pub returns-clause-does : goal.returns-clause-does
unfolding store_and_pop
returns-clause-does g c = grind (arith, rows)

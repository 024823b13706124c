use Rattle.std.proofs.Common.{arith}
use Rattle.st_frames.proofs.Doing.{rows}
use Rattle.st_model.specs.Bytecodes.{or_send}
use Rattle.st_step.proofs.send.block_copy_or_send.Goals as goal

pub returns-in_err-primitive_block_copy-clause-does : goal.returns-in_err-primitive_block_copy-clause-does
unfolding or_send
returns-in_err-primitive_block_copy-clause-does g c = grind (arith, rows)

pub returns-in-Done-clause-does : goal.returns-in-Done-clause-does
unfolding or_send
returns-in-Done-clause-does g c = grind (arith, rows)

pub returns-in-Failed-clause-does : goal.returns-in-Failed-clause-does
unfolding or_send
returns-in-Failed-clause-does g c = grind (arith, rows)

pub returns-in-Leaves-clause-does : goal.returns-in-Leaves-clause-does
unfolding or_send
returns-in-Leaves-clause-does g c = grind (arith, rows)

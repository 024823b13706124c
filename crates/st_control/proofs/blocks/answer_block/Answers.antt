use Rattle.std.proofs.Common.{arith}
use Rattle.st_frames.proofs.Doing.{rows}
use Rattle.st_frames.specs.inside.Answering.{succeed_by, succeed_with}
use Rattle.st_control.proofs.blocks.answer_block.Goals as goal

pub returns-in_err-block-clause-does : goal.returns-in_err-block-clause-does
unfolding succeed_by succeed_with
returns-in_err-block-clause-does g c = grind (arith, rows)

pub returns-clause-does : goal.returns-clause-does
unfolding succeed_by succeed_with
returns-clause-does g c = grind (arith, rows)

use Rattle.std.proofs.Common.{arith}
use Rattle.st_frames.proofs.Doing.{rows}
use Rattle.st_model.specs.Blocks.{new_block}
use Rattle.st_control.proofs.blocks.new_block.Goals as goal

pub returns-in_err-fields-clause-does : goal.returns-in_err-fields-clause-does
unfolding new_block
returns-in_err-fields-clause-does g c = grind (arith, rows)

pub returns-in_err-block-clause-does : goal.returns-in_err-block-clause-does
unfolding new_block
returns-in_err-block-clause-does g c = grind (arith, rows)

pub returns-in_err-fill_block-clause-does : goal.returns-in_err-fill_block-clause-does
unfolding new_block
returns-in_err-fill_block-clause-does g c = grind (arith, rows)

pub returns-clause-does : goal.returns-clause-does
unfolding new_block
returns-clause-does g c = grind (arith, rows)

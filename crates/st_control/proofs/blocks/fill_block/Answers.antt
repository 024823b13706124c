use Rattle.std.proofs.Common.{arith}
use Rattle.st_frames.proofs.Doing.{rows}
use Rattle.st_model.specs.Blocks.{fill_block}
use Rattle.st_control.proofs.blocks.fill_block.Goals as goal

pub returns-in_err-store_field-clause-does : goal.returns-in_err-store_field-clause-does
unfolding fill_block
returns-in_err-store_field-clause-does g c = grind (arith, rows)

pub returns-in_err-store_field-2-clause-does : goal.returns-in_err-store_field-2-clause-does
unfolding fill_block
returns-in_err-store_field-2-clause-does g c = grind (arith, rows)

pub returns-in_err-store_field-3-clause-does : goal.returns-in_err-store_field-3-clause-does
unfolding fill_block
returns-in_err-store_field-3-clause-does g c = grind (arith, rows)

pub returns-in_err-store_field-4-clause-does : goal.returns-in_err-store_field-4-clause-does
unfolding fill_block
returns-in_err-store_field-4-clause-does g c = grind (arith, rows)

pub returns-clause-does : goal.returns-clause-does
unfolding fill_block
returns-clause-does g c = grind (arith, rows)

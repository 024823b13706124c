use Rattle.std.proofs.Common.{arith}
use Rattle.st_control.proofs.Valued.{entering}
use Rattle.st_model.specs.Blocks.{enter_block}
use Rattle.st_control.proofs.values.enter_block.Goals as goal

pub returns-in_err-store_field-clause-does : goal.returns-in_err-store_field-clause-does
unfolding enter_block
returns-in_err-store_field-clause-does g c = grind (arith, entering)

pub returns-in_err-store_field-2-clause-does : goal.returns-in_err-store_field-2-clause-does
unfolding enter_block
returns-in_err-store_field-2-clause-does g c = grind (arith, entering)

pub returns-in_err-store_field-3-clause-does : goal.returns-in_err-store_field-3-clause-does
unfolding enter_block
returns-in_err-store_field-3-clause-does g c = grind (arith, entering)

pub returns-clause-does : goal.returns-clause-does
unfolding enter_block
returns-clause-does g c = grind (arith, entering)

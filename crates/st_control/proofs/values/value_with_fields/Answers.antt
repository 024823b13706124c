use Rattle.std.proofs.Common.{arith}
use Rattle.st_control.proofs.Valued.{integers}
use Rattle.st_model.specs.Blocks.{value_with_fields}
use Rattle.st_control.proofs.values.value_with_fields.Goals as goal

pub returns-in_err-transfer-clause-does : goal.returns-in_err-transfer-clause-does
unfolding value_with_fields
returns-in_err-transfer-clause-does g c = grind (arith, integers)

pub returns-in_err-drop_words-clause-does : goal.returns-in_err-drop_words-clause-does
unfolding value_with_fields
returns-in_err-drop_words-clause-does g c = grind (arith, integers)

pub returns-clause-does : goal.returns-clause-does
unfolding value_with_fields
returns-clause-does g c = grind (arith, integers)

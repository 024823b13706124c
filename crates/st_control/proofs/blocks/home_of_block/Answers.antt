use Rattle.std.proofs.Common.{arith}
use Rattle.std.proofs.lemmas.Int.{ints}
use Rattle.st_control.proofs.Valued.{home-within, home-past}
use Rattle.st_frames.proofs.Doing.{checks}
use Rattle.st_model.specs.Blocks.{home_of_block}
use Rattle.st_control.proofs.blocks.home_of_block.Goals as goal

pub returns-then-r-gt16380-clause-does : goal.returns-then-r-gt16380-clause-does
returns-then-r-gt16380-clause-does g c =
    home-past _ _ _ _ _ _ _ _ _ c.in_ok-check_context.ensures.does c.in_ok-positive_small.ensures.does c.in_ok-home.ensures c.in_ok-fields.ensures.counts (omega arith) (omega (arith, ints))

pub returns-clause-does : goal.returns-clause-does
returns-clause-does g c =
    home-within _ _ _ _ _ _ _ _ _ c.in_ok-check_context.ensures.does c.in_ok-positive_small.ensures.does c.in_ok-home.ensures c.in_ok-fields.ensures.counts (omega arith) (omega (arith, ints))

pub returns-in_err-check_context-clause-does : goal.returns-in_err-check_context-clause-does
unfolding home_of_block
returns-in_err-check_context-clause-does g c = grind (arith, checks)

pub returns-in_err-positive_small-clause-does : goal.returns-in_err-positive_small-clause-does
unfolding home_of_block
returns-in_err-positive_small-clause-does g c = grind (arith, checks)

pub returns-in_err-home-clause-does : goal.returns-in_err-home-clause-does
unfolding home_of_block
returns-in_err-home-clause-does g c = grind (arith, checks)

pub returns-in_err-fields-clause-does : goal.returns-in_err-fields-clause-does
unfolding home_of_block
returns-in_err-fields-clause-does g c = grind (arith, checks)

pub returns-then-fields-lt6-clause-does : goal.returns-then-fields-lt6-clause-does
unfolding home_of_block
returns-then-fields-lt6-clause-does g c = grind (arith, checks)

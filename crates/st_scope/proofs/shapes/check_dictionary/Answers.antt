use Rattle.std.proofs.Common.{arith}
use Rattle.st_model.proofs.Runs.{runs}
use Rattle.st_scope.proofs.Tallies.{tallies}
use Rattle.st_scope.specs.Shapes.{check_dictionary}
use Rattle.st_scope.proofs.shapes.check_dictionary.Goals as goal

pub returns-in_err-dictionary : goal.returns-in_err-dictionary
unfolding check_dictionary
returns-in_err-dictionary g c = grind (arith, runs, tallies)

pub returns-in_err-fields : goal.returns-in_err-fields
unfolding check_dictionary
returns-in_err-fields g c = grind (arith, runs, tallies)

pub returns-then-not-is_power_of_two : goal.returns-then-not-is_power_of_two
unfolding check_dictionary
returns-then-not-is_power_of_two g c = grind (arith, runs, tallies)

pub returns-in_err-tally : goal.returns-in_err-tally
unfolding check_dictionary
returns-in_err-tally g c = grind (arith, runs, tallies)

pub returns-then-not-is_small : goal.returns-then-not-is_small
unfolding check_dictionary
returns-then-not-is_small g c = grind (arith, runs, tallies)

pub returns-in_err-methods : goal.returns-in_err-methods
unfolding check_dictionary
returns-in_err-methods g c = grind (arith, runs, tallies)

pub returns : goal.returns
unfolding check_dictionary
returns g c = grind (arith, runs, tallies)

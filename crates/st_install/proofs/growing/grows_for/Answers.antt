use Rattle.std.proofs.Common.{arith}
use Rattle.st_model.proofs.Runs.{runs}
use Rattle.st_install.specs.Dictionaries.{grows_for, place_of_selector, grows_at}
use Rattle.st_install.proofs.growing.grows_for.Goals as goal

pub returns-in_default : goal.returns-in_default
unfolding grows_for place_of_selector grows_at
returns-in_default g c = grind (arith, runs)

pub returns-in_err-seek : goal.returns-in_err-seek
unfolding grows_for place_of_selector grows_at
returns-in_err-seek g c = grind (arith, runs)

pub returns-in-Some-Holds : goal.returns-in-Some-Holds
unfolding grows_for place_of_selector grows_at
returns-in-Some-Holds g c = grind (arith, runs)

pub returns-in-Some-Vacant : goal.returns-in-Some-Vacant
unfolding grows_for place_of_selector grows_at
returns-in-Some-Vacant g c = grind (arith, runs)

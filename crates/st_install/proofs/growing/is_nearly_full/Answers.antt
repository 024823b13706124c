use Rattle.std.proofs.Common.{arith}
use Rattle.st_model.proofs.Runs.{runs}
use Rattle.st_install.specs.Dictionaries.{is_nearly_full}
use Rattle.st_install.proofs.growing.is_nearly_full.Goals as goal

pub returns-in_err-places : goal.returns-in_err-places
unfolding is_nearly_full
returns-in_err-places g c = grind (arith, runs)

pub returns-in_err-vacant : goal.returns-in_err-vacant
unfolding is_nearly_full
returns-in_err-vacant g c = grind (arith, runs)

pub returns : goal.returns
unfolding is_nearly_full
returns g c = grind (arith, runs)

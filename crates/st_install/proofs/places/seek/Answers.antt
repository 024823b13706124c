use Rattle.std.proofs.Common.{arith}
use Rattle.st_model.proofs.Runs.{runs}
use Rattle.st_install.specs.Dictionaries.{seek}
use Rattle.st_install.proofs.places.seek.Goals as goal

pub returns-in_err-places-clause-ends : goal.returns-in_err-places-clause-ends
unfolding seek
returns-in_err-places-clause-ends g c = grind (arith, runs)

pub returns-clause-ends : goal.returns-clause-ends
unfolding seek
returns-clause-ends g c = grind (arith, runs)

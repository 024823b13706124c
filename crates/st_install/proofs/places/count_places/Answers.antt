use Rattle.std.proofs.Common.{arith}
use Rattle.st_model.proofs.Runs.{runs}
use Rattle.st_install.specs.Dictionaries.{count_places}
use Rattle.st_install.proofs.places.count_places.Goals as goal

pub returns-in_err-fields-clause-counts : goal.returns-in_err-fields-clause-counts
unfolding count_places
returns-in_err-fields-clause-counts g c = grind (arith, runs)

pub returns-clause-counts : goal.returns-clause-counts
unfolding count_places
returns-clause-counts g c = grind (arith, runs)

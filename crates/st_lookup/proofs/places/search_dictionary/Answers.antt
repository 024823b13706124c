use Rattle.std.proofs.Common.{arith}
use Rattle.st_model.proofs.Runs.{runs}
use Rattle.st_model.specs.Lookup.{search_dictionary}
use Rattle.st_lookup.proofs.places.search_dictionary.Goals as goal

pub returns : goal.returns
unfolding search_dictionary
returns g c = grind (arith, runs)

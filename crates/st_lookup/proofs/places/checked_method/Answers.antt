use Rattle.std.proofs.Common.{arith}
use Rattle.st_model.proofs.Runs.{runs}
use Rattle.st_model.specs.Lookup.{checked_method}
use Rattle.st_lookup.proofs.places.checked_method.Goals as goal

pub returns-in_err-header : goal.returns-in_err-header
unfolding checked_method
returns-in_err-header g c = grind (arith, runs)

pub returns : goal.returns
unfolding checked_method
returns g c = grind (arith, runs)

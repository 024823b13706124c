use Rattle.std.proofs.Common.{arith}
use Rattle.st_model.proofs.Runs.{runs}
use Rattle.st_model.specs.Lookup.{method_at}
use Rattle.st_lookup.proofs.places.method_at.Goals as goal

pub returns-in_err-methods : goal.returns-in_err-methods
unfolding method_at
returns-in_err-methods g c = grind (arith, runs)

pub returns-in_err-method : goal.returns-in_err-method
unfolding method_at
returns-in_err-method g c = grind (arith, runs)

pub returns : goal.returns
unfolding method_at
returns g c = grind (arith, runs)

use Rattle.std.proofs.Common.{arith}
use Rattle.st_model.proofs.Runs.{runs, tests}
use Rattle.st_model.specs.Lookup.{method_in_class}
use Rattle.st_lookup.proofs.class.method_in_class.Goals as goal

pub returns-in_err-dictionary : goal.returns-in_err-dictionary
unfolding method_in_class
returns-in_err-dictionary g c = grind (arith, runs, tests)

pub returns-in_err-fields : goal.returns-in_err-fields
unfolding method_in_class
returns-in_err-fields g c = grind (arith, runs, tests)

pub returns-then-fields-le2 : goal.returns-then-fields-le2
unfolding method_in_class
returns-then-fields-le2 g c = grind (arith, runs, tests)

pub returns : goal.returns
unfolding method_in_class
returns g c = grind (arith, runs, tests)

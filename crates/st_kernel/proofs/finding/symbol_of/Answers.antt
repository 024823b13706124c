use Rattle.std.proofs.Common.{arith}
use Rattle.st_model.proofs.Runs.{runs}
use Rattle.st_kernel.specs.Starting.{symbol_of}
use Rattle.st_kernel.proofs.finding.symbol_of.Goals as goal

pub returns-in_err-association : goal.returns-in_err-association
unfolding symbol_of
returns-in_err-association g c = grind (arith, runs)

pub returns-in_err-symbols : goal.returns-in_err-symbols
unfolding symbol_of
returns-in_err-symbols g c = grind (arith, runs)

pub returns-in_err-symbol_named : goal.returns-in_err-symbol_named
unfolding symbol_of
returns-in_err-symbol_named g c = grind (arith, runs)

pub returns : goal.returns
unfolding symbol_of
returns g c = grind (arith, runs)

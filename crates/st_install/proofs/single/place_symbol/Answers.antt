use Rattle.std.proofs.Common.{arith}
use Rattle.st_model.proofs.Runs.{runs}
use Rattle.st_install.specs.Literals.{place_symbol}
use Rattle.st_install.proofs.single.place_symbol.Goals as goal

pub returns-in-Some : goal.returns-in-Some
unfolding place_symbol
returns-in-Some c = grind (arith, runs)

pub returns-in-None : goal.returns-in-None
unfolding place_symbol
returns-in-None c = grind (arith, runs)

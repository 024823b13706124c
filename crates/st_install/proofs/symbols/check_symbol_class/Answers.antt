use Rattle.std.proofs.Common.{arith}
use Rattle.st_model.proofs.Runs.{runs}
use Rattle.st_install.proofs.SymbolsAt.{classes}
use Rattle.st_model.specs.Primitives.{check_class}
use Rattle.st_install.proofs.symbols.check_symbol_class.Goals as goal

pub returns-then-eq : goal.returns-then-eq
unfolding check_class
returns-then-eq g c = grind (arith, runs, classes)

pub returns-else-eq : goal.returns-else-eq
unfolding check_class
returns-else-eq g c = grind (arith, runs, classes)

use Rattle.std.proofs.Common.{arith}
use Rattle.st_scope.proofs.Tallies.{symbol_tables}
use Rattle.st_scope.proofs.shapes.check_symbols.Goals as goal

pub returns-then-symbols-eq0 : goal.returns-then-symbols-eq0
returns-then-symbols-eq0 g c = grind (arith, symbol_tables)

pub returns : goal.returns
returns g c = grind (arith, symbol_tables)

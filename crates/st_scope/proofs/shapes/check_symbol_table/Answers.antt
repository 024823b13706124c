use Rattle.std.proofs.Common.{arith}
use Rattle.st_model.proofs.Runs.{runs}
use Rattle.st_scope.specs.Shapes.{check_symbol_table}
use Rattle.st_scope.proofs.shapes.check_symbol_table.Goals as goal

pub returns-in_err-check_fields : goal.returns-in_err-check_fields
unfolding check_symbol_table
returns-in_err-check_fields g c = grind (arith, runs)

pub returns-in_err-symbols : goal.returns-in_err-symbols
unfolding check_symbol_table
returns-in_err-symbols g c = grind (arith, runs)

pub returns : goal.returns
unfolding check_symbol_table
returns g c = grind (arith, runs)

use Rattle.std.proofs.Common.{arith}
use Rattle.st_kernel.proofs.Tables.{tables}
use Rattle.st_kernel.proofs.finding.table_named.Goals as goal

pub returns-then-pointer-eq0 : goal.returns-then-pointer-eq0
returns-then-pointer-eq0 c = grind (arith, tables)

pub returns-else-pointer-eq0 : goal.returns-else-pointer-eq0
returns-else-pointer-eq0 c = grind (arith, tables)

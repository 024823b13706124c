use Rattle.std.proofs.Common.{arith}
use Rattle.st_memory.proofs.Fresh.{counts}
use Rattle.st_memory.proofs.made.Made.count_fields.Goals as goal

pub returns-then-is_pointers-clause-counts : goal.returns-then-is_pointers-clause-counts
returns-then-is_pointers-clause-counts c = grind (arith, counts)

pub returns-else-is_pointers-clause-counts : goal.returns-else-is_pointers-clause-counts
returns-else-is_pointers-clause-counts c = grind (arith, counts)

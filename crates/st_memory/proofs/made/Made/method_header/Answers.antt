use Rattle.std.proofs.Common.{arith}
use Rattle.st_memory.proofs.Fresh.{headers}
use Rattle.st_memory.proofs.made.Made.method_header.Goals as goal

pub returns-then-is_method : goal.returns-then-is_method
returns-then-is_method c = grind (arith, headers)

pub returns-else-is_method : goal.returns-else-is_method
returns-else-is_method c = grind (arith, headers)

use Rattle.std.proofs.Common.{arith}
use Rattle.st_memory.proofs.Fresh.{method_fields}
use Rattle.st_memory.proofs.made.Made.fetch_method_field.Goals as goal

pub returns-then-not-is_method : goal.returns-then-not-is_method
returns-then-not-is_method c = grind (arith, method_fields)

pub returns-then-i-eq0 : goal.returns-then-i-eq0
returns-then-i-eq0 c = grind (arith, method_fields)

pub returns-then-i-self : goal.returns-then-i-self
returns-then-i-self c = grind (arith, method_fields)

pub returns-else-i-self : goal.returns-else-i-self
returns-else-i-self c = grind (arith, method_fields)

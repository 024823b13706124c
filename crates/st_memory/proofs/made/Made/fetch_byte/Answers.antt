use Rattle.std.proofs.Common.{arith}
use Rattle.st_memory.proofs.Fresh.{bytes}
use Rattle.st_memory.proofs.made.Made.fetch_byte.Goals as goal

pub returns-in-Pointers : goal.returns-in-Pointers
returns-in-Pointers c = grind (arith, bytes)

pub returns-then-i-first : goal.returns-then-i-first
returns-then-i-first c = grind (arith, bytes)

pub returns-then-i-self : goal.returns-then-i-self
returns-then-i-self c = grind (arith, bytes)

pub returns-else-i-self : goal.returns-else-i-self
returns-else-i-self c = grind (arith, bytes)

use Rattle.std.proofs.Common.{arith}
use Rattle.st_memory.proofs.Bodies.{bodies}
use Rattle.st_input.proofs.Done.{bytes}
use Rattle.st_input.proofs.units.put_byte.Goals as goal

pub returns-then-not-has_bytes : goal.returns-then-not-has_bytes
returns-then-not-has_bytes g c = grind (arith, bodies, bytes)

pub returns-then-place-count_fields : goal.returns-then-place-count_fields
returns-then-place-count_fields g c = grind (arith, bodies, bytes)

pub returns-then-place-size : goal.returns-then-place-size
returns-then-place-size g c = grind (arith, bodies, bytes)

pub returns-else-place-size : goal.returns-else-place-size
returns-else-place-size g c = grind (arith, bodies, bytes)

use Rattle.std.proofs.Common.{arith}
use Rattle.st_memory.proofs.Bodies.{bodies}
use Rattle.st_memory.proofs.body.count_fields.Goals as goal

pub returns-in-Pointers : goal.returns-in-Pointers
returns-in-Pointers g c = grind (arith, bodies)

pub returns-in-Words : goal.returns-in-Words
returns-in-Words g c = grind (arith, bodies)

pub returns-in-Method : goal.returns-in-Method
returns-in-Method g c = grind (arith, bodies)

use Rattle.std.proofs.Common.{arith}
use Rattle.st_memory.proofs.Bodies.{bodies, most_units}
use Rattle.st_browse.proofs.codes.body_of.Goals as goal

pub returns-then-not-live-clause-none : goal.returns-then-not-live-clause-none
returns-then-not-live-clause-none g c = grind (arith, bodies, most_units)

pub returns-in-Pointers-clause-none : goal.returns-in-Pointers-clause-none
returns-in-Pointers-clause-none g c = grind (arith, bodies, most_units)

pub returns-in-Method-clause-method : goal.returns-in-Method-clause-method
returns-in-Method-clause-method g c = grind (arith, bodies, most_units)

pub returns-in-Method-clause-body : goal.returns-in-Method-clause-body
returns-in-Method-clause-body g c = grind (arith, bodies, most_units)

use Rattle.std.proofs.Common.{arith}
use Rattle.st_control.proofs.Tries.{answers}
use Rattle.st_control.proofs.wide.large_of.Goals as goal

pub returns-in-Some : goal.returns-in-Some
returns-in-Some g c = grind (arith, answers)

pub returns-in-None : goal.returns-in-None
returns-in-None g c = grind (arith, answers)

use Rattle.std.proofs.Common.{arith}
use Rattle.st_control.proofs.Tries.{answers}
use Rattle.st_control.proofs.arithmetic.binary_answer.Goals as goal

pub returns-in-Some-clause-does : goal.returns-in-Some-clause-does
returns-in-Some-clause-does g c = grind (arith, answers)

pub returns-in-None-clause-does : goal.returns-in-None-clause-does
returns-in-None-clause-does g c = grind (arith, answers)

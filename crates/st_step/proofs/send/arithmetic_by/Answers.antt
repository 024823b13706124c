use Rattle.std.proofs.Common.{arith}
use Rattle.st_step.proofs.Tries.{sends}
use Rattle.st_step.proofs.send.arithmetic_by.Goals as goal

pub returns-then-is_small-clause-does : goal.returns-then-is_small-clause-does
returns-then-is_small-clause-does g c = grind (arith, sends)

pub returns-else-is_small-clause-does : goal.returns-else-is_small-clause-does
returns-else-is_small-clause-does g c = grind (arith, sends)

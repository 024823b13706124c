use Rattle.std.proofs.Common.{arith}
use Rattle.st_memory.proofs.Fresh.{literals, lasts}
use Rattle.st_memory.proofs.made.Made.literal.Goals as goal

pub returns-then-not-is_method-clause-from_first : goal.returns-then-not-is_method-clause-from_first
returns-then-not-is_method-clause-from_first c = grind (arith, literals, lasts)

pub returns-then-not-is_method-clause-from_last : goal.returns-then-not-is_method-clause-from_last
returns-then-not-is_method-clause-from_last c = grind (arith, literals, lasts)

pub returns-then-i-self-clause-from_first : goal.returns-then-i-self-clause-from_first
returns-then-i-self-clause-from_first c = grind (arith, literals, lasts)

pub returns-then-i-self-clause-from_last : goal.returns-then-i-self-clause-from_last
returns-then-i-self-clause-from_last c = grind (arith, literals, lasts)

pub returns-else-i-self-clause-from_first : goal.returns-else-i-self-clause-from_first
returns-else-i-self-clause-from_first c = grind (arith, literals, lasts)

pub returns-else-i-self-clause-from_last : goal.returns-else-i-self-clause-from_last
returns-else-i-self-clause-from_last c = grind (arith, literals, lasts)

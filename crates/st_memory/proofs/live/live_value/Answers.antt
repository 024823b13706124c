use Rattle.std.proofs.Common.{arith}
use Rattle.st_memory.proofs.Wide.{there}
use Rattle.st_memory.proofs.live.live_value.Goals as goal

pub returns-then-x-gt65535-clause-gone : goal.returns-then-x-gt65535-clause-gone
returns-then-x-gt65535-clause-gone g c = grind (arith, there)

pub returns-then-is_small-clause-there : goal.returns-then-is_small-clause-there
returns-then-is_small-clause-there g c = grind (arith, there)

pub returns-then-live-clause-there : goal.returns-then-live-clause-there
returns-then-live-clause-there g c = grind (arith, there)

pub returns-else-live-clause-gone : goal.returns-else-live-clause-gone
returns-else-live-clause-gone g c = grind (arith, there)

use Rattle.std.proofs.Common.{arith}
use Rattle.st_memory.proofs.Wide.{lacks}
use Rattle.st_memory.proofs.live.live_fields.Goals as goal

pub returns-in_err-object-clause-lacks : goal.returns-in_err-object-clause-lacks
returns-in_err-object-clause-lacks g c = grind (arith, lacks)

pub returns-then-not-is_pointers-clause-lacks : goal.returns-then-not-is_pointers-clause-lacks
returns-then-not-is_pointers-clause-lacks g c = grind (arith, lacks)

pub returns-then-size-from-clause-lacks : goal.returns-then-size-from-clause-lacks
returns-then-size-from-clause-lacks g c = grind (arith, lacks)

pub returns-then-size-from-2-clause-lacks : goal.returns-then-size-from-2-clause-lacks
returns-then-size-from-2-clause-lacks g c = grind (arith, lacks)

pub returns-else-size-from-2-clause-has : goal.returns-else-size-from-2-clause-has
returns-else-size-from-2-clause-has g c = grind (arith, lacks)

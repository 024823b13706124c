use Rattle.std.proofs.Common.{arith}
use Rattle.st_model.proofs.Runs.{runs}
use Rattle.st_memory.proofs.Wide.{far, lacks, small_not_live}
use Rattle.st_memory.proofs.live.live_object.Goals as goal

pub returns-then-is_small-clause-object : goal.returns-then-is_small-clause-object
returns-then-is_small-clause-object g c = grind (arith, runs, far, lacks, small_not_live)

pub returns-then-is_small-clause-gone : goal.returns-then-is_small-clause-gone
returns-then-is_small-clause-gone g c = grind (arith, runs, far, lacks, small_not_live)

pub returns-then-is_small-clause-lacks : goal.returns-then-is_small-clause-lacks
returns-then-is_small-clause-lacks g c = grind (arith, runs, far, lacks, small_not_live)

pub returns-then-o-gt65535-clause-object : goal.returns-then-o-gt65535-clause-object
returns-then-o-gt65535-clause-object g c = grind (arith, runs, far, lacks, small_not_live)

pub returns-then-o-gt65535-clause-gone : goal.returns-then-o-gt65535-clause-gone
returns-then-o-gt65535-clause-gone g c = grind (arith, runs, far, lacks, small_not_live)

pub returns-then-o-gt65535-clause-lacks : goal.returns-then-o-gt65535-clause-lacks
returns-then-o-gt65535-clause-lacks g c = grind (arith, runs, far, lacks, small_not_live)

pub returns-then-live-clause-object : goal.returns-then-live-clause-object
returns-then-live-clause-object g c = grind (arith, runs, far, lacks, small_not_live)

pub returns-else-live-clause-object : goal.returns-else-live-clause-object
returns-else-live-clause-object g c = grind (arith, runs, far, lacks, small_not_live)

pub returns-else-live-clause-gone : goal.returns-else-live-clause-gone
returns-else-live-clause-gone g c = grind (arith, runs, far, lacks, small_not_live)

pub returns-else-live-clause-lacks : goal.returns-else-live-clause-lacks
returns-else-live-clause-lacks g c = grind (arith, runs, far, lacks, small_not_live)

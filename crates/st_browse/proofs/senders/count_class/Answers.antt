use Rattle.st_browse.specs.inside.Entries.{named_of}
use Rattle.st_browse.proofs.Sides.{class_tested, sides}
use Rattle.std.proofs.Common.{arith}
use Rattle.st_browse.proofs.Summing.{one_class}
use Rattle.st_browse.proofs.senders.count_class.Goals as goal

pub count_side-requires : goal.count_side-requires
count_side-requires g c =
    class_tested (g.M.Memory.view c.args.m.now).objects (named_of (g.M.Memory.view c.args.m.now).objects c.args.n) c.is_class.result c.is_class.ensures c.if-is_class.true

pub count_side-requires-then-is_class : goal.count_side-requires-then-is_class
count_side-requires-then-is_class g c =
    class_tested (g.M.Memory.view c.args.m.now).objects (named_of (g.M.Memory.view c.args.m.now).objects c.args.n) c.is_class.result c.is_class.ensures c.if-is_class.true

pub returns-then-is_class-clause-count : goal.returns-then-is_class-clause-count
returns-then-is_class-clause-count g c = grind (arith, one_class, sides)

pub returns-then-is_class-clause-few : goal.returns-then-is_class-clause-few
returns-then-is_class-clause-few g c = grind (arith, one_class, sides)

pub returns-else-is_class-clause-count : goal.returns-else-is_class-clause-count
returns-else-is_class-clause-count g c = grind (arith, one_class, sides)

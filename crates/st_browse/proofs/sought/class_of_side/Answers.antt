use Rattle.st_browse.specs.inside.Entries.{named_of}
use Rattle.st_browse.proofs.Sides.{class_tested, sides}
use Rattle.std.proofs.Common.{arith}
use Rattle.st_browse.specs.Classes.{class_named}
use Rattle.st_browse.proofs.sought.class_of_side.Goals as goal

pub on_side-requires : goal.on_side-requires
on_side-requires g c =
    class_tested (g.M.Memory.view c.args.m.now).objects (named_of (g.M.Memory.view c.args.m.now).objects c.in_ok-n.n) c.is_class.result c.is_class.ensures c.if-is_class.true

pub returns-in_err-n : goal.returns-in_err-n
unfolding class_named
returns-in_err-n g c = grind (arith, sides)

pub returns-then-is_class : goal.returns-then-is_class
unfolding class_named
returns-then-is_class g c = grind (arith, sides)

pub returns-else-is_class : goal.returns-else-is_class
unfolding class_named
returns-else-is_class g c = grind (arith, sides)

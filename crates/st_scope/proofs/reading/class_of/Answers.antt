use Rattle.st_scope.proofs.ClassesOf.{small_class_known, classes}
use Rattle.std.proofs.Common.{arith}
use Rattle.st_model.proofs.Runs.{runs}
use Rattle.st_scope.proofs.reading.class_of.Goals as goal

pub returns-then-is_small-clause-known : goal.returns-then-is_small-clause-known
returns-then-is_small-clause-known g c = λ e. small_class_known (g.M.Memory.view c.args.m.now) (g.met.M.Memory.whole c.args.m.now)

pub returns-then-is_small-clause-class : goal.returns-then-is_small-clause-class
returns-then-is_small-clause-class g c = grind (arith, runs, classes)

pub returns-in_err-check_live-clause-class : goal.returns-in_err-check_live-clause-class
returns-in_err-check_live-clause-class g c = grind (arith, runs, classes)

pub returns-clause-class : goal.returns-clause-class
returns-clause-class g c = grind (arith, runs, classes)

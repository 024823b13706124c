use Rattle.std.proofs.Common.{arith}
use Rattle.st_model.proofs.Runs.{runs}
use Rattle.st_memory.proofs.Wide.{bounded, classes}
use Rattle.st_memory.proofs.live.AnyObjects.fetch_class.Goals as goal

pub returns-then-is_small : goal.returns-then-is_small
returns-then-is_small g c = grind (arith, runs, bounded, classes)

pub returns-in_err-object : goal.returns-in_err-object
returns-in_err-object g c = grind (arith, runs, bounded, classes)

pub returns : goal.returns
returns g c = grind (arith, runs, bounded, classes)

use Rattle.std.proofs.Common.{arith}
use Rattle.st_model.proofs.Runs.{runs}
use Rattle.st_process.specs.inside.Scheduling.{is_empty}
use Rattle.st_process.proofs.lists.is_empty.Goals as goal

pub returns-in_err-first : goal.returns-in_err-first
unfolding is_empty
returns-in_err-first g c = grind (arith, runs)

pub returns : goal.returns
unfolding is_empty
returns g c = grind (arith, runs)

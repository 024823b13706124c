use Rattle.std.proofs.Common.{arith}
use Rattle.st_model.proofs.Runs.{runs}
use Rattle.st_frames.proofs.Homes.{homes}
use Rattle.st_frames.proofs.context.home_by.Goals as goal

pub returns-then-is_small : goal.returns-then-is_small
returns-then-is_small g c = grind (arith, runs, homes)

pub returns-else-is_small : goal.returns-else-is_small
returns-else-is_small g c = grind (arith, runs, homes)

use Rattle.std.proofs.Common.{arith}
use Rattle.st_frames.proofs.Doing.{checks}
use Rattle.st_model.specs.Steps.{top}
use Rattle.st_frames.proofs.stack.top.Goals as goal

pub returns-then-r-lt6-clause-does : goal.returns-then-r-lt6-clause-does
unfolding top
returns-then-r-lt6-clause-does g c = grind (arith, checks)

pub returns-clause-does : goal.returns-clause-does
unfolding top
returns-clause-does g c = grind (arith, checks)

use Rattle.std.proofs.Common.{arith}
use Rattle.st_frames.proofs.Doing.{checks}
use Rattle.st_model.specs.Steps.{under}
use Rattle.st_frames.proofs.stack.under.Goals as goal

pub returns-then-r-k-clause-does : goal.returns-then-r-k-clause-does
unfolding under
returns-then-r-k-clause-does g c = grind (arith, checks)

pub returns-clause-does : goal.returns-clause-does
unfolding under
returns-clause-does g c = grind (arith, checks)

use Rattle.std.proofs.Common.{arith}
use Rattle.st_frames.proofs.SameWords.{integers}
use Rattle.st_frames.proofs.fetching.integer_or_die.Goals as goal

pub returns-then-is_small-clause-does : goal.returns-then-is_small-clause-does
returns-then-is_small-clause-does c = grind (arith, integers)

pub returns-else-is_small-clause-does : goal.returns-else-is_small-clause-does
returns-else-is_small-clause-does c = grind (arith, integers)

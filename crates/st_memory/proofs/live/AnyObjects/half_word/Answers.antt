use Rattle.std.proofs.Common.{arith}
use Rattle.st_memory.proofs.Wide.{halves, far}
use Rattle.st_memory.proofs.live.AnyObjects.half_word.Goals as goal

pub returns-then-is_small-clause-half : goal.returns-then-is_small-clause-half
returns-then-is_small-clause-half g c = grind (arith, halves, far)

pub returns-in-Ok-clause-half : goal.returns-in-Ok-clause-half
returns-in-Ok-clause-half g c = grind (arith, halves, far)

pub returns-in-Err-clause-half : goal.returns-in-Err-clause-half
returns-in-Err-clause-half g c = grind (arith, halves, far)

use Rattle.std.proofs.Common.{arith}
use Rattle.st_memory.proofs.Fresh.{codes}
use Rattle.st_memory.proofs.made.Made.byte_at.Goals as goal

pub returns-then-not-is_method : goal.returns-then-not-is_method
returns-then-not-is_method c = grind (arith, codes)

pub returns-then-ip-lt0 : goal.returns-then-ip-lt0
returns-then-ip-lt0 c = grind (arith, codes)

pub returns-then-place-self : goal.returns-then-place-self
returns-then-place-self c = grind (arith, codes)

pub returns-then-place-gt16381 : goal.returns-then-place-gt16381
returns-then-place-gt16381 c = grind (arith, codes)

pub returns-then-place-self-2 : goal.returns-then-place-self-2
returns-then-place-self-2 c = grind (arith, codes)

pub returns-else-place-self-2 : goal.returns-else-place-self-2
returns-else-place-self-2 c = grind (arith, codes)

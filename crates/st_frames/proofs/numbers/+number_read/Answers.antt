use Rattle.std.proofs.Common.{arith}
use Rattle.st_frames.proofs.Valued.{next_byte}
use Rattle.st_frames.proofs.numbers.+number_read.Goals as goal

pub overflow_mul-result : goal.overflow_mul-result
overflow_mul-result g t c = let h = next_byte 0 c.in_ok-high.high c.args.n (omega arith) (omega arith) (omega arith) c.in_ok-high.ensures.small in omega (arith, h.1)

pub overflow_add-result : goal.overflow_add-result
overflow_add-result g t c = let h = next_byte c.in_ok-low.low c.in_ok-high.high c.args.n (omega arith) (omega arith) (omega arith) c.in_ok-high.ensures.small in omega (arith, h.1)

pub returns-clause-small : goal.returns-clause-small
returns-clause-small g t c = let h = next_byte c.in_ok-low.low c.in_ok-high.high c.args.n (omega arith) (omega arith) (omega arith) c.in_ok-high.ensures.small in omega (arith, h.0)

pub returns-clause-below : goal.returns-clause-below
returns-clause-below g t c = let h = next_byte c.in_ok-low.low c.in_ok-high.high c.args.n (omega arith) (omega arith) (omega arith) c.in_ok-high.ensures.small in omega (arith, h.1)

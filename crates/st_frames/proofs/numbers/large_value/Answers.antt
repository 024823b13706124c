use Rattle.std.proofs.Common.{arith}
use Rattle.st_frames.proofs.Valued.{fewer_bytes, sizes}
use Rattle.st_frames.proofs.Doing.{checks}
use Rattle.st_model.specs.Primitives.{large_value}
use Rattle.st_frames.specs.inside.Answering.{number_read}
use Rattle.st_frames.proofs.numbers.large_value.Goals as goal

pub returns-clause-small : goal.returns-clause-small
returns-clause-small g c = let l = c.if-most-n.false in fewer_bytes c.in_ok-k.k c.in_ok-n.n c.args.most (omega (arith, l)) c.in_ok-k.ensures.small

pub returns-in_err-check_class-clause-does : goal.returns-in_err-check_class-clause-does
unfolding large_value number_read
returns-in_err-check_class-clause-does g c = grind (arith, checks, sizes)

pub returns-in_err-check_bytes-clause-does : goal.returns-in_err-check_bytes-clause-does
unfolding large_value number_read
returns-in_err-check_bytes-clause-does g c = grind (arith, checks, sizes)

pub returns-in_err-n-clause-does : goal.returns-in_err-n-clause-does
unfolding large_value number_read
returns-in_err-n-clause-does g c = grind (arith, checks, sizes)

pub returns-then-n-lt1-clause-does : goal.returns-then-n-lt1-clause-does
unfolding large_value number_read
returns-then-n-lt1-clause-does g c = grind (arith, checks, sizes)

pub returns-then-most-n-clause-does : goal.returns-then-most-n-clause-does
unfolding large_value number_read
returns-then-most-n-clause-does g c = grind (arith, checks, sizes)

pub returns-in_err-k-clause-does : goal.returns-in_err-k-clause-does
unfolding large_value number_read
returns-in_err-k-clause-does g c = grind (arith, checks, sizes)

pub returns-clause-does : goal.returns-clause-does
unfolding large_value number_read
returns-clause-does g c = grind (arith, checks, sizes)

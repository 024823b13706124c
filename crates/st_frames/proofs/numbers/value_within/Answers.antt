use Rattle.std.proofs.Common.{arith}
use Rattle.st_frames.proofs.Valued.{small_within}
use Rattle.st_frames.proofs.numbers.value_within.Goals as goal

pub returns-in_ok-n-clause-small : goal.returns-in_ok-n-clause-small
returns-in_ok-n-clause-small g c = let e = c.from.ensures in let l = c.in_ok-n.ensures.small in small_within c.from.result c.args.most c.requires.some (omega (arith, e, l))

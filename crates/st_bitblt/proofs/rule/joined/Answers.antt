use Rattle.st_bitblt.proofs.Bits.{pair_left, pair_right}
use Rattle.st_bitblt.proofs.rule.joined.Goals as goal

pub returns-clause-left : goal.returns-clause-left
returns-clause-left c = λ i h. pair_left _ _ _ i c.ranges.right.fits h

pub returns-clause-right : goal.returns-clause-right
returns-clause-right c = λ i h k. pair_right _ _ _ i h c.requires.skip k

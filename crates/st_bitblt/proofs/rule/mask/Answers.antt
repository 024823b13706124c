use Rattle.st_bitblt.proofs.Bits.{mask_inside, mask_below, mask_above, masks_order}
use Rattle.st_bitblt.proofs.rule.mask.Goals as goal

pub overflow_sub-result-2 : goal.overflow_sub-result-2
overflow_sub-result-2 c = masks_order c.args.first c.args.n c.requires

pub returns-clause-inside : goal.returns-clause-inside
returns-clause-inside c = λ i a b. mask_inside c.args.first c.args.n i c.requires a b

pub returns-clause-below : goal.returns-clause-below
returns-clause-below c = λ i a. mask_below c.args.first c.args.n i c.requires a

pub returns-clause-above : goal.returns-clause-above
returns-clause-above c = λ i a b. mask_above c.args.first c.args.n i a b

use Rattle.std.proofs.Common.{◌-◌, arith}
use Rattle.st_bitblt.proofs.Bits.{chosen, kept}
use Rattle.st_bitblt.proofs.rule.masked.Goals as goal

pub returns-clause-inside : goal.returns-clause-inside
returns-clause-inside c = λ i a b. chosen c.args.new c.args.old c.mask-mask.result (15 - i) c.mask-mask.type_inv (omega arith) (c.mask-mask.ensures.inside i a b)

pub returns-clause-below : goal.returns-clause-below
returns-clause-below c = λ i a. kept c.args.new c.args.old c.mask-mask.result (15 - i) c.mask-mask.type_inv (omega arith) (c.mask-mask.ensures.below i a)

pub returns-clause-above : goal.returns-clause-above
returns-clause-above c = λ i a b. kept c.args.new c.args.old c.mask-mask.result (15 - i) c.mask-mask.type_inv (omega arith) (c.mask-mask.ensures.above i a b)

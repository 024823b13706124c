use Rattle.st_ints.proofs.Products.{product_fits, difference_fits, remainder_is}
use Rattle.st_ints.proofs.division.remainder.Goals as goal

pub overflow_mul-result : goal.overflow_mul-result
overflow_mul-result c = product_fits c.args.b c.args.times c.ranges.b c.ranges.times c.requires.divisor c.requires.times

pub overflow_sub-result : goal.overflow_sub-result
overflow_sub-result c = difference_fits c.args.a c.args.b c.args.times c.ranges.a c.ranges.b c.ranges.times c.requires.dividend c.requires.divisor c.requires.times

pub returns : goal.returns
returns c = remainder_is c.args.a c.args.b c.args.times c.ranges.a c.ranges.b c.ranges.times c.requires.dividend c.requires.divisor c.requires.times

use Rattle.std.proofs.Common.{◌≡◌, ◌+◌, ◌-◌, ◌*◌, ◌<◌, ◌≤◌, length, drop, sym, ap, ◌∙◌, arith, rules}
use Rattle.st_parts.specs.Numbers.{number_of}
use Rattle.st_parts.proofs.Sizes.{size_begin, size_turn, size_end, size_full}
use Rattle.st_parts.proofs.numbers.number_within.Goals as goal

pub loop-left-init : goal.loop-left-init
loop-left-init c = (size_begin c.args.bytes.now (length c.args.bytes.now) (search rules), omega arith)

pub returns-then-size-ge-FULL : goal.returns-then-size-ge-FULL
returns-then-size-ge-FULL c = size_full c.args.bytes.now c.loop-left.left c.loop-left.size c.loop-left-test.true c.loop-left.invariant.1 c.loop-left.invariant.0 c.if-size-ge-FULL.true

pub returns : goal.returns
returns c = let s = c.loop-left.auto.size-fits in size_end c.args.bytes.now c.loop-left.left c.loop-left.size c.loop-left-test.false c.loop-left.invariant.0 (omega (arith, s))

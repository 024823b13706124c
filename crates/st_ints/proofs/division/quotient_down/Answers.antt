use Rattle.std.proofs.Common.{◌∙◌}
use Rattle.std.specs.Int.{w16}
use Rattle.st_model.specs.Integers.{quotient_down}
use Rattle.st_ints.proofs.Quotients.{Widened, small, zero_bits_16, other_bits, nonzero, by_zero, down_done}
use Rattle.st_ints.proofs.division.quotient_down.Goals as goal

pub returns-then-b-eq0-clause-answer : goal.returns-then-b-eq0-clause-answer
unfolding quotient_down
returns-then-b-eq0-clause-answer c = by_zero c.args.b _ (zero_bits_16 c.args.b c.ranges.b c.if-b-eq0.true)

pub floor_quotient-requires-clause-dividend : goal.floor_quotient-requires-clause-dividend
floor_quotient-requires-clause-dividend c = small c.args.a c.from.result (record { fits = c.ranges.a; same = c.from.ensures }) c.requires.dividend

pub floor_quotient-requires-clause-divisor : goal.floor_quotient-requires-clause-divisor
floor_quotient-requires-clause-divisor c = small c.args.b c.from-2.result (record { fits = c.ranges.b; same = c.from-2.ensures }) c.requires.divisor

pub floor_quotient-requires-clause-nonzero : goal.floor_quotient-requires-clause-nonzero
floor_quotient-requires-clause-nonzero c = nonzero c.args.b c.from-2.result (record { fits = c.ranges.b; same = c.from-2.ensures }) (other_bits w16 c.args.b c.if-b-eq0.false)

pub returns-clause-answer : goal.returns-clause-answer
returns-clause-answer c =
    let v : Widened c.args.a c.from.result = record { fits = c.ranges.a; same = c.from.ensures } in
    let w : Widened c.args.b c.from-2.result = record { fits = c.ranges.b; same = c.from-2.ensures } in
    c.within_range.ensures.answer
    ∙ down_done c.args.a c.args.b c.from.result c.from-2.result c.floor_quotient.result v w (other_bits w16 c.args.b c.if-b-eq0.false) (record { sfits = c.floor_quotient.type_inv }) c.floor_quotient.ensures.quotient

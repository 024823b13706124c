use Rattle.std.proofs.Common.{◌∙◌}
use Rattle.st_model.specs.Integers.{modulo}
use Rattle.st_ints.proofs.Quotients.{Widened, small, small_times, is_zero_of, is_other_of, nonzero, by_zero, modulo_done}
use Rattle.st_ints.proofs.division.modulo.Goals as goal

pub returns-then-y-eq0-clause-answer : goal.returns-then-y-eq0-clause-answer
unfolding modulo
returns-then-y-eq0-clause-answer c = by_zero c.args.b _ (is_zero_of c.args.b c.from-y.result (record { fits = c.ranges.b; same = c.from-y.ensures }) c.if-y-eq0.true)

pub floor_quotient-requires-clause-dividend : goal.floor_quotient-requires-clause-dividend
floor_quotient-requires-clause-dividend c = small c.args.a c.from-x.result (record { fits = c.ranges.a; same = c.from-x.ensures }) c.requires.dividend

pub floor_quotient-requires-clause-divisor : goal.floor_quotient-requires-clause-divisor
floor_quotient-requires-clause-divisor c = small c.args.b c.from-y.result (record { fits = c.ranges.b; same = c.from-y.ensures }) c.requires.divisor

pub floor_quotient-requires-clause-nonzero : goal.floor_quotient-requires-clause-nonzero
floor_quotient-requires-clause-nonzero c =
    let w : Widened c.args.b c.from-y.result = record { fits = c.ranges.b; same = c.from-y.ensures } in
    nonzero c.args.b c.from-y.result w (is_other_of c.args.b c.from-y.result w c.if-y-eq0.false)

pub remainder-requires-clause-dividend : goal.remainder-requires-clause-dividend
remainder-requires-clause-dividend c = small c.args.a c.from-x.result (record { fits = c.ranges.a; same = c.from-x.ensures }) c.requires.dividend

pub remainder-requires-clause-divisor : goal.remainder-requires-clause-divisor
remainder-requires-clause-divisor c = small c.args.b c.from-y.result (record { fits = c.ranges.b; same = c.from-y.ensures }) c.requires.divisor

pub remainder-requires-clause-times : goal.remainder-requires-clause-times
remainder-requires-clause-times c = small_times c.floor_quotient.result (record { sfits = c.floor_quotient.type_inv }) c.floor_quotient.ensures.bound

pub returns-clause-answer : goal.returns-clause-answer
returns-clause-answer c =
    let v : Widened c.args.a c.from-x.result = record { fits = c.ranges.a; same = c.from-x.ensures } in
    let w : Widened c.args.b c.from-y.result = record { fits = c.ranges.b; same = c.from-y.ensures } in
    c.within_range.ensures.answer
    ∙ modulo_done c.args.a c.args.b c.from-x.result c.from-y.result c.floor_quotient.result c.remainder.result v w (is_other_of c.args.b c.from-y.result w c.if-y-eq0.false) (record { sfits = c.floor_quotient.type_inv }) (record { sfits = c.remainder.type_inv }) c.floor_quotient.ensures.quotient c.remainder.ensures

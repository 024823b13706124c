use Rattle.std.proofs.Common.{◌∙◌}
use Rattle.st_model.specs.Integers.{exact_quotient}
use Rattle.st_ints.proofs.Quotients.{Widened, is_zero_of, is_other_of, divides, by_zero, with_nothing_left, with_something_left}
use Rattle.st_ints.proofs.division.exact_quotient.Goals as goal

pub returns-then-y-eq0-clause-answer : goal.returns-then-y-eq0-clause-answer
unfolding exact_quotient
returns-then-y-eq0-clause-answer c = by_zero c.args.b _ (is_zero_of c.args.b c.from-y.result (record { fits = c.ranges.b; same = c.from-y.ensures }) c.if-y-eq0.true)

pub nonzero_rem-x : goal.nonzero_rem-x
nonzero_rem-x c = divides c.args.a c.from-x.result c.from-y.result (record { fits = c.ranges.a; same = c.from-x.ensures }) c.if-y-eq0.false

pub nonzero_div-x : goal.nonzero_div-x
nonzero_div-x c = divides c.args.a c.from-x.result c.from-y.result (record { fits = c.ranges.a; same = c.from-x.ensures }) c.if-y-eq0.false

pub returns-then-x-y-eq0-clause-answer : goal.returns-then-x-y-eq0-clause-answer
returns-then-x-y-eq0-clause-answer c =
    let v : Widened c.args.a c.from-x.result = record { fits = c.ranges.a; same = c.from-x.ensures } in
    let w : Widened c.args.b c.from-y.result = record { fits = c.ranges.b; same = c.from-y.ensures } in
    c.within_range.ensures.answer ∙ with_nothing_left c.args.a c.args.b c.from-x.result c.from-y.result v w (is_other_of c.args.b c.from-y.result w c.if-y-eq0.false) c.if-x-y-eq0.true

pub returns-else-x-y-eq0-clause-answer : goal.returns-else-x-y-eq0-clause-answer
returns-else-x-y-eq0-clause-answer c =
    let v : Widened c.args.a c.from-x.result = record { fits = c.ranges.a; same = c.from-x.ensures } in
    let w : Widened c.args.b c.from-y.result = record { fits = c.ranges.b; same = c.from-y.ensures } in
    with_something_left c.args.a c.args.b c.from-x.result c.from-y.result v w (is_other_of c.args.b c.from-y.result w c.if-y-eq0.false) c.if-x-y-eq0.false

use Rattle.std.proofs.Common.{◌∙◌}
use Rattle.st_model.specs.Integers.{quotient}
use Rattle.st_ints.proofs.Quotients.{Widened, is_zero_of, is_other_of, divides, by_zero, quotient_done}
use Rattle.st_ints.proofs.division.quotient.Goals as goal

pub returns-then-y-eq0-clause-answer : goal.returns-then-y-eq0-clause-answer
unfolding quotient
returns-then-y-eq0-clause-answer c = by_zero c.args.b _ (is_zero_of c.args.b c.from-y.result (record { fits = c.ranges.b; same = c.from-y.ensures }) c.if-y-eq0.true)

pub nonzero_div-x : goal.nonzero_div-x
nonzero_div-x c = divides c.args.a c.from-x.result c.from-y.result (record { fits = c.ranges.a; same = c.from-x.ensures }) c.if-y-eq0.false

pub returns-clause-answer : goal.returns-clause-answer
returns-clause-answer c =
    let v : Widened c.args.a c.from-x.result = record { fits = c.ranges.a; same = c.from-x.ensures } in
    let w : Widened c.args.b c.from-y.result = record { fits = c.ranges.b; same = c.from-y.ensures } in
    c.within_range.ensures.answer ∙ quotient_done c.args.a c.args.b c.from-x.result c.from-y.result v w (is_other_of c.args.b c.from-y.result w c.if-y-eq0.false)

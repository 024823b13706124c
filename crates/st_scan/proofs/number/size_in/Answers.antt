use Rattle.std.proofs.Common.{sym, ◌∙◌}
use Rattle.st_scan.proofs.Numerals.{with_digits-0, with_digits-turn, with_digits-end}
use Rattle.st_scan.proofs.number.size_in.Goals as goal

pub returns-in_err-size : goal.returns-in_err-size
returns-in_err-size c =
    c.from_residual.ensures
    ∙ sym (with_digits-turn c.args.base c.loop-digit.size c.loop-digit.digit-index c.args.digits.now _ c.loop-digit-test.true c.in_err-size.ensures)
    ∙ c.loop-digit.invariant
    ∙ with_digits-0 c.args.base c.args.digits.now c.requires.low

pub loop-digit-preserved : goal.loop-digit-preserved
loop-digit-preserved c =
    sym (with_digits-turn c.args.base c.loop-digit.size c.loop-digit.digit-index c.args.digits.now _ c.loop-digit-test.true c.in_ok-size.ensures) ∙ c.loop-digit.invariant

pub returns : goal.returns
returns c =
    sym (with_digits-end c.args.base c.loop-digit.size c.loop-digit.digit-index c.args.digits.now c.loop-digit-test.false)
    ∙ c.loop-digit.invariant
    ∙ with_digits-0 c.args.base c.args.digits.now c.requires.low

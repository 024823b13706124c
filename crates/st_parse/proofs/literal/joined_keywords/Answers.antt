use Rattle.std.proofs.Common.{sym, ◌∙◌}
use Rattle.std.proofs.lemmas.Result.{err_from_is_err_and}
use Rattle.st_grammar.proofs.Loops.{go_on, go_wrong, end}
use Rattle.st_grammar.proofs.Shorter.{joined_shorter}
use Rattle.st_parse.proofs.literal.joined_keywords.Goals as goal

pub returns-in_err-longer : goal.returns-in_err-longer
returns-in_err-longer c =
    let p = err_from_is_err_and c.from_residual.result c.from_residual.ensures.1 in
    rw (p.1, p.2) (go_wrong c.loop-selector.invariant c.in_err-longer.field-0.0 (sym c.starts.ensures ∙ c.loop-selector-test.true) c.in_err-longer.ensures)

pub loop-selector-smaller : goal.loop-selector-smaller
loop-selector-smaller c = joined_shorter c.args.text.now _ _ _ c.in_ok-longer.ensures

pub loop-selector-preserved : goal.loop-selector-preserved
loop-selector-preserved c =
    go_on c.loop-selector.invariant _ _ (sym c.starts.ensures ∙ c.loop-selector-test.true) c.in_ok-longer.ensures (joined_shorter c.args.text.now _ _ _ c.in_ok-longer.ensures)

pub returns : goal.returns
returns c = end c.loop-selector.invariant (sym c.starts.ensures ∙ c.loop-selector-test.false)

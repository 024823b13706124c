use Rattle.std.proofs.Common.{sym, ◌∙◌}
use Rattle.std.proofs.lemmas.Result.{err_from_is_err_and}
use Rattle.st_grammar.proofs.Loops.{go_on, go_wrong, end}
use Rattle.st_grammar.proofs.Shorter.{elements_shorter}
use Rattle.st_parse.proofs.literal.+arrays.Goals as goal

pub elements-returns-in_err-more : goal.elements-returns-in_err-more
elements-returns-in_err-more t c =
    let p = err_from_is_err_and c.from_residual.result c.from_residual.ensures.1 in
    rw (p.1, p.2) (go_wrong c.loop-alloc.invariant c.in_err-more.field-0.0 (sym c.starts.ensures ∙ c.loop-alloc-test.true) c.in_err-more.ensures)

pub elements-loop-alloc-smaller : goal.elements-loop-alloc-smaller
elements-loop-alloc-smaller t c = elements_shorter c.args.text.now c.args.room _ _ _ c.in_ok-more.ensures

pub elements-loop-alloc-preserved : goal.elements-loop-alloc-preserved
elements-loop-alloc-preserved t c =
    go_on c.loop-alloc.invariant _ _ (sym c.starts.ensures ∙ c.loop-alloc-test.true) c.in_ok-more.ensures (elements_shorter c.args.text.now c.args.room _ _ _ c.in_ok-more.ensures)

pub elements-returns : goal.elements-returns
elements-returns t c = end c.loop-alloc.invariant (sym c.starts.ensures ∙ c.loop-alloc-test.false)

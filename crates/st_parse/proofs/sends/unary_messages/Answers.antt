use Rattle.std.proofs.Common.{sym, ◌∙◌}
use Rattle.std.proofs.lemmas.Result.{err_from_is_err_and}
use Rattle.st_grammar.proofs.Loops.{go_on, go_wrong, end}
use Rattle.st_grammar.proofs.Shorter.{names_shorter}
use Rattle.st_parse.proofs.sends.unary_messages.Goals as goal

pub returns-in_err-sent : goal.returns-in_err-sent
returns-in_err-sent c =
    let p = err_from_is_err_and c.from_residual.result c.from_residual.ensures.1 in
    rw (p.1, p.2) (go_wrong c.loop-alloc.invariant c.in_err-sent.field-0.0 (sym c.starts.ensures ∙ c.loop-alloc-test.true) c.in_err-sent.ensures)

pub loop-alloc-smaller : goal.loop-alloc-smaller
loop-alloc-smaller c = names_shorter c.args.text.now _ _ _ c.in_ok-sent.ensures

pub loop-alloc-preserved : goal.loop-alloc-preserved
loop-alloc-preserved c = go_on c.loop-alloc.invariant _ _ (sym c.starts.ensures ∙ c.loop-alloc-test.true) c.in_ok-sent.ensures (names_shorter c.args.text.now _ _ _ c.in_ok-sent.ensures)

pub returns : goal.returns
returns c = end c.loop-alloc.invariant (sym c.starts.ensures ∙ c.loop-alloc-test.false)

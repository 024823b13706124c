use Rattle.std.proofs.Common.{Ok, sym, ap, ◌∙◌}
use Rattle.std.proofs.lemmas.Result.{err_from_is_err_and}
use Rattle.st_grammar.specs.Reading.{BodyView}
use Rattle.st_grammar.proofs.Loops.{go_on, go_wrong, end}
use Rattle.st_grammar.proofs.Shorter.{operations_shorter, parts_shorter, cascade_shorter, statement_shorter}
use Rattle.st_parse.proofs.Statements.{fails_behind, statement_parts}
use Rattle.st_parse.proofs.expression.+reading.Goals as goal

pub statement-returns-in_err-value : goal.statement-returns-in_err-value
statement-returns-in_err-value t c =
    let p = err_from_is_err_and c.from_residual.result c.from_residual.ensures.1 in
    rw (p.1, p.2, statement_parts, sym c.caret-returns.ensures) (fails_behind c.in_err-value.field-0.0 _ _ c.in_err-value.ensures)

pub statement-returns : goal.statement-returns
statement-returns t c =
    rw (statement_parts, sym c.caret-returns.ensures, c.in_ok-value.ensures, sym c.period-period.ensures)
    (ap (λ (b : BodyView). Ok (b, c.period-period.result.1.now)) (sym c.in_ok-with_statement.ensures))

pub binary_messages-returns-in_err-sent : goal.binary_messages-returns-in_err-sent
binary_messages-returns-in_err-sent t c =
    let p = err_from_is_err_and c.from_residual.result c.from_residual.ensures.1 in
    rw (p.1, p.2) (go_wrong c.loop-alloc.invariant c.in_err-sent.field-0.0 (sym c.starts.ensures ∙ c.loop-alloc-test.true) c.in_err-sent.ensures)

pub binary_messages-loop-alloc-smaller : goal.binary_messages-loop-alloc-smaller
binary_messages-loop-alloc-smaller t c = operations_shorter c.args.text.now c.args.room _ _ _ c.in_ok-sent.ensures

pub binary_messages-loop-alloc-preserved : goal.binary_messages-loop-alloc-preserved
binary_messages-loop-alloc-preserved t c = go_on c.loop-alloc.invariant _ _ (sym c.starts.ensures ∙ c.loop-alloc-test.true) c.in_ok-sent.ensures (operations_shorter c.args.text.now c.args.room _ _ _ c.in_ok-sent.ensures)

pub binary_messages-returns : goal.binary_messages-returns
binary_messages-returns t c = end c.loop-alloc.invariant (sym c.starts.ensures ∙ c.loop-alloc-test.false)

pub keyword_parts-returns-in_err-longer : goal.keyword_parts-returns-in_err-longer
keyword_parts-returns-in_err-longer t c =
    let p = err_from_is_err_and c.from_residual.result c.from_residual.ensures.1 in
    rw (p.1, p.2) (go_wrong c.loop-alloc.invariant c.in_err-longer.field-0.0 (sym c.starts.ensures ∙ c.loop-alloc-test.true) c.in_err-longer.ensures)

pub keyword_parts-loop-alloc-smaller : goal.keyword_parts-loop-alloc-smaller
keyword_parts-loop-alloc-smaller t c = parts_shorter c.args.text.now c.args.room _ _ _ c.in_ok-longer.ensures

pub keyword_parts-loop-alloc-preserved : goal.keyword_parts-loop-alloc-preserved
keyword_parts-loop-alloc-preserved t c = go_on c.loop-alloc.invariant _ _ (sym c.starts.ensures ∙ c.loop-alloc-test.true) c.in_ok-longer.ensures (parts_shorter c.args.text.now c.args.room _ _ _ c.in_ok-longer.ensures)

pub keyword_parts-returns : goal.keyword_parts-returns
keyword_parts-returns t c = end c.loop-alloc.invariant (sym c.starts.ensures ∙ c.loop-alloc-test.false)

pub next_messages-returns-in_err-longer : goal.next_messages-returns-in_err-longer
next_messages-returns-in_err-longer t c =
    let p = err_from_is_err_and c.from_residual.result c.from_residual.ensures.1 in
    rw (p.1, p.2) (go_wrong c.loop-alloc.invariant c.in_err-longer.field-0.0 (sym c.starts.ensures ∙ c.loop-alloc-test.true) c.in_err-longer.ensures)

pub next_messages-loop-alloc-smaller : goal.next_messages-loop-alloc-smaller
next_messages-loop-alloc-smaller t c = cascade_shorter c.args.text.now c.args.room _ _ _ c.in_ok-longer.ensures

pub next_messages-loop-alloc-preserved : goal.next_messages-loop-alloc-preserved
next_messages-loop-alloc-preserved t c = go_on c.loop-alloc.invariant _ _ (sym c.starts.ensures ∙ c.loop-alloc-test.true) c.in_ok-longer.ensures (cascade_shorter c.args.text.now c.args.room _ _ _ c.in_ok-longer.ensures)

pub next_messages-returns : goal.next_messages-returns
next_messages-returns t c = end c.loop-alloc.invariant (sym c.starts.ensures ∙ c.loop-alloc-test.false)

pub all_statements-returns-in_err-longer : goal.all_statements-returns-in_err-longer
all_statements-returns-in_err-longer t c =
    let p = err_from_is_err_and c.from_residual.result c.from_residual.ensures.1 in
    rw (p.1, p.2) (go_wrong c.loop-alloc.invariant c.in_err-longer.field-0.0 (sym c.goes_on.ensures ∙ c.loop-alloc-test.true) c.in_err-longer.ensures)

pub all_statements-loop-alloc-smaller : goal.all_statements-loop-alloc-smaller
all_statements-loop-alloc-smaller t c = statement_shorter c.args.text.now c.args.room _ _ _ c.in_ok-longer.ensures

pub all_statements-loop-alloc-preserved : goal.all_statements-loop-alloc-preserved
all_statements-loop-alloc-preserved t c = go_on c.loop-alloc.invariant _ _ (sym c.goes_on.ensures ∙ c.loop-alloc-test.true) c.in_ok-longer.ensures (statement_shorter c.args.text.now c.args.room _ _ _ c.in_ok-longer.ensures)

pub all_statements-returns : goal.all_statements-returns
all_statements-returns t c = end c.loop-alloc.invariant (sym c.goes_on.ensures ∙ c.loop-alloc-test.false)

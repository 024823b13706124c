use Rattle.std.proofs.Common.{Bool, ◌++◌, drop, sym, ap, ◌∙◌}
use Rattle.std.proofs.lemmas.Result.{IfOk-weaker}
use Rattle.st_scan.specs.Views.{expression_view, statements_view}
use Rattle.st_print.specs.Printed.{return_words, expression_words, next_statements, first_signed}
use Rattle.st_print.proofs.Firsts.{some_statements}
use Rattle.st_print.proofs.Signed.{signed_more}
use Rattle.st_print.proofs.method.signed_body.Goals as goal

pub returns : goal.returns
returns c =
    let ss = c.args.body.now in
    let s = c.index-body-0.result in
    let rest = next_statements (statements_view (drop 1 ss)) in
    IfOk-weaker c.first_signed.result _ _
    (λ n is. is
    ∙ sym (
    ap first_signed (some_statements ss s c.if-is_empty.ensures c.index-body-0.is)
    ∙ ap (λ (b : Bool). first_signed ((return_words b ++ expression_words (expression_view s.value)) ++ rest)) c.if-statement.false
    ∙ signed_more (expression_view s.value) rest
    ))
    c.first_signed.ensures

use Rattle.std.proofs.Common.{◌≡◌, sym, subst}
use Rattle.std.specs.Prelude.{IfOk}
use Rattle.st_expression_stack.specs.inside.Called.{or_text, own_by}
use Rattle.st_expression_stack.proofs.Got.{text_got}
use Rattle.st_expression_stack.proofs.own.listed_name.Goals as goal

pub returns : goal.returns
returns c =
    subst (λ o. IfOk c.text_or_own.result (λ t. t.items ≡ or_text o (own_by c.args.taken.now c.args.variable)))
    (sym (text_got c.args.texts.now c.args.variable c.get.result c.get.ensures.lookup)) c.text_or_own.ensures

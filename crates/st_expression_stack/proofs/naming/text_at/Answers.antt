use Rattle.std.proofs.Common.{◌≡◌, sym, subst}
use Rattle.std.specs.Prelude.{IfOk}
use Rattle.st_expression_stack.specs.Names.{or_unused}
use Rattle.st_expression_stack.proofs.Got.{text_got}
use Rattle.st_expression_stack.proofs.naming.text_at.Goals as goal

pub returns : goal.returns
returns c = subst (λ o. IfOk c.text_or_unused.result (λ t. t.items ≡ or_unused o)) (sym (text_got c.args.texts.now c.args.place c.get.result c.get.ensures.lookup)) c.text_or_unused.ensures

-- A message with a special selector has as many arguments as the table says, since its selector has as many as its text says.
use Rattle.std.proofs.Common.{ℕ, List, Some, ap, ◌∙◌}
use Rattle.st_scan.specs.Views.{ExpressionView, StatementsView, MessagesView, ExpressionsView, MethodView}
use Rattle.st_scan.specs.Views as views
use Rattle.st_grammar.specs.inside.Formed.{IsSelector, ReceiverFormed, StatementsFormed, MessagesFormed, ArgumentsFormed, count_of}
use Rattle.st_grammar.specs.inside.Meant.{Means}
use Rattle.st_grammar.proofs.FormedTrees.{means_formed}
use Rattle.st_emit.proofs.SpecialSelectors.{special-arguments}
use Rattle.st_resolved.proofs.Arity.{arity_is}
use Rattle.st_install.specs.inside.Messages.{TakesArguments, HasArguments, HaveArguments, MessagesHaveArguments, AllHaveArguments}

takes : (text : List ℕ) (n : ℕ) → IsSelector text n → TakesArguments text n
takes text n is k e = special-arguments text k e ∙ ap (λ m. Some (text, m)) (arity_is text n is)

mutual
  expression_has : (e : ExpressionView) → ReceiverFormed e → HasArguments e
  expression_has (views.variable n) f = tt
  expression_has (views.literal e) f = tt
  expression_has (views.block ns b) f = statements_have b f.1
  expression_has (views.assign target e) f = expression_has e f.1
  expression_has (views.send r ms) f = (expression_has r f.0, messages_have ms f.2)

  statements_have : (ss : StatementsView) → StatementsFormed ss → HaveArguments ss
  statements_have views.no_statements f = tt
  statements_have (views.statement returns e ss) f = (expression_has e f.0, statements_have ss f.3)

  messages_have : (ms : MessagesView) → MessagesFormed ms → MessagesHaveArguments ms
  messages_have views.no_messages f = tt
  messages_have (views.message s es ms) f = (takes s (count_of es) f.0, arguments_have es f.1, messages_have ms f.2)

  arguments_have : (es : ExpressionsView) → ArgumentsFormed es → AllHaveArguments es
  arguments_have views.no_expressions f = tt
  arguments_have (views.expression e es) f = (expression_has e f.0, arguments_have es f.2)

pub special-messages : (text : List ℕ) (t : MethodView) → Means text t → HaveArguments t.body
special-messages text t means = let w = means_formed text t means in statements_have t.body w.body

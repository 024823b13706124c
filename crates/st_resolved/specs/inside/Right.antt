-- Each message of a tree has as many arguments as its selector says.
use Rattle.std.specs.Prelude.{◌≡◌, ℕ, ◌+◌, List}
use Rattle.st_scan.specs.Views.{ExpressionView, StatementsView, MessagesView, ExpressionsView}
use Rattle.st_scan.specs.Views as views
use Rattle.st_emit.specs.Selectors.{arity}

abbrev pub IsRight : List ℕ → ℕ → Type 0
IsRight text n = arity text ≡ n

abbrev pub arguments_count : ExpressionsView → ℕ
arguments_count views.no_expressions = 0
arguments_count (views.expression e es) = arguments_count es + 1

abbrev mutual
  pub RightExpression : ExpressionView → Type 0
  RightExpression (views.variable n) = Unit {0}
  RightExpression (views.literal e) = Unit {0}
  RightExpression (views.block ns b) = RightStatements b
  RightExpression (views.assign target e) = RightExpression e
  RightExpression (views.send r ms) = RightExpression r × RightMessages ms

  pub RightStatements : StatementsView → Type 0
  RightStatements views.no_statements = Unit {0}
  RightStatements (views.statement returns e ss) = RightExpression e × RightStatements ss

  pub RightMessages : MessagesView → Type 0
  RightMessages views.no_messages = Unit {0}
  RightMessages (views.message s es ms) = IsRight s (arguments_count es) × RightAll es × RightMessages ms

  pub RightAll : ExpressionsView → Type 0
  RightAll views.no_expressions = Unit {0}
  RightAll (views.expression e es) = RightExpression e × RightAll es

-- The names of variables in a method's statements, in the order of the text.
use Rattle.std.specs.Prelude.{ℕ, List, [], ◌∷◌, ◌++◌}
use Rattle.st_scan.specs.Views.{ExpressionView, StatementsView, MessagesView, ExpressionsView}
use Rattle.st_scan.specs.Views as views

abbrev mutual
  pub mentioned : ExpressionView → List (List ℕ)
  mentioned (views.variable n) = n.text ∷ []
  mentioned (views.literal e) = []
  mentioned (views.block names body) = mentioned_in body
  mentioned (views.assign target e) = target.text ∷ mentioned e
  mentioned (views.send receiver ms) = mentioned receiver ++ mentioned_by ms

  pub mentioned_in : StatementsView → List (List ℕ)
  mentioned_in views.no_statements = []
  mentioned_in (views.statement returns e ss) = mentioned e ++ mentioned_in ss

  pub mentioned_by : MessagesView → List (List ℕ)
  mentioned_by views.no_messages = []
  mentioned_by (views.message selector es ms) = mentioned_among es ++ mentioned_by ms

  pub mentioned_among : ExpressionsView → List (List ℕ)
  mentioned_among views.no_expressions = []
  mentioned_among (views.expression e es) = mentioned e ++ mentioned_among es

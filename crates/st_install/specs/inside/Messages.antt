-- Messages with special selectors, which have a code of their own that says how many arguments they take.
use Rattle.std.specs.Prelude.{◌≡◌, ℕ, List, slice_get, Some}
use Rattle.st_scan.specs.Views.{ExpressionView, StatementsView, MessagesView, ExpressionsView}
use Rattle.st_scan.specs.Views as views
use Rattle.st_grammar.specs.inside.Formed.{count_of}
use Rattle.st_emit.specs.Selectors.{special_sends}
use Rattle.st_emit.specs.Resolving.{special_selector}

-- a selector that is special stands at its place of the table with so many arguments
abbrev pub TakesArguments : List ℕ → ℕ → Type 0
TakesArguments selector count = (k : ℕ) → special_selector selector ≡ Some k → slice_get special_sends k ≡ Some (selector, count)

-- so does the selector of each message, with as many as the message has
abbrev mutual
  pub HasArguments : ExpressionView → Type 0
  HasArguments (views.variable n) = Unit {0}
  HasArguments (views.literal e) = Unit {0}
  HasArguments (views.block names body) = HaveArguments body
  HasArguments (views.assign target e) = HasArguments e
  HasArguments (views.send receiver ms) = HasArguments receiver × MessagesHaveArguments ms

  pub HaveArguments : StatementsView → Type 0
  HaveArguments views.no_statements = Unit {0}
  HaveArguments (views.statement returns e ss) = HasArguments e × HaveArguments ss

  pub MessagesHaveArguments : MessagesView → Type 0
  MessagesHaveArguments views.no_messages = Unit {0}
  MessagesHaveArguments (views.message selector es ms) = TakesArguments selector (count_of es) × AllHaveArguments es × MessagesHaveArguments ms

  pub AllHaveArguments : ExpressionsView → Type 0
  AllHaveArguments views.no_expressions = Unit {0}
  AllHaveArguments (views.expression e es) = HasArguments e × AllHaveArguments es

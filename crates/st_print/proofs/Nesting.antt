-- How many brackets of a printed text are open in one another.
use Rattle.std.proofs.Common.{ℕ, ◌+◌, max, Bool, true, false, List}
use Rattle.std.specs.Prelude.{if◌then◌else◌}
use Rattle.st_scan.specs.Views.{ContentView, ElementsView, ExpressionView, StatementsView, MessagesView, ExpressionsView}
use Rattle.st_scan.specs.Views as views
use Rattle.st_print.specs.declared.rank.Rank.{Rank}
use Rattle.st_print.specs.declared.rank.Rank.TheVariants.{Unary, Binary}
use Rattle.st_print.specs.Printed.{is_loose, is_word, rank_of, receiver_rank}

abbrev mutual
  pub content_nesting : ContentView → ℕ
  content_nesting (views.array es) = elements_nesting es + 1
  content_nesting _ = 0

  pub elements_nesting : ElementsView → ℕ
  elements_nesting views.no_elements = 0
  elements_nesting (views.element place what es) = max (content_nesting what) (elements_nesting es)

-- in parentheses one more
abbrev pub wrapped_nesting : Bool → ℕ → ℕ
wrapped_nesting true n = n + 1
wrapped_nesting false n = n

-- what an argument may be
abbrev pub argument_rank : List ℕ → Rank
argument_rank selector = if is_word selector then Binary else Unary

abbrev mutual
  pub nesting : ExpressionView → ℕ
  nesting (views.variable n) = 0
  nesting (views.literal e) = content_nesting e.what
  nesting (views.block names body) = statements_nesting body + 1
  nesting (views.assign target e) = nesting e
  nesting (views.send receiver ms) = max (wrapped_nesting (is_loose (receiver_rank ms) (rank_of receiver)) (nesting receiver)) (messages_nesting ms)

  pub statements_nesting : StatementsView → ℕ
  statements_nesting views.no_statements = 0
  statements_nesting (views.statement returns e ss) = max (nesting e) (statements_nesting ss)

  pub messages_nesting : MessagesView → ℕ
  messages_nesting views.no_messages = 0
  messages_nesting (views.message selector es ms) = max (arguments_nesting (argument_rank selector) es) (messages_nesting ms)

  pub arguments_nesting : Rank → ExpressionsView → ℕ
  arguments_nesting wanted views.no_expressions = 0
  arguments_nesting wanted (views.expression e es) = max (wrapped_nesting (is_loose wanted (rank_of e)) (nesting e)) (arguments_nesting wanted es)

-- where an expression of a rank is wanted
abbrev pub placed_nesting : Rank → ExpressionView → ℕ
placed_nesting wanted e = wrapped_nesting (is_loose wanted (rank_of e)) (nesting e)

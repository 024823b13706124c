-- The trees that are made of parts, each part as the code holds it.
use Rattle.std.specs.Prelude.{ℕ, Bool, List}
use Rattle.st_scan.specs.declared.tree.Expression.{Expression}
use Rattle.st_scan.specs.declared.tree.Statement.{Statement}
use Rattle.st_scan.specs.Views.{ExpressionView, send, message, no_messages, expression_view, expressions_view, statements_view}
use Rattle.st_expression_stack.specs.declared.item.Statements.{Statements}
use Rattle.st_expression_stack.specs.Choosing.{with_block, with_blocks, two_sides, choice_tree, loop_tree}

-- MESSAGES

abbrev pub message_to : Expression → List ℕ → List Expression → ExpressionView
message_to receiver s es = send (expression_view receiver) (message s (expressions_view es) no_messages)

abbrev pub block_to : Expression → List ℕ → List Statement → ExpressionView
block_to receiver s a = with_block (expression_view receiver) s (statements_view a)

abbrev pub blocks_to : Expression → List ℕ → (a b : List Statement) → ExpressionView
blocks_to receiver s a b = with_blocks (expression_view receiver) s (statements_view a) (statements_view b)

-- FORMS

-- two blocks, in the order of their numbers
abbrev pub sides_to : Expression → (a b : Statements) → ExpressionView
sides_to condition a b = two_sides (expression_view condition) (statements_view a.list.items) a.least (statements_view b.list.items) b.least

-- the first side in the code is passed on this boolean
abbrev pub choice_to : (on : Bool) → Expression → (a b : Statements) → ExpressionView
choice_to on condition a b = choice_tree on (expression_view condition) (statements_view a.list.items) a.least (statements_view b.list.items) b.least

abbrev pub loop_of : (on : Bool) → (condition body : List Statement) → ExpressionView
loop_of on condition body = loop_tree on (statements_view condition) (statements_view body)

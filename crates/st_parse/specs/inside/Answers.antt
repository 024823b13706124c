-- What a reader answers: what it read, seen as a part of a tree, and the leaves behind it; or the first fault.
use Rattle.std.specs.Prelude.{◌≡◌, ℕ, Bool, List, ◌++◌, Result}
use Rattle.std.specs.Borrow.{Bor}
use Rattle.std.specs.Global.{Vec}
use Rattle.st_scan.specs.declared.tree.Name.{Name}
use Rattle.st_scan.specs.declared.tree.Element.{Element}
use Rattle.st_scan.specs.declared.tree.Expression.{Expression}
use Rattle.st_scan.specs.declared.tree.Statement.{Statement}
use Rattle.st_scan.specs.declared.tree.Message.{Message}
use Rattle.st_scan.specs.Views.{NameView, ElementView, ElementsView, ExpressionView, ExpressionsView, StatementsView, names_view, element_view, elements_view, expression_view, expressions_view, statements_view, with_expression, with_statement, with_sent}
use Rattle.st_scan.specs.Views as views
use Rattle.st_grammar.specs.declared.leaf.Leaf.{Leaf}
use Rattle.st_grammar.specs.declared.read.ReadError.{ReadError}
use Rattle.st_grammar.specs.Trees.{bytes, sent, sent_if}
use Rattle.st_grammar.specs.Reading.{Read, Gives, PartsView, BodyView, PatternView, array_at, bracket_at}
use Rattle.st_parse.specs.declared.sends.Parts.{Parts}
use Rattle.st_parse.specs.declared.bodies.Body.{Body}
use Rattle.st_parse.specs.declared.method.Pattern.{Pattern}
use Rattle.st_parse.specs.inside.Phrases.{parts_view, body_view}
use Rattle.st_parse.specs.inside.Parsed.{pattern_view}

abbrev pub Answers : {X Y : Type 0} → (X → Y) → Result (X × Bor (List Leaf)) ReadError → Read Y → Type 0
Answers {X} {Y} view result read = Gives {X = X × Bor (List Leaf)} {Y = Y × List Leaf} (λ x. (view x.0, x.1.now)) result read

abbrev pub Reads : Result (Expression × Bor (List Leaf)) ReadError → Read ExpressionView → Type 0
Reads = Answers expression_view

abbrev pub ReadsParts : Result (Parts × Bor (List Leaf)) ReadError → Read PartsView → Type 0
ReadsParts = Answers parts_view

abbrev pub ReadsBody : Result (Body × Bor (List Leaf)) ReadError → Read BodyView → Type 0
ReadsBody = Answers body_view

abbrev pub ReadsStatements : Result (Vec Statement × Bor (List Leaf)) ReadError → Read StatementsView → Type 0
ReadsStatements = Answers (λ (ss : Vec Statement). statements_view ss.items)

abbrev pub ReadsLiteral : Result (Element × Bor (List Leaf)) ReadError → Read ElementView → Type 0
ReadsLiteral = Answers element_view

abbrev pub ReadsArray : Result (Vec Element × Bor (List Leaf)) ReadError → Read ElementsView → Type 0
ReadsArray = Answers (λ (es : Vec Element). elements_view es.items)

abbrev pub ReadsNames : Result (Vec Name × Bor (List Leaf)) ReadError → Read (List NameView) → Type 0
ReadsNames = Answers (λ (ns : Vec Name). names_view ns.items)

abbrev pub ReadsPattern : Result (Pattern × Bor (List Leaf)) ReadError → Read PatternView → Type 0
ReadsPattern = Answers pattern_view

-- what is read where so many more brackets may be open
abbrev pub within : {A : Type 0} → (List ℕ → (List Leaf → Read ElementsView) → (Bool → List Leaf → Read ExpressionView) → A) → List ℕ → ℕ → A
within row text room = row text (array_at text room) (bracket_at text room)

-- the same of literals
abbrev pub nested : {A : Type 0} → (List ℕ → (List Leaf → Read ElementsView) → A) → List ℕ → ℕ → A
nested row text room = row text (array_at text room)

-- WHAT IS MADE

-- an expression is this tree
abbrev pub Makes : ExpressionView → Expression → Type 0
Makes t e = expression_view e ≡ t

-- parts of a keyword message are these
abbrev pub MakesParts : PartsView → Parts → Type 0
MakesParts parts p = parts_view p ≡ parts

-- these statements are read, and one more, which another one may follow or not
abbrev pub IsBody : StatementsView → (returns : Bool) → ExpressionView → (goes_on : Bool) → Body → Type 0
IsBody ss returns e goes_on b = body_view b ≡ record { statements = with_statement ss returns e; goes_on = goes_on }

-- one more keyword with its argument
abbrev pub with_keyword : List ℕ → Parts → Leaf → Expression → PartsView
with_keyword text parts keyword argument = record {
  selector = parts.selector.items ++ bytes text keyword;
  arguments = with_expression (expressions_view parts.arguments.items) (expression_view argument);
}

-- a message to a receiver; a keyword message, if there are arguments; a binary message
abbrev pub sent_message : Expression → Message → ExpressionView
sent_message receiver m = sent (expression_view receiver) m.selector.items (expressions_view m.arguments.items)

abbrev pub sent_parts : Expression → Parts → ExpressionView
sent_parts receiver parts = sent_if (expression_view receiver) parts.selector.items (expressions_view parts.arguments.items)

abbrev pub argument_of : Expression → ExpressionsView
argument_of e = views.expression (expression_view e) views.no_expressions

abbrev pub sent_operator : List ℕ → Expression → Leaf → Expression → ExpressionView
sent_operator text receiver operator argument = sent (expression_view receiver) (bytes text operator) (argument_of argument)

-- the same as one more message of a cascade
abbrev pub also_parts : Expression → Parts → ExpressionView
also_parts cascade parts = with_sent (expression_view cascade) parts.selector.items (expressions_view parts.arguments.items)

abbrev pub also_operator : List ℕ → Expression → Leaf → Expression → ExpressionView
also_operator text cascade operator argument = with_sent (expression_view cascade) (bytes text operator) (argument_of argument)

-- What contracts see of a method's tree: its parts as lists, without where they lie in memory.
use Rattle.std.specs.Prelude.{ℕ, Bool, false, List, [], ◌∷◌, map, Option, codes, bytes_eq}
use Rattle.st_scan.specs.declared.token.Signed.{Signed}
use Rattle.st_scan.specs.declared.tree.Name.{Name}
use Rattle.st_scan.specs.declared.tree.MethodTree.{MethodTree}
use Rattle.st_scan.specs.declared.tree.Statement.{Statement}
use Rattle.st_scan.specs.declared.tree.Message.{Message}
use Rattle.st_scan.specs.declared.tree.Element.{Element}
use Rattle.st_scan.specs.declared.tree.Content.{Content, Row_of-Element, end_of-Element, more_of-Element}
use Rattle.st_scan.specs.declared.tree.Content.TheVariants.{Number, Character, Bytes, Symbol, Array', Nil, False, True}
use Rattle.st_scan.specs.declared.tree.Expression.{Expression, Row_of-Statement, end_of-Statement, more_of-Statement, Row_of-Message, end_of-Message, more_of-Message, Row_of-Expression, end_of-Expression, more_of-Expression}
use Rattle.st_scan.specs.declared.tree.Expression.TheVariants.{Variable, Literal, Block', Assign', Send'}

-- a name, and its place in the text
pub record NameView : Type 0 where
  pub text : List ℕ
  pub place : ℕ

abbrev pub name_view : Name → NameView
name_view n = record { text = n.text.items; place = n.place }

abbrev pub names_view : List Name → List NameView
names_view ns = map name_view ns

mutual
  -- what a literal is
  pub data ContentView : Type 0 where
    number : Signed → ContentView
    character : (byte : ℕ) → ContentView
    bytes : (text : List ℕ) → ContentView
    symbol : (text : List ℕ) → ContentView
    array : ElementsView → ContentView
    nil_object : ContentView
    false_object : ContentView
    true_object : ContentView

  -- the elements of a literal array, each with its place
  pub data ElementsView : Type 0 where
    no_elements : ElementsView
    element : (place : ℕ) → ContentView → ElementsView → ElementsView

-- a literal, and its place in the text
pub record ElementView : Type 0 where
  pub place : ℕ
  pub what : ContentView

abbrev mutual
  pub content_view : Content → ContentView
  content_view (Number n) = number n
  content_view (Character b) = character b
  content_view (Bytes t) = bytes t.items
  content_view (Symbol t) = symbol t.items
  content_view (Array' shape row) = array (elements_in row)
  content_view Nil = nil_object
  content_view False = false_object
  content_view True = true_object

  pub elements_in : {m : _} → Row_of-Element m → ElementsView
  elements_in end_of-Element = no_elements
  elements_in (more_of-Element place what rest) = element place (content_view what) (elements_in rest)

abbrev pub element_view : Element → ElementView
element_view e = record { place = e.place; what = content_view e.what }

abbrev pub elements_view : List Element → ElementsView
elements_view [] = no_elements
elements_view (e ∷ es) = element e.place (content_view e.what) (elements_view es)

-- one more element at the end
abbrev pub with_element : ElementsView → ElementView → ElementsView
with_element no_elements e = element e.place e.what no_elements
with_element (element place what rest) e = element place what (with_element rest e)

mutual
  -- an expression
  pub data ExpressionView : Type 0 where
    variable : NameView → ExpressionView
    literal : ElementView → ExpressionView
    block : (names : List NameView) → StatementsView → ExpressionView
    assign : (target : NameView) → ExpressionView → ExpressionView
    send : (receiver : ExpressionView) → MessagesView → ExpressionView

  -- statements, each with whether it stands after ^
  pub data StatementsView : Type 0 where
    no_statements : StatementsView
    statement : (returns : Bool) → ExpressionView → StatementsView → StatementsView

  -- the messages of a cascade, or the one message
  pub data MessagesView : Type 0 where
    no_messages : MessagesView
    message : (selector : List ℕ) → ExpressionsView → MessagesView → MessagesView

  -- the arguments of a message
  pub data ExpressionsView : Type 0 where
    no_expressions : ExpressionsView
    expression : ExpressionView → ExpressionsView → ExpressionsView

abbrev mutual
  pub expression_view : Expression → ExpressionView
  expression_view (Variable n) = variable (name_view n)
  expression_view (Literal e) = literal (element_view e)
  expression_view (Block' names shape row) = block (names_view names.items) (statements_in row)
  expression_view (Assign' target p value) = assign (name_view target) (expression_view value)
  expression_view (Send' p receiver shape row) = send (expression_view receiver) (messages_in row)

  pub statements_in : {m : _} → Row_of-Statement m → StatementsView
  statements_in end_of-Statement = no_statements
  statements_in (more_of-Statement returns value rest) = statement returns (expression_view value) (statements_in rest)

  pub messages_in : {m : _} → Row_of-Message m → MessagesView
  messages_in end_of-Message = no_messages
  messages_in (more_of-Message selector shape row rest) = message selector.items (expressions_in row) (messages_in rest)

  pub expressions_in : {m : _} → Row_of-Expression m → ExpressionsView
  expressions_in end_of-Expression = no_expressions
  expressions_in (more_of-Expression e rest) = expression (expression_view e) (expressions_in rest)

abbrev pub expressions_view : List Expression → ExpressionsView
expressions_view [] = no_expressions
expressions_view (e ∷ es) = expression (expression_view e) (expressions_view es)

abbrev pub statements_view : List Statement → StatementsView
statements_view [] = no_statements
statements_view (s ∷ ss) = statement s.returns (expression_view s.value) (statements_view ss)

abbrev pub messages_view : List Message → MessagesView
messages_view [] = no_messages
messages_view (m ∷ ms) = message m.selector.items (expressions_view m.arguments.items) (messages_view ms)

-- one more expression, statement or message at the end
abbrev pub with_expression : ExpressionsView → ExpressionView → ExpressionsView
with_expression no_expressions e = expression e no_expressions
with_expression (expression first rest) e = expression first (with_expression rest e)

abbrev pub with_statement : StatementsView → Bool → ExpressionView → StatementsView
with_statement no_statements returns e = statement returns e no_statements
with_statement (statement first value rest) returns e = statement first value (with_statement rest returns e)

abbrev pub with_message : MessagesView → List ℕ → ExpressionsView → MessagesView
with_message no_messages selector arguments = message selector arguments no_messages
with_message (message first es rest) selector arguments = message first es (with_message rest selector arguments)

-- one more message to the receiver of a message; another expression stays as it is
abbrev pub with_sent : ExpressionView → List ℕ → ExpressionsView → ExpressionView
with_sent (send receiver ms) selector arguments = send receiver (with_message ms selector arguments)
with_sent (variable n) selector arguments = variable n
with_sent (literal e) selector arguments = literal e
with_sent (block names body) selector arguments = block names body
with_sent (assign target e) selector arguments = assign target e

-- a variable that only stands as the receiver of a message
abbrev pub is_super : ExpressionView → Bool
is_super (variable n) = bytes_eq n.text (codes "super")
is_super _ = false

-- a method
pub record MethodView : Type 0 where
  pub selector : List ℕ
  pub arguments : List NameView
  pub temporaries : List NameView
  pub primitive : Option Signed
  pub body : StatementsView

abbrev pub method_view : MethodTree → MethodView
method_view m = record {
  selector = m.selector.items;
  arguments = names_view m.arguments.items;
  temporaries = names_view m.temporaries.items;
  primitive = m.primitive;
  body = statements_view m.body.items;
}

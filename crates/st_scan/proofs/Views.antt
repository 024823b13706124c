-- The views of trees that are made of their parts.
use Rattle.std.proofs.Common.{◌≡◌, List, [], ◌∷◌, ◌++◌, refl, sym, ap, ◌∙◌}
use Rattle.std.specs.Global.{Vec, Box}
use mathlib.Core.Former.{Count}
use Rattle.st_scan.specs.declared.tree.Name.{Name}
use Rattle.st_scan.specs.declared.tree.Statement.{Statement}
use Rattle.st_scan.specs.declared.tree.Message.{Message}
use Rattle.st_scan.specs.declared.tree.Element.{Element}
use Rattle.st_scan.specs.declared.tree.Content.{Content, Row_of-Element, end_of-Element, more_of-Element, items-the_row-Element, items_hidden-the_row-Element-0}
use Rattle.st_scan.specs.declared.tree.Content.TheVariants.{Array, Array'}
use Rattle.st_scan.specs.declared.tree.Expression.{Expression, Row_of-Statement, end_of-Statement, more_of-Statement, Row_of-Message, end_of-Message, more_of-Message, Row_of-Expression, end_of-Expression, more_of-Expression, items-the_row-Statement, items-the_row-Message, items-the_row-Expression, items_hidden-the_row-Statement-0, items_hidden-the_row-Message-2, items_shown-the_row-Expression-1}
use Rattle.st_scan.specs.declared.tree.Expression.TheVariants.{Block, Block', Assign, Send, Send'}
use Rattle.st_scan.specs.Views.{name_view, names_view, content_view, elements_in, elements_view, element, array, expression_view, statements_in, messages_in, expressions_in, expressions_view, statements_view, messages_view, block, assign, send, statement, message, expression, element_view, with_element, with_expression, with_statement, with_message, ExpressionView, variable, literal, is_super}
use Rattle.st_scan.specs.inside.Placeless.{placeless}

-- the elements of a row are those of the list
elements_row : (n : Count) (row : Row_of-Element n) → elements_in row ≡ elements_view (items-the_row-Element n row)
elements_row n end_of-Element = refl
elements_row n (more_of-Element place what rest) = ap (element place (content_view what)) (elements_row _ rest)

expressions_row : (n : Count) (row : Row_of-Expression n) → expressions_in row ≡ expressions_view (items-the_row-Expression n row)
expressions_row n end_of-Expression = refl
expressions_row n (more_of-Expression e rest) = ap (expression (expression_view e)) (expressions_row _ rest)

statements_row : (n : Count) (row : Row_of-Statement n) → statements_in row ≡ statements_view (items-the_row-Statement n row)
statements_row n end_of-Statement = refl
statements_row n (more_of-Statement returns value rest) = ap (statement returns (expression_view value)) (statements_row _ rest)

messages_row : (n : Count) (row : Row_of-Message n) → messages_in row ≡ messages_view (items-the_row-Message n row)
messages_row n end_of-Message = refl
messages_row n (more_of-Message selector shape row rest) =
    let same = expressions_row _ row ∙ sym (ap expressions_view (items_shown-the_row-Expression-1 shape row)) in
    ap (message selector.items (expressions_in row)) (messages_row _ rest) ∙ ap (λ es. message selector.items es (messages_view (items-the_row-Message _ rest))) same

abbrev elements_of : Content → (n : Count) × Row_of-Element n
elements_of (Array' _ row) = (_, row)
elements_of _ = (_, end_of-Element)

abbrev statements_of : Expression → (n : Count) × Row_of-Statement n
statements_of (Block' _ _ row) = (_, row)
statements_of _ = (_, end_of-Statement)

abbrev messages_of : Expression → (n : Count) × Row_of-Message n
messages_of (Send' _ _ _ row) = (_, row)
messages_of _ = (_, end_of-Message)

pub content_view-array : (es : Vec Element) → content_view (Array es) ≡ array (elements_view es.items)
content_view-array es =
    let row = elements_of (Array es) in
    ap array (elements_row row.0 row.1 ∙ ap elements_view (items_hidden-the_row-Element-0 es))

pub expression_view-block : (names : Vec Name) (body : Vec Statement) → expression_view (Block names body) ≡ block (names_view names.items) (statements_view body.items)
expression_view-block names body =
    let row = statements_of (Block names body) in
    ap (block (names_view names.items)) (statements_row row.0 row.1 ∙ ap statements_view (items_hidden-the_row-Statement-0 body))

pub expression_view-assign : (target : Name) (value : Box Expression) → expression_view (Assign target value) ≡ assign (name_view target) (expression_view value.value)
expression_view-assign target value = refl

pub expression_view-send : (receiver : Box Expression) (messages : Vec Message) → expression_view (Send receiver messages) ≡ send (expression_view receiver.value) (messages_view messages.items)
expression_view-send receiver messages =
    let row = messages_of (Send receiver messages) in
    ap (send (expression_view receiver.value)) (messages_row row.0 row.1 ∙ ap messages_view (items_hidden-the_row-Message-2 messages))

-- one more at the end
pub elements_view-push : (es : List Element) (e : Element) → elements_view (es ++ e ∷ []) ≡ with_element (elements_view es) (element_view e)
elements_view-push [] e = refl
elements_view-push (x ∷ es) e = ap (element x.place (content_view x.what)) (elements_view-push es e)

pub expressions_view-push : (es : List Expression) (e : Expression) → expressions_view (es ++ e ∷ []) ≡ with_expression (expressions_view es) (expression_view e)
expressions_view-push [] e = refl
expressions_view-push (x ∷ es) e = ap (expression (expression_view x)) (expressions_view-push es e)

pub statements_view-push : (ss : List Statement) (s : Statement) → statements_view (ss ++ s ∷ []) ≡ with_statement (statements_view ss) s.returns (expression_view s.value)
statements_view-push [] s = refl
statements_view-push (x ∷ ss) s = ap (statement x.returns (expression_view x.value)) (statements_view-push ss s)

pub messages_view-push : (ms : List Message) (m : Message) → messages_view (ms ++ m ∷ []) ≡ with_message (messages_view ms) m.selector.items (expressions_view m.arguments.items)
messages_view-push [] m = refl
messages_view-push (x ∷ ms) m = ap (message x.selector.items (expressions_view x.arguments.items)) (messages_view-push ms m)

pub ruleset views = (content_view-array, expression_view-block, expression_view-assign, expression_view-send, elements_view-push, expressions_view-push, statements_view-push, messages_view-push)

-- `super` by its name alone
pub is_super-placeless : (e : ExpressionView) → is_super (placeless e) ≡ is_super e
is_super-placeless (variable n) = refl
is_super-placeless (literal e) = refl
is_super-placeless (block ns body) = refl
is_super-placeless (assign target e) = refl
is_super-placeless (send r ms) = refl

-- The parts that are added to a draft, each for a part of a tree as the code holds it; and the number of the next
-- variable behind that part, in the order of the text.
use Rattle.std.specs.Prelude.{◌≡◌, ℕ, ◌+◌, List, length, None, take}
use Rattle.st_scan.specs.declared.tree.Name.{Name}
use Rattle.st_scan.specs.declared.tree.Expression.{Expression}
use Rattle.st_scan.specs.declared.tree.Message.{Message}
use Rattle.st_scan.specs.declared.tree.Statement.{Statement}
use Rattle.st_scan.specs.declared.chain.Link.{Link}
use Rattle.st_scan.specs.Views.{ExpressionView, name_view, names_view, expression_view, expressions_view, messages_view, statements_view}
use Rattle.st_scan.specs.inside.Chains.{link_view, links_view, linked}
use Rattle.st_emit.specs.declared.names.Around.{Around}
use Rattle.st_emit.specs.declared.draft.Draft.{Draft}
use Rattle.st_emit.specs.declared.form.Lookup.{Lookup}
use Rattle.st_emit.specs.declared.shape.Choice.{Choice}
use Rattle.st_emit.specs.declared.shape.Side.{Side}
use Rattle.st_emit.specs.declared.shape.Repetition.{Repetition}
use Rattle.st_emit.specs.declared.instruction.InstructionOperand.{InstructionOperand}
use Rattle.st_emit.specs.Literals.{LiteralView, Naming}
use Rattle.st_emit.specs.Nodes.{is_above}
use Rattle.st_emit.specs.Resolving.{place_of_name, names_in, names_in_all, names_in_messages, names_in_statements}
use Rattle.st_emit.specs.inside.Shapes.{side_view, repetition_view, first_repetition}
use Rattle.st_emit.specs.inside.Drafts.{Part, Adds, Goes}
use Rattle.st_emit.specs.inside.Around.{context, at_number, value_part, effect_part, values_part, message_part, cascade_part, shape_part, link_part, side_part, choice_part, loop_part, block_part, block_body_part, body_part, return_part, method_part, names_in_link, names_in_side, names_in_repetition}

-- the variable of a name
abbrev pub place_at : Around → Name → Naming InstructionOperand
place_at a n = place_of_name (context a) (name_view n)

-- EXPRESSIONS

abbrev pub value_at : Around → Expression → List LiteralView → Part
value_at a e = value_part (context a) (expression_view e)

abbrev pub effect_at : Around → Expression → List LiteralView → Part
effect_at a e = effect_part (context a) (expression_view e)

abbrev pub return_at : Around → Expression → List LiteralView → Part
return_at a e = return_part (context a) (expression_view e)

abbrev pub values_at : Around → List Expression → List LiteralView → Part
values_at a es = values_part (context a) (expressions_view es)

abbrev pub after : Around → Expression → ℕ
after a e = a.next + names_in (expression_view e)

abbrev pub after_all : Around → List Expression → ℕ
after_all a es = a.next + names_in_all (expressions_view es)

-- MESSAGES

abbrev pub message_at : Lookup → Around → Message → List LiteralView → Part
message_at lookup a m = message_part (is_above lookup) (context a) m.selector.items (expressions_view m.arguments.items)

abbrev pub cascade_at : Lookup → Around → List Message → List LiteralView → Part
cascade_at lookup a ms = cascade_part (is_above lookup) (context a) (messages_view ms)

abbrev pub sent_at : Around → Message → List LiteralView → Part
sent_at a m = shape_part (context a) m.selector.items (expressions_view m.arguments.items)

abbrev pub after_messages : Around → List Message → ℕ
after_messages a ms = a.next + names_in_messages (messages_view ms)

-- FORMS

abbrev pub side_at : Around → Side → List LiteralView → Part
side_at a side = side_part (context a) (side_view side)

abbrev pub choice_at : Around → Choice → List LiteralView → Part
choice_at a form = choice_part form.on (context a) (statements_view form.first.now) form.behind (side_view form.other)

abbrev pub loop_at : Around → Repetition → List LiteralView → Part
loop_at a r = loop_part (context a) (repetition_view r)

abbrev pub after_side : ℕ → Side → ℕ
after_side n side = n + names_in_side (side_view side)

abbrev pub after_loop : Around → Repetition → ℕ
after_loop a r = a.next + names_in_repetition (repetition_view r)

-- CHAINS

abbrev pub link_at : Lookup → Around → Link → List LiteralView → Part
link_at lookup a l = link_part (is_above lookup) (context a) (link_view l)

abbrev pub after_link : Around → Link → ℕ
after_link a l = a.next + names_in_link (link_view l)

-- an expression with this first part and these links
abbrev pub chained : Expression → List Link → ExpressionView
chained e ls = linked (expression_view e) (links_view ls)

abbrev pub chain_at : Around → Expression → List Link → List LiteralView → Part
chain_at a e ls = value_part (context a) (chained e ls)

abbrev pub after_chain : Around → Expression → List Link → ℕ
after_chain a e ls = a.next + names_in (chained e ls)

-- a draft with a first part and its first n links more
abbrev pub Begins : Around → Expression → List Link → (n : ℕ) → (old new : Draft) → Type 0
Begins a e ls n old new = Adds (chain_at a e (take n ls)) old new

abbrev pub after_begun : Around → Expression → List Link → (n : ℕ) → ℕ
after_begun a e ls n = after_chain a e (take n ls)

-- no loop begins here
abbrev pub BeginsNoLoop : Expression → List Link → Type 0
BeginsNoLoop e ls = first_repetition (expression_view e) (links_view ls) ≡ None

-- STATEMENTS

abbrev pub body_at : Around → List Statement → List LiteralView → Part
body_at a ss = body_part (context a) (statements_view ss)

abbrev pub method_at : Around → List Statement → List LiteralView → Part
method_at a ss = method_part (context a) (statements_view ss)

abbrev pub after_statements : Around → List Statement → ℕ
after_statements a ss = a.next + names_in_statements (statements_view ss)

-- the statements that are left give what all of them gave, with the number of the next variable
abbrev pub LeadsTo : Around → List Statement → Draft → (n : ℕ) → List Statement → Draft → Type 0
LeadsTo a ss old n rest new = Goes (body_at (at_number n a) rest) new (body_at a ss) old

abbrev pub CountsTo : Around → List Statement → (n : ℕ) → List Statement → Type 0
CountsTo a ss n rest = n + names_in_statements (statements_view rest) ≡ after_statements a ss

-- BLOCKS

abbrev pub block_at : Around → List Name → List Statement → List LiteralView → Part
block_at a ns ss = block_part (context a) (names_view ns) (statements_view ss)

-- its body
abbrev pub code_in : Around → List Name → List Statement → List LiteralView → Part
code_in a ns ss = block_body_part (context a) (names_view ns) (statements_view ss)

abbrev pub after_block : Around → List Name → List Statement → ℕ
after_block a ns ss = a.next + (length ns + names_in_statements (statements_view ss))

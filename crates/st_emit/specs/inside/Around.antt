-- The parts that are added to a draft, each for a part of a tree.
use Rattle.std.specs.Prelude.{ℕ, ◌+◌, Bool, false, List, [], ◌∷◌, ◌++◌, length}
use Rattle.st_scan.specs.declared.token.Signed.{Signed}
use Rattle.st_scan.specs.Views.{NameView, ContentView, ExpressionView, ExpressionsView, MessagesView, StatementsView}
use Rattle.st_scan.specs.Views as views
use Rattle.st_scan.specs.inside.Chains.{LinkView, assigned, sent}
use Rattle.st_emit.specs.declared.names.Around.{Around}
use Rattle.st_emit.specs.declared.instruction.Instruction.TheVariants.{PushConstant}
use Rattle.st_emit.specs.declared.form.TwoSided.TheVariants.{TrueFirst, FalseFirst}
use Rattle.st_emit.specs.declared.level.Level.{Level}
use Rattle.st_emit.specs.inside.NameViews.{names_view, scope_view}
use Rattle.st_emit.specs.Literals.{LiteralView, Naming}
use Rattle.st_emit.specs.Nodes.{Node, Tail, Messages, returns}
use Rattle.st_emit.specs.Resolving.{Context, Message, inside, no_message, expression_node, name_node, content_node, number_node, sending, statements_body, nodes_of, all_nodes, message_nodes, all_plain, sends_tail, messages_of, assign_tail, names_in_messages, names_in_statements}
use Rattle.st_emit.specs.Emitting.{Use, for_value, for_effect, code_of, body_code, nodes_code, messages_code, method_code, send_step, choice, repeat, passes_on, other_side, leaves_on, pop_arguments, block_end, return_code}
use Rattle.st_emit.specs.Depths.{level_of, body_level, nodes_level, messages_level, method_level, return_level, pushed, popped, beside, joined, within}
use Rattle.st_emit.specs.inside.Tails.{tail_code, tail_level}
use Rattle.st_emit.specs.inside.Shapes.{ShapeView, plain, one_sided, two_sided, shape_of, SideView, constant, statements, RepetitionView}
use Rattle.st_emit.specs.inside.Drafts.{Part, part_of, step_part}

abbrev pub context : Around → Context
context a = record { names = names_view a.names.now; scope = scope_view a.scope.now; next = a.next }

-- what a link does, to super or not; a loop is no link
abbrev pub link_tail : (above : Bool) → LinkView → Context → Naming Tail
link_tail above (assigned target) c = assign_tail c target
link_tail above (sent ms) c = sends_tail above false (messages_of ms c)

abbrev pub names_in_link : LinkView → ℕ
names_in_link (assigned target) = 0
names_in_link (sent ms) = names_in_messages ms

-- PARTS

abbrev pub node_part : Use → Naming Node → List LiteralView → Part
node_part u n = part_of (code_of u) (level_of u) n

abbrev pub name_part : Context → NameView → List LiteralView → Part
name_part c n = node_part for_value (name_node c n)

abbrev pub literal_part : ContentView → List LiteralView → Part
literal_part what = node_part for_value (content_node what)

abbrev pub number_part : Signed → List LiteralView → Part
number_part n = node_part for_value (number_node n)

abbrev pub send_part : (above : Bool) → List ℕ → ℕ → List LiteralView → Part
send_part above selector n = part_of (λ s. send_step above s.by n ∷ []) (λ s. popped n) (sending above selector)

abbrev pub value_part : Context → ExpressionView → List LiteralView → Part
value_part c e = node_part for_value (expression_node e c)

abbrev pub effect_part : Context → ExpressionView → List LiteralView → Part
effect_part c e = node_part for_effect (expression_node e c)

abbrev pub values_part : Context → ExpressionsView → List LiteralView → Part
values_part c es = part_of nodes_code nodes_level (all_nodes (nodes_of es c))

abbrev pub body_part : Context → StatementsView → List LiteralView → Part
body_part c ss = part_of body_code body_level (statements_body ss c)

abbrev pub tail_part : Naming Tail → List LiteralView → Part
tail_part t = part_of tail_code tail_level t

abbrev pub link_part : (above : Bool) → Context → LinkView → List LiteralView → Part
link_part above c l = tail_part (link_tail above l c)

-- MESSAGES

abbrev pub message_of : Context → List ℕ → ExpressionsView → Message
message_of c selector es = record { selector = selector; arguments = nodes_of es c; all_blocks = all_plain es }

abbrev pub messages_part : Naming Messages → (above : Bool) → List LiteralView → Part
messages_part ms above = part_of (messages_code above) messages_level ms

-- one message that is no conditional form
abbrev pub message_part : (above : Bool) → Context → List ℕ → ExpressionsView → List LiteralView → Part
message_part above c selector es = messages_part (message_nodes above (message_of c selector es) []) above

abbrev pub cascade_nodes : (above : Bool) → List Message → Naming Messages
cascade_nodes above [] = message_nodes above no_message []
cascade_nodes above (m ∷ ms) = message_nodes above m ms

-- messages to one receiver that are no conditional form
abbrev pub cascade_part : (above : Bool) → Context → MessagesView → List LiteralView → Part
cascade_part above c ms = messages_part (cascade_nodes above (messages_of ms c)) above

-- FORMS

-- the number of the next variable behind n names
abbrev pub at_number : ℕ → Around → Around
at_number n a = record a { next = n }

-- what stands last in a conditional form
abbrev pub side_part : Context → SideView → List LiteralView → Part
side_part c (constant k) = step_part (PushConstant k) pushed
side_part c (statements ss) = body_part c ss

abbrev pub choice_level : (first second : Level → Level) → Level → Level
choice_level first second start = let l = first start in joined l (second (beside start l))

-- a first side, and another one whose variables are numbered from n on
abbrev pub choice_part : (on : Bool) → Context → StatementsView → ℕ → SideView → List LiteralView → Part
choice_part on c first n other ls =
    let a = body_part c first ls in
    let b = side_part (record c { next = n }) other a.literals in
    record { steps = choice on [] a.steps b.steps; literals = b.literals; level = λ l. choice_level a.level b.level (popped 1 l) }

abbrev pub shape_part_of : Context → ShapeView → (otherwise : List LiteralView → Part) → List LiteralView → Part
shape_part_of c plain otherwise = otherwise
shape_part_of c (one_sided side a) otherwise = choice_part (passes_on side) c a (c.next + names_in_statements a) (constant (other_side side))
shape_part_of c (two_sided TrueFirst a b) otherwise = choice_part false c a (c.next + names_in_statements a) (statements b)
shape_part_of c (two_sided FalseFirst a b) otherwise = choice_part false (record c { next = c.next + names_in_statements a }) b c.next (statements a)

-- one message to another receiver than super
abbrev pub shape_part : Context → List ℕ → ExpressionsView → List LiteralView → Part
shape_part c selector es = shape_part_of c (shape_of selector es) (message_part false c selector es)

abbrev pub names_in_side : SideView → ℕ
names_in_side (constant k) = 0
names_in_side (statements ss) = names_in_statements ss

-- a loop
abbrev pub loop_part : Context → RepetitionView → List LiteralView → Part
loop_part c r ls =
    let x = body_part c r.condition ls in
    let a = body_part (record c { next = c.next + names_in_statements r.condition }) r.body x.literals in
    record {
      steps = repeat (leaves_on r.kind) x.steps a.steps;
      literals = a.literals;
      level = λ l. let start = popped 1 (x.level l) in pushed (beside start (a.level start));
    }

abbrev pub names_in_repetition : RepetitionView → ℕ
names_in_repetition r = names_in_statements r.condition + names_in_statements r.body

-- BLOCKS

-- the arguments of a block are popped, the last first
abbrev pub arguments_part : (first n : ℕ) → List LiteralView → Part
arguments_part first n ls = record { steps = pop_arguments first n; literals = ls; level = popped n }

abbrev pub block_body_part : Context → List NameView → StatementsView → List LiteralView → Part
block_body_part c ns ss ls =
    let b = statements_body ss (inside c ns) ls in
    record {
      steps = pop_arguments c.next (length ns) ++ (body_code b.part ++ block_end (returns b.part));
      literals = b.literals;
      level = λ outside. body_level b.part (popped (length ns) (within (length ns) outside));
    }

abbrev pub block_part : Context → List NameView → StatementsView → List LiteralView → Part
block_part c ns ss = value_part c (views.block ns ss)

-- RETURNS

abbrev pub return_part : Context → ExpressionView → List LiteralView → Part
return_part c e ls =
    let n = expression_node e c ls in
    record { steps = return_code n.part (code_of for_value n.part); literals = n.literals; level = λ l. return_level n.part l (level_of for_value n.part l) }

-- the statements of a method
abbrev pub method_part : Context → StatementsView → List LiteralView → Part
method_part c ss = part_of method_code method_level (statements_body ss c)

-- From a tree to its nodes: what names mean, which numbers variables have, and which places literals have.
use Rattle.std.specs.Prelude.{ℕ, ◌+◌, Bool, true, false, not, ◌&&◌, ◌==◌, List, [], ◌∷◌, length, map, Option, Some, None, if◌then◌else◌, codes, bytes_eq}
use Rattle.st_scan.specs.declared.token.Signed.{Signed}
use Rattle.st_scan.specs.Views.{NameView, ContentView, ElementView, ExpressionView, StatementsView, MessagesView, ExpressionsView, is_super}
use Rattle.st_scan.specs.Views as views
use Rattle.st_emit.specs.declared.instruction.Constant.{Constant}
use Rattle.st_emit.specs.declared.instruction.InstructionOperand.{InstructionOperand}
use Rattle.st_emit.specs.declared.instruction.InstructionOperand.TheVariants.{Field, Temporary, Shared}
use Rattle.st_emit.specs.declared.form.By.{By}
use Rattle.st_emit.specs.declared.form.By.TheVariants.{Special, SelectorAt}
use Rattle.st_emit.specs.declared.form.OneSided.TheVariants.{IfTrue, IfFalse, And, Or}
use Rattle.st_emit.specs.declared.form.TwoSided.TheVariants.{TrueFirst, FalseFirst}
use Rattle.st_emit.specs.declared.form.Loop.TheVariants.{WhileTrue, WhileFalse}
use Rattle.st_emit.specs.declared.form.Form.{Form}
use Rattle.st_emit.specs.declared.form.Form.TheVariants.{Message as Plain, One, Two, Repeated}
use Rattle.st_emit.specs.Names.{NamesView, Scope, Variable, temporary, field, shared, constant_named, variable_named, field_from, declared}
use Rattle.st_emit.specs.Selectors.{special_sends}
use Rattle.st_emit.specs.Literals.{LiteralView, number, symbol, named, literal_of, small_number, Naming, given, ◌>>=◌, named_literal}
use Rattle.st_emit.specs.Nodes.{Sending, Node, constant, small, literal, variable, block, Body, nothing, last, next, returned, Messages, only, also, Nodes, none, node, body_of, Tail, assigned, sent, sided, chosen, looped, with_tail}

-- what stands around a part of a tree: the names of the class, those declared there, and the number of the next variable
-- in the order of the text
pub record Context : Type 0 where
  pub names : NamesView
  pub scope : Scope
  pub next : ℕ

-- behind a part that declares n names
abbrev pub behind : Context → ℕ → Context
behind c n = record c { next = c.next + n }

-- in a block with these arguments
abbrev pub inside : Context → List NameView → Context
inside c [] = c
inside c (n ∷ ns) = record c { scope = declared false c.next (n ∷ ns) c.scope; next = c.next + length (n ∷ ns) }

-- How many block arguments a part of a tree declares. Nothing that stands behind the statement after ^ counts or has
-- code.
abbrev mutual
  pub names_in : ExpressionView → ℕ
  names_in (views.variable n) = 0
  names_in (views.literal e) = 0
  names_in (views.block ns body) = length ns + names_in_statements body
  names_in (views.assign target e) = names_in e
  names_in (views.send r ms) = names_in r + names_in_messages ms

  pub names_in_statements : StatementsView → ℕ
  names_in_statements views.no_statements = 0
  names_in_statements (views.statement true e ss) = names_in e
  names_in_statements (views.statement false e ss) = names_in e + names_in_statements ss

  pub names_in_messages : MessagesView → ℕ
  names_in_messages views.no_messages = 0
  names_in_messages (views.message s es ms) = names_in_all es + names_in_messages ms

  pub names_in_all : ExpressionsView → ℕ
  names_in_all views.no_expressions = 0
  names_in_all (views.expression e es) = names_in e + names_in_all es

-- VARIABLES AND LITERALS

-- a variable; an association is named among the literals
abbrev pub variable_place : Variable → Naming InstructionOperand
variable_place (temporary n assignable) = given (Temporary n)
variable_place (field n) = given (Field n)
variable_place (shared association) = do
  place ← named_literal (named association)
  given (Shared place)

-- what is meant by a name that means something
abbrev pub place_named : Option Variable → Naming InstructionOperand
place_named None = given (Temporary 0)
place_named (Some v) = variable_place v

abbrev pub place_of_name : Context → NameView → Naming InstructionOperand
place_of_name c n = place_named (variable_named c.names c.scope n.text)

abbrev pub constant_or : Option Constant → Naming InstructionOperand → Naming Node
constant_or (Some k) place = given (constant k)
constant_or None place = do
  p ← place
  given (variable p)

abbrev pub name_node : Context → NameView → Naming Node
name_node c n = constant_or (constant_named n.text) (place_of_name c n)

abbrev pub literal_node : LiteralView → Naming Node
literal_node l = do
  place ← named_literal l
  given (literal l place)

abbrev pub small_or : Option ℕ → Signed → Naming Node
small_or (Some k) n = given (small k)
small_or None n = literal_node (number n)

abbrev pub number_node : Signed → Naming Node
number_node n = small_or (small_number n) n

abbrev pub content_node : ContentView → Naming Node
content_node (views.number n) = number_node n
content_node what = literal_node (literal_of what)

-- MESSAGES

-- the special selectors, which have codes of their own
abbrev pub special_selectors : List (List ℕ)
special_selectors = map (λ s. s.0) special_sends

-- the code of the first one; and the place of blockCopy:, which only blocks send
abbrev pub first_special : ℕ
first_special = 176

abbrev pub block_copy : ℕ
block_copy = 24

abbrev pub special_selector : List ℕ → Option ℕ
special_selector text = field_from 0 special_selectors text

-- the code of a special selector; only blocks send blockCopy: by its code
abbrev pub code_at : Option ℕ → Option ℕ
code_at None = None
code_at (Some n) = if n == block_copy then None else Some (first_special + n)

abbrev pub special_code : List ℕ → Option ℕ
special_code text = code_at (special_selector text)

abbrev pub by_literal : List ℕ → Naming By
by_literal text = do
  place ← named_literal (symbol text)
  given (SelectorAt place)

abbrev pub by_code : Option ℕ → Naming By → Naming By
by_code (Some code) otherwise = given (Special code)
by_code None otherwise = otherwise

-- a message to super is sent by its selector
abbrev pub by_selector : (above : Bool) → List ℕ → Naming By
by_selector true text = by_literal text
by_selector false text = by_code (special_code text) (by_literal text)

abbrev pub sending : (above : Bool) → List ℕ → Naming Sending
sending above text = do
  by ← by_selector above text
  given (record { selector = text; by = by })

-- a message of a tree, with the nodes of its arguments; whether they are all blocks without arguments
pub record Message : Type 0 where
  pub selector : List ℕ
  pub arguments : List (Naming Node)
  pub all_blocks : Bool

abbrev pub all_nodes : List (Naming Node) → Naming Nodes
all_nodes [] = given none
all_nodes (e ∷ es) = do
  n ← e
  ns ← all_nodes es
  given (node n ns)

-- messages to one receiver, a first and others
abbrev pub message_nodes : (above : Bool) → Message → List Message → Naming Messages
message_nodes above m [] = do
  ns ← all_nodes m.arguments
  s ← sending above m.selector
  given (only s ns)
message_nodes above m (next_one ∷ ms) = do
  ns ← all_nodes m.arguments
  s ← sending above m.selector
  rest ← message_nodes above next_one ms
  given (also s ns rest)

-- messages that are no conditional form
abbrev pub plain_tail : (above : Bool) → Message → List Message → Naming Tail
plain_tail above m ms = do
  messages ← message_nodes above m ms
  given (sent above messages)

-- FORMS

abbrev pub form_named : List ℕ → Form
form_named text =
    if bytes_eq text (codes "ifTrue:") then One IfTrue
    else (if bytes_eq text (codes "ifFalse:") then One IfFalse
    else (if bytes_eq text (codes "and:") then One And
    else (if bytes_eq text (codes "or:") then One Or
    else (if bytes_eq text (codes "ifTrue:ifFalse:") then Two TrueFirst
    else (if bytes_eq text (codes "ifFalse:ifTrue:") then Two FalseFirst
    else (if bytes_eq text (codes "whileTrue:") then Repeated WhileTrue
    else (if bytes_eq text (codes "whileFalse:") then Repeated WhileFalse
    else Plain)))))))

-- The conditional forms of one message, whose arguments are blocks without arguments. Of ifFalse:ifTrue: the second
-- block's code stands first.
abbrev pub formed : Form → (is_block : Bool) → List (Naming Node) → (otherwise : Naming Tail) → Naming Tail
formed (One side) is_block (a ∷ []) otherwise = do
  first ← a
  given (sided side (body_of first))
formed (Two TrueFirst) is_block (a ∷ b ∷ []) otherwise = do
  first ← a
  second ← b
  given (chosen TrueFirst (body_of first) (body_of second))
formed (Two FalseFirst) is_block (a ∷ b ∷ []) otherwise = do
  second ← b
  first ← a
  given (chosen FalseFirst (body_of first) (body_of second))
formed (Repeated kind) true (a ∷ []) otherwise = do
  first ← a
  given (looped kind (body_of first))
formed form is_block arguments otherwise = otherwise

-- one message to a receiver: whether that is super, and whether it is a block without arguments
abbrev pub single_tail : (above is_block : Bool) → Message → Naming Tail
single_tail above is_block m =
    let otherwise = plain_tail above m [] in
    if not above && m.all_blocks then formed (form_named m.selector) is_block m.arguments otherwise else otherwise

-- no tree of a text has a send without messages
abbrev pub no_message : Message
no_message = record { selector = []; arguments = []; all_blocks = false }

-- the messages of a send
abbrev pub sends_tail : (above is_block : Bool) → List Message → Naming Tail
sends_tail above is_block [] = plain_tail above no_message []
sends_tail above is_block (m ∷ []) = single_tail above is_block m
sends_tail above is_block (m ∷ next_one ∷ ms) = plain_tail above m (next_one ∷ ms)

-- an assignment
abbrev pub assign_tail : Context → NameView → Naming Tail
assign_tail c target = do
  place ← place_of_name c target
  given (assigned place)

abbrev pub tailed : Naming Node → Naming Tail → Naming Node
tailed m tail = do
  n ← m
  t ← tail
  given (with_tail n t)

-- TREES

-- a block without arguments
abbrev pub is_plain : ExpressionView → Bool
is_plain (views.block [] body) = true
is_plain _ = false

abbrev pub all_plain : ExpressionsView → Bool
all_plain views.no_expressions = true
all_plain (views.expression e es) = is_plain e && all_plain es

-- a statement before others
abbrev pub before : Node → Body → Body
before n nothing = last n
before n b = next n b

-- the count of a block's arguments, as a number
abbrev pub count_node : ℕ → Naming Node
count_node n = number_node (record { minus = false; size = n })

abbrev mutual
  pub expression_node : ExpressionView → Context → Naming Node
  expression_node (views.variable n) c = name_node c n
  expression_node (views.literal e) c = content_node e.what
  expression_node (views.block ns body) c = do
    n ← count_node (length ns)
    b ← statements_body body (inside c ns)
    given (block c.next (length ns) n b)
  expression_node (views.assign target e) c = tailed (expression_node e c) (assign_tail c target)
  expression_node (views.send r ms) c = tailed (expression_node r c) (sends_tail (is_super r) (is_plain r) (messages_of ms (behind c (names_in r))))

  pub statements_body : StatementsView → Context → Naming Body
  statements_body views.no_statements c = given nothing
  statements_body (views.statement true e ss) c = do
    n ← expression_node e c
    given (returned n)
  statements_body (views.statement false e ss) c = do
    n ← expression_node e c
    b ← statements_body ss (behind c (names_in e))
    given (before n b)

  pub messages_of : MessagesView → Context → List Message
  messages_of views.no_messages c = []
  messages_of (views.message s es ms) c = record { selector = s; arguments = nodes_of es c; all_blocks = all_plain es } ∷ messages_of ms (behind c (names_in_all es))

  pub nodes_of : ExpressionsView → Context → List (Naming Node)
  nodes_of views.no_expressions c = []
  nodes_of (views.expression e es) c = expression_node e c ∷ nodes_of es (behind c (names_in e))

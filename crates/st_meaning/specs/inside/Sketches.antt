-- Nodes of an arena as they are made, each of a part of a tree.
use Rattle.std.specs.Prelude.{◌≡◌, ◌≤◌, ℕ, ◌+◌, Bool, false, List, [], ◌∷◌, length, slice_get, Some, take}
use Rattle.st_scan.specs.declared.tree.Expression.{Expression}
use Rattle.st_scan.specs.declared.tree.Message.{Message as Sent}
use Rattle.st_scan.specs.declared.tree.Statement.{Statement}
use Rattle.st_scan.specs.declared.chain.Link.{Link}
use Rattle.st_scan.specs.Views.{MethodView, expression_view, expressions_view, messages_view, statements_view, message, no_messages}
use Rattle.st_scan.specs.inside.Chains.{link_view, sent as sent_link}
use Rattle.st_emit.specs.declared.names.Around.{Around}
use Rattle.st_emit.specs.declared.shape.Repetition.{Repetition}
use Rattle.st_emit.specs.declared.form.TwoSided.{TwoSided}
use Rattle.st_emit.specs.declared.form.TwoSided.TheVariants.{TrueFirst, FalseFirst}
use Rattle.st_emit.specs.Names.{NamesView}
use Rattle.st_emit.specs.Literals.{LiteralView, Naming, given, ◌>>=◌}
use Rattle.st_emit.specs.inside.Views.{literals_view}
use Rattle.st_emit.specs.inside.NameViews.{scope_view}
use Rattle.st_emit.specs.Nodes.{Node, loop, Body, Tail, chosen, Nodes, Sending}
use Rattle.st_emit.specs.Resolving.{Message as Resolved, all_nodes, sending, expression_node, nodes_of, messages_of, statements_body, names_in_statements}
use Rattle.st_emit.specs.inside.Around.{context, at_number, message_of, link_tail}
use Rattle.st_emit.specs.inside.Emits.{chained}
use Rattle.st_code.specs.Methods.{body}
use Rattle.st_resolved.specs.inside.Seen.{AllBelow, numbers}
use Rattle.st_meaning.specs.declared.arena.Statements.{Statements}
use Rattle.st_meaning.specs.declared.arena.Message.{Message}
use Rattle.st_meaning.specs.declared.arena.Act.{Act}
use Rattle.st_meaning.specs.declared.sketch.Sketch.{Sketch}
use Rattle.st_meaning.specs.inside.Meanings.{most}
use Rattle.st_meaning.specs.inside.Arenas.{Meaning, runs_of}
use Rattle.st_meaning.specs.inside.Meant.{IsAct, IsMessage, IsMessages, IsBody}

-- WHAT IS MADE

abbrev pub literals_of : Sketch → List LiteralView
literals_of s = literals_view s.draft.literals.items

abbrev pub runs_in : Sketch → List Meaning
runs_in s = runs_of most s.nodes.items

-- what stands at a place stands there still
abbrev pub Extends : (old new : List Meaning) → Type 0
Extends old new = (i : ℕ) (m : Meaning) → slice_get old i ≡ Some m → slice_get new i ≡ Some m

-- what stands in a sketch stands there still, with no fewer literals
pub record Keeps (old new : Sketch) : Type 0 where
  pub nodes : Extends (runs_in old) (runs_in new)
  pub literals : length (literals_of old) ≤ length (literals_of new)

-- a sketch whose nodes stand among these, with literals whose places have 8 bits
pub record Stands (s : Sketch) (ms : List Meaning) : Type 0 where
  pub nodes : Extends (runs_in s) ms
  pub few : length (literals_of s) ≤ 256

-- a sketch with a part more, which holds whatever stands behind it
pub record Builds {A : Type 0} (naming : Naming A) (Is : List Meaning → A → Type 0) (old new : Sketch) : Type 0 where
  pub literals : literals_of new ≡ (naming (literals_of old)).literals
  pub keeps : Keeps old new
  pub part : (ms : List Meaning) → Stands new ms → Is ms (naming (literals_of old)).part

-- the variables that are declared have numbers of 8 bits
abbrev pub IsFew : Around → Type 0
IsFew a = AllBelow 256 (numbers (scope_view a.scope.now))

-- MESSAGES

-- a message of a tree: its arguments, and then how it is sent
abbrev pub message_named : (above : Bool) → Resolved → Naming (Sending × Nodes)
message_named above m = do
  ns ← all_nodes m.arguments
  s ← sending above m.selector
  given (s, ns)

-- messages to one receiver, each as it is sent
abbrev pub messages_named : (above : Bool) → List Resolved → Naming (List (Sending × Nodes))
messages_named above [] = given []
messages_named above (m ∷ ms) = do
  p ← message_named above m
  ps ← messages_named above ms
  given (p ∷ ps)

-- THE PARTS OF A TREE, as the code holds them

abbrev pub node_naming : Around → Expression → Naming Node
node_naming a e = expression_node (expression_view e) (context a)

abbrev pub chain_naming : Around → Expression → List Link → Naming Node
chain_naming a e ls = expression_node (chained e ls) (context a)

-- an expression with its first n links
abbrev pub begun_naming : Around → Expression → List Link → (n : ℕ) → Naming Node
begun_naming a e ls n = chain_naming a e (take n ls)

abbrev pub arguments_naming : Around → List Expression → Naming Nodes
arguments_naming a es = all_nodes (nodes_of (expressions_view es) (context a))

abbrev pub message_naming : (above : Bool) → Around → Sent → Naming (Sending × Nodes)
message_naming above a m = message_named above (message_of (context a) m.selector.items (expressions_view m.arguments.items))

abbrev pub cascade_naming : (above : Bool) → Around → List Sent → Naming (List (Sending × Nodes))
cascade_naming above a ms = messages_named above (messages_of (messages_view ms) (context a))

abbrev pub MakesMessage : (above : Bool) → Around → Sent → (old new : Sketch) → Message → Type 0
MakesMessage above a m old new made = Builds (message_naming above a m) (IsMessage above made) old new

abbrev pub MakesMessages : (above : Bool) → Around → List Sent → (old new : Sketch) → List Message → Type 0
MakesMessages above a ms old new made = Builds (cascade_naming above a ms) (IsMessages above made) old new

abbrev pub messages_naming : (above : Bool) → Around → List Sent → Naming Tail
messages_naming above a ms = link_tail above (sent_link (messages_view ms)) (context a)

abbrev pub MakesSends : (above : Bool) → Around → List Sent → (old new : Sketch) → Act → Type 0
MakesSends above a ms old new act = Builds (messages_naming above a ms) (IsAct act) old new

abbrev pub sent_naming : Around → Sent → Naming Tail
sent_naming a m = link_tail false (sent_link (message m.selector.items (expressions_view m.arguments.items) no_messages)) (context a)

abbrev pub link_naming : (above : Bool) → Around → Link → Naming Tail
link_naming above a l = link_tail above (link_view l) (context a)

abbrev pub body_naming : Around → List Statement → Naming Body
body_naming a ss = statements_body (statements_view ss) (context a)

-- two blocks, of which the one for true stands first
abbrev pub two_naming : TwoSided → (first second : Around) → List Statement → List Statement → Naming Tail
two_naming TrueFirst c d a b = do
  x ← body_naming c a
  y ← body_naming d b
  given (chosen TrueFirst x y)
two_naming FalseFirst c d a b = do
  y ← body_naming d b
  x ← body_naming c a
  given (chosen FalseFirst x y)

abbrev pub loop_naming : Around → Repetition → Naming Node
loop_naming a r = do
  x ← body_naming a r.condition.now
  y ← body_naming (at_number (a.next + names_in_statements (statements_view r.condition.now)) a) r.body.now
  given (loop r.kind x y)

-- the nodes of a method's statements
abbrev pub IsSketchOf : MethodView → NamesView → Sketch → Statements → Type 0
IsSketchOf t names sketch s = IsBody s (runs_in sketch) (body t names).part

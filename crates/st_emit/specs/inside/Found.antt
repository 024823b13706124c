-- What is found in a part of a tree, as the code holds it.
use Rattle.std.specs.Prelude.{◌≡◌, ℕ, ◌<◌, false, List, [], length, Option, MatchOption}
use Rattle.std.specs.Borrow.{Bor}
use denote.Param.Weighed.{most}
use Rattle.st_scan.specs.declared.tree.Name.{Name}
use Rattle.st_scan.specs.declared.tree.Expression.{Expression}
use Rattle.st_scan.specs.declared.tree.Message.{Message, size-Message}
use Rattle.st_scan.specs.declared.tree.Statement.{Statement, size-Statement}
use Rattle.st_scan.specs.declared.chain.Link.{Link}
use Rattle.st_scan.specs.Views.{name_view, expression_view, expressions_view, messages_view, statements_view, assign, block, statement, message}
use Rattle.st_scan.specs.inside.Chains.{link_view, links_view, sent}
use Rattle.st_emit.specs.declared.form.Lookup.{Lookup}
use Rattle.st_emit.specs.Nodes.{is_above}
use Rattle.st_emit.specs.Resolving.{is_plain}
use Rattle.st_emit.specs.inside.Shapes.{ShapeView, RepetitionView, shape_of, repeated, repetition_with, repetition_of, first_repetition, IsEnd, IsNoAssignment, IsCascade, IsOnly}

-- how deep statements and messages are
abbrev pub statements_size : List Statement → ℕ
statements_size ss = most size-Statement ss

abbrev pub messages_size : List Message → ℕ
messages_size ms = most size-Message ms

-- BLOCKS

abbrev pub IsNotPlain : Expression → Type 0
IsNotPlain e = is_plain (expression_view e) ≡ false

-- a block without arguments, and its statements
abbrev pub IsPlain : Expression → List Statement → Type 0
IsPlain e ss = expression_view e ≡ block [] (statements_view ss)

-- FORMS

abbrev pub message_shape : Message → ShapeView
message_shape m = shape_of m.selector.items (expressions_view m.arguments.items)

-- the loop of a receiver and an argument
abbrev pub loop_of : Message → (receiver argument : Expression) → Option RepetitionView
loop_of m e a = repeated m.selector.items (expression_view e) (expression_view a)

-- the loop of a receiver and its message, its messages or its first link
abbrev pub loop_by : Message → Expression → Option RepetitionView
loop_by m e = repetition_with m.selector.items (expressions_view m.arguments.items) (expression_view e)

abbrev pub loop_among : List Message → Expression → Option RepetitionView
loop_among ms e = repetition_of (expression_view e) (sent (messages_view ms))

abbrev pub loop_linked : Link → Expression → Option RepetitionView
loop_linked l e = repetition_of (expression_view e) (link_view l)

abbrev pub first_loop : List Link → Expression → Option RepetitionView
first_loop ls e = first_repetition (expression_view e) (links_view ls)

-- STATEMENTS AND MESSAGES

abbrev pub IsUnassigned : Expression → Type 0
IsUnassigned e = IsNoAssignment (expression_view e)

abbrev pub IsAssignment : Expression → Name → Expression → Type 0
IsAssignment e target value = expression_view e ≡ assign (name_view target) (expression_view value)

-- a first statement that doesn't return, and the others
abbrev pub IsBefore : List Statement → Expression → List Statement → Type 0
IsBefore ss e others = statements_view ss ≡ statement false (expression_view e) (statements_view others)

abbrev pub EndsAtOnce : List Statement → Type 0
EndsAtOnce ss = 0 < length ss → IsEnd (statements_view ss)

-- a first message and the others
abbrev pub IsFirstOf : List Message → Message → List Message → Type 0
IsFirstOf ms m others = messages_view ms ≡ message m.selector.items (expressions_view m.arguments.items) (messages_view others)

-- the one message of these, or none where they are a cascade or go to super
abbrev pub IsOnlyOrNone : Lookup → List Message → Option (Bor Message) → Type 0
IsOnlyOrNone lookup ms found =
    MatchOption found (IsCascade (is_above lookup) (messages_view ms))
    (λ m. IsOnly (is_above lookup) (messages_view ms) m.now.selector.items (expressions_view m.now.arguments.items))

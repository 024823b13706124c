-- Which form a message has, from its parts in the tree.
use Rattle.std.specs.Prelude.{◌≡◌, ℕ, Bool, true, false, List, [], ◌∷◌, Option, Some, None, if◌then◌else◌}
use Rattle.st_scan.specs.Views.{ExpressionView, ExpressionsView, StatementsView, MessagesView, no_statements, statement, no_expressions, expression, message, no_messages, statements_view}
use Rattle.st_scan.specs.Views as views
use Rattle.st_scan.specs.inside.Chains.{LinkView, sent}
use Rattle.st_emit.specs.declared.instruction.Constant.{Constant}
use Rattle.st_emit.specs.declared.instruction.Constant.TheVariants.{Context}
use Rattle.st_emit.specs.declared.form.OneSided.{OneSided}
use Rattle.st_emit.specs.declared.form.TwoSided.{TwoSided}
use Rattle.st_emit.specs.declared.form.Loop.{Loop}
use Rattle.st_emit.specs.declared.form.Form.{Form}
use Rattle.st_emit.specs.declared.form.Form.TheVariants.{One, Two, Repeated}
use Rattle.st_emit.specs.declared.shape.Shape.{Shape}
use Rattle.st_emit.specs.declared.shape.Shape.TheVariants as shapes
use Rattle.st_emit.specs.declared.shape.Side.{Side}
use Rattle.st_emit.specs.declared.shape.Side.TheVariants as sides
use Rattle.st_emit.specs.declared.shape.Repetition.{Repetition}
use Rattle.st_emit.specs.Names.{constant_named}
use Rattle.st_emit.specs.Resolving.{form_named, is_plain}

-- the statements of a block
abbrev pub statements_of : ExpressionView → StatementsView
statements_of (views.block names body) = body
statements_of _ = no_statements

-- a message that is sent, or a conditional form with the statements of its blocks
pub data ShapeView : Type 0 where
  plain : ShapeView
  one_sided : OneSided → StatementsView → ShapeView
  two_sided : TwoSided → StatementsView → StatementsView → ShapeView

abbrev pub shape_view : Shape → ShapeView
shape_view shapes.Plain = plain
shape_view (shapes.One side a) = one_sided side (statements_view a.now)
shape_view (shapes.Two side a b) = two_sided side (statements_view a.now) (statements_view b.now)

abbrev pub one_sided_shape : OneSided → ExpressionsView → ShapeView
one_sided_shape side (expression a no_expressions) = if is_plain a then one_sided side (statements_of a) else plain
one_sided_shape side _ = plain

abbrev pub two_sided_shape : TwoSided → ExpressionsView → ShapeView
two_sided_shape side (expression a (expression b no_expressions)) =
    if is_plain a then (if is_plain b then two_sided side (statements_of a) (statements_of b) else plain) else plain
two_sided_shape side _ = plain

abbrev pub formed_shape : Form → ExpressionsView → ShapeView
formed_shape (One side) es = one_sided_shape side es
formed_shape (Two side) es = two_sided_shape side es
formed_shape _ es = plain

-- the shape of one message to another receiver than super
abbrev pub shape_of : List ℕ → ExpressionsView → ShapeView
shape_of selector es = formed_shape (form_named selector) es

-- a loop, with the statements of its two blocks
pub record RepetitionView : Type 0 where
  pub kind : Loop
  pub condition : StatementsView
  pub body : StatementsView

abbrev pub repetition_view : Repetition → RepetitionView
repetition_view r = record { kind = r.kind; condition = statements_view r.condition.now; body = statements_view r.body.now }

abbrev pub repeated_by : Form → StatementsView → StatementsView → Option RepetitionView
repeated_by (Repeated kind) x a = Some (record { kind = kind; condition = x; body = a })
repeated_by _ x a = None

abbrev pub repeated : List ℕ → (receiver argument : ExpressionView) → Option RepetitionView
repeated selector e a = if is_plain e then (if is_plain a then repeated_by (form_named selector) (statements_of e) (statements_of a) else None) else None

abbrev pub repetition_with : List ℕ → ExpressionsView → ExpressionView → Option RepetitionView
repetition_with selector (expression a no_expressions) e = repeated selector e a
repetition_with selector _ e = None

-- the loop that an expression is with its first link
abbrev pub repetition_of : ExpressionView → LinkView → Option RepetitionView
repetition_of e (sent (message selector es no_messages)) = repetition_with selector es e
repetition_of e _ = None

-- the loop that an expression begins with
abbrev pub first_repetition : ExpressionView → List LinkView → Option RepetitionView
first_repetition e [] = None
first_repetition e (l ∷ ls) = repetition_of e l

-- what stands last in a conditional form
pub data SideView : Type 0 where
  constant : Constant → SideView
  statements : StatementsView → SideView

abbrev pub side_view : Side → SideView
side_view (sides.Constant k) = constant k
side_view (sides.Statements ss) = statements (statements_view ss.now)

-- STATEMENTS

-- a statement stands after ^
abbrev pub returning : StatementsView → Bool
returning no_statements = false
returning (statement true e ss) = true
returning (statement false e ss) = returning ss

-- no statement counts behind the first
abbrev pub IsEnd : StatementsView → Type 0
IsEnd no_statements = ⊥
IsEnd (statement true e ss) = Unit {0}
IsEnd (statement false e no_statements) = Unit {0}
IsEnd (statement false e (statement returns f ss)) = ⊥

abbrev pub but_context : Option Constant → Option Constant
but_context (Some Context) = None
but_context k = k

-- the constant that is returned by a code of its own
abbrev pub returned_constant : ExpressionView → Option Constant
returned_constant (views.variable n) = but_context (constant_named n.text)
returned_constant _ = None

abbrev pub IsNoAssignment : ExpressionView → Type 0
IsNoAssignment (views.assign target e) = ⊥
IsNoAssignment _ = Unit {0}

-- MESSAGES

-- messages to super, or not just one message
abbrev pub IsCascade : (above : Bool) → MessagesView → Type 0
IsCascade true ms = Unit {0}
IsCascade false no_messages = Unit {0}
IsCascade false (message selector es no_messages) = ⊥
IsCascade false (message selector es (message other fs ms)) = Unit {0}

-- one message to another receiver than super
pub record IsOnly (above : Bool) (ms : MessagesView) (selector : List ℕ) (es : ExpressionsView) : Type 0 where
  pub not_above : above ≡ false
  pub view : ms ≡ message selector es no_messages

-- The faults of names and numbers, each at its token: the first one in the text.
use Rattle.std.specs.Prelude.{ℕ, ◌+◌, Bool, true, false, ◌&&◌, nat_lt, List, [], ◌∷◌, Option, Some, None, is_some, if◌then◌else◌}
use Rattle.st_scan.specs.declared.token.Signed.{Signed}
use Rattle.st_scan.specs.Views.{NameView, ContentView, ElementsView, ElementView, ExpressionView, StatementsView, MessagesView, ExpressionsView, MethodView}
use Rattle.st_scan.specs.Views as views
use Rattle.st_emit.specs.Bounds.{least_size}
use Rattle.st_code.specs.declared.fault.Fault.{Fault}
use Rattle.st_code.specs.declared.fault.Cause.{Cause}
use Rattle.st_code.specs.declared.fault.Cause.TheVariants.{Unknown, Twice, Store, Number}
use Rattle.st_emit.specs.Names.{NamesView, Scope, Variable, temporary, constant_named, declared_as, declared, variable_named, or_else}

abbrev pub fault_at : ℕ → Cause → Option Fault
fault_at place cause = Some (record { place = place; cause = cause })

-- NAMES

-- a name that is read: it has to mean something
abbrev pub read_fault : NamesView → Scope → NameView → Option Fault
read_fault names scope n = if is_some (constant_named n.text) then None else (if is_some (variable_named names scope n.text) then None else fault_at n.place Unknown)

-- a name that is stored into: it has to mean what may be stored into
abbrev pub stored_fault : ℕ → Option Variable → Option Fault
stored_fault place None = fault_at place Unknown
stored_fault place (Some (temporary n false)) = fault_at place Store
stored_fault place _ = None

abbrev pub store_fault : NamesView → Scope → NameView → Option Fault
store_fault names scope n = if is_some (constant_named n.text) then fault_at n.place Store else stored_fault n.place (variable_named names scope n.text)

abbrev pub twice_fault : Scope → NameView → Option Fault
twice_fault scope n = if is_some (declared_as scope n.text) then fault_at n.place Twice else None

-- names that are declared one after the other: none may be in scope already
abbrev pub declare_fault : ℕ → List NameView → Scope → Option Fault
declare_fault k [] scope = None
declare_fault k (n ∷ ns) scope = or_else (twice_fault scope n) (declare_fault (k + 1) ns (declared false k (n ∷ []) scope))

-- NUMBERS

-- a number below the least one
abbrev pub is_too_low : Signed → Bool
is_too_low n = n.minus && nat_lt least_size n.size

abbrev mutual
  pub content_fault : ℕ → ContentView → Option Fault
  content_fault place (views.number n) = if is_too_low n then fault_at place Number else None
  content_fault place (views.array es) = elements_fault es
  content_fault place _ = None

  pub elements_fault : ElementsView → Option Fault
  elements_fault views.no_elements = None
  elements_fault (views.element place what es) = or_else (content_fault place what) (elements_fault es)

-- TREES

module _ (names : NamesView) where
  abbrev mutual
    pub expression_fault : ExpressionView → Scope → Option Fault
    expression_fault (views.variable n) scope = read_fault names scope n
    expression_fault (views.literal e) scope = content_fault e.place e.what
    expression_fault (views.block ns body) scope = or_else (declare_fault 0 ns scope) (statements_fault body (declared false 0 ns scope))
    expression_fault (views.assign target e) scope = or_else (store_fault names scope target) (expression_fault e scope)
    expression_fault (views.send r ms) scope = or_else (expression_fault r scope) (messages_fault ms scope)

    pub statements_fault : StatementsView → Scope → Option Fault
    statements_fault views.no_statements scope = None
    statements_fault (views.statement returns e ss) scope = or_else (expression_fault e scope) (statements_fault ss scope)

    pub messages_fault : MessagesView → Scope → Option Fault
    messages_fault views.no_messages scope = None
    messages_fault (views.message s es ms) scope = or_else (expressions_fault es scope) (messages_fault ms scope)

    pub expressions_fault : ExpressionsView → Scope → Option Fault
    expressions_fault views.no_expressions scope = None
    expressions_fault (views.expression e es) scope = or_else (expression_fault e scope) (expressions_fault es scope)

  -- a method's arguments, its temporaries, its statements
  abbrev pub method_fault : MethodView → Option Fault
  method_fault m =
      let arguments = declared false 0 m.arguments [] in
      or_else (declare_fault 0 m.arguments [])
      (or_else (declare_fault 0 m.temporaries arguments) (statements_fault m.body (declared true 0 m.temporaries arguments)))

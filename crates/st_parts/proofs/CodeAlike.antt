-- The code of a method depends on the names of its class only through what they tell of each text.
use Rattle.std.proofs.Common.{◌≡◌, ℕ, ◌+◌, ◌*◌, List, [], ◌∷◌, ◌++◌, length, Option, Some, None, Bool, true, false, Ok, Err, refl, sym, ◌∙◌}
use Rattle.std.specs.Prelude.{is_some, option_map, if◌then◌else◌, Result}
use Rattle.st_scan.specs.Views.{NameView, ExpressionView, StatementsView, MessagesView, ExpressionsView, MethodView, is_super}
use Rattle.st_scan.specs.Views as views
use Rattle.st_emit.specs.Names.{NamesView, Scope, field, shared, constant_named, declared_as, own_variable, if_named, field_from, variable_named, or_else, declared}
use Rattle.st_emit.specs.Literals.{LiteralView, Named, given, ◌>>=◌}
use Rattle.st_emit.specs.Nodes.{Node, Body, Tail, block}
use Rattle.st_emit.specs.Resolving.{Context, inside, names_in, names_in_all, place_named, place_of_name, constant_or, count_node, tailed, sends_tail, is_plain, all_plain, before, expression_node, statements_body, messages_of, nodes_of}
use Rattle.st_emit.specs.Nodes as nodes
use Rattle.st_code.specs.declared.fault.Fault.{Fault}
use Rattle.st_code.specs.declared.fault.Cause.TheVariants.{Unknown, Store}
use Rattle.st_code.specs.Faults.{fault_at, read_fault, stored_fault, store_fault, declare_fault, expression_fault, statements_fault, messages_fault, expressions_fault, method_fault}
use Rattle.st_code.specs.Methods.{PartsView, code, body, parts, parts_or, fault, variables, own_variables, scope_from, simple, flag_of, count_of, room_bit, last_of, symbols_fault, primitive_fault, bounds_fault}
use Rattle.st_emit.specs.declared.instruction.Instruction.{Instruction}
use Rattle.st_emit.specs.Steps.{all_bytes}
use Rattle.st_emit.specs.Emitting.{method_code}
use Rattle.st_emit.specs.Depths.{empty, method_level}
use Rattle.st_scope.specs.inside.Alike.{SeesAlike}

module _ (a b : NamesView) (alike : SeesAlike a b) where
  same_variable : (scope : Scope) (text : List ℕ) → variable_named a scope text ≡ variable_named b scope text
  same_variable scope text =
      λ i. or_else (own_variable (declared_as scope text)) (or_else (option_map field (if_named (field_from 0 (alike.fields i) text))) (option_map shared (alike.shared text i)))

  -- NODES

  abbrev seen : NamesView → Scope → ℕ → Context
  seen names scope next = record { names = names; scope = scope; next = next }

  same_place : (scope : Scope) (next : ℕ) (n : NameView) → place_of_name (seen a scope next) n ≡ place_of_name (seen b scope next) n
  same_place scope next n = λ i. place_named (same_variable scope n.text i)

  inner : (ns : List NameView) (body : StatementsView) → ((scope : Scope) (next : ℕ) → statements_body body (seen a scope next) ≡ statements_body body (seen b scope next))
      → (scope : Scope) (next : ℕ) → statements_body body (inside (seen a scope next) ns) ≡ statements_body body (inside (seen b scope next) ns)
  inner [] body h scope next = h scope next
  inner (n ∷ ns) body h scope next = h _ _

  mutual
    same_node : (e : ExpressionView) (scope : Scope) (next : ℕ) → expression_node e (seen a scope next) ≡ expression_node e (seen b scope next)
    same_node (views.variable n) scope next = λ i. constant_or (constant_named n.text) (same_place scope next n i)
    same_node (views.literal e) scope next = refl
    same_node (views.block [] body) scope next = λ i. count_node 0 >>= (λ n. same_body body scope next i >>= (λ x. given (block next 0 n x)))
    same_node (views.block (k ∷ ks) body) scope next =
        λ i. count_node (length (k ∷ ks)) >>= (λ n. same_body body (declared false next (k ∷ ks) scope) (next + length (k ∷ ks)) i >>= (λ x. given (block next (length (k ∷ ks)) n x)))
    same_node (views.assign target e) scope next = λ i. tailed (same_node e scope next i) (same_place scope next target i >>= (λ p. given (nodes.assigned p)))
    same_node (views.send r ms) scope next = λ i. tailed (same_node r scope next i) (sends_tail (is_super r) (is_plain r) (same_messages ms scope (next + names_in r) i))

    same_body : (ss : StatementsView) (scope : Scope) (next : ℕ) → statements_body ss (seen a scope next) ≡ statements_body ss (seen b scope next)
    same_body views.no_statements scope next = refl
    same_body (views.statement true e ss) scope next = λ i. same_node e scope next i >>= (λ n. given (nodes.returned n))
    same_body (views.statement false e ss) scope next = λ i. same_node e scope next i >>= (λ n. same_body ss scope (next + names_in e) i >>= (λ x. given (before n x)))

    same_messages : (ms : MessagesView) (scope : Scope) (next : ℕ) → messages_of ms (seen a scope next) ≡ messages_of ms (seen b scope next)
    same_messages views.no_messages scope next = refl
    same_messages (views.message s es ms) scope next =
        λ i. record { selector = s; arguments = same_nodes es scope next i; all_blocks = all_plain es } ∷ same_messages ms scope (next + names_in_all es) i

    same_nodes : (es : ExpressionsView) (scope : Scope) (next : ℕ) → nodes_of es (seen a scope next) ≡ nodes_of es (seen b scope next)
    same_nodes views.no_expressions scope next = refl
    same_nodes (views.expression e es) scope next = λ i. same_node e scope next i ∷ same_nodes es scope (next + names_in e) i

  -- FAULTS

  same_read : (scope : Scope) (n : NameView) → read_fault a scope n ≡ read_fault b scope n
  same_read scope n = λ i. if is_some (constant_named n.text) then None else (if is_some (same_variable scope n.text i) then None else fault_at n.place Unknown)

  same_store : (scope : Scope) (n : NameView) → store_fault a scope n ≡ store_fault b scope n
  same_store scope n = λ i. if is_some (constant_named n.text) then fault_at n.place Store else stored_fault n.place (same_variable scope n.text i)

  mutual
    same_expression : (e : ExpressionView) (scope : Scope) → expression_fault a e scope ≡ expression_fault b e scope
    same_expression (views.variable n) scope = same_read scope n
    same_expression (views.literal e) scope = refl
    same_expression (views.block ns body) scope = λ i. or_else (declare_fault 0 ns scope) (same_statements body (declared false 0 ns scope) i)
    same_expression (views.assign target e) scope = λ i. or_else (same_store scope target i) (same_expression e scope i)
    same_expression (views.send r ms) scope = λ i. or_else (same_expression r scope i) (same_sent ms scope i)

    same_statements : (ss : StatementsView) (scope : Scope) → statements_fault a ss scope ≡ statements_fault b ss scope
    same_statements views.no_statements scope = refl
    same_statements (views.statement returns e ss) scope = λ i. or_else (same_expression e scope i) (same_statements ss scope i)

    same_sent : (ms : MessagesView) (scope : Scope) → messages_fault a ms scope ≡ messages_fault b ms scope
    same_sent views.no_messages scope = refl
    same_sent (views.message s es ms) scope = λ i. or_else (same_expressions es scope i) (same_sent ms scope i)

    same_expressions : (es : ExpressionsView) (scope : Scope) → expressions_fault a es scope ≡ expressions_fault b es scope
    same_expressions views.no_expressions scope = refl
    same_expressions (views.expression e es) scope = λ i. or_else (same_expression e scope i) (same_expressions es scope i)

  same_method : (tree : MethodView) → method_fault a tree ≡ method_fault b tree
  same_method tree =
      let arguments = declared false 0 tree.arguments [] in
      λ i. or_else (declare_fault 0 tree.arguments []) (or_else (declare_fault 0 tree.temporaries arguments) (same_statements tree.body (declared true 0 tree.temporaries arguments) i))

-- CODE

module _ (tree : MethodView) where
  -- what is made of the body's nodes and literals
  abbrev steps_of : Named Body → List Instruction
  steps_of made = method_code made.part

  abbrev literals_of : Named Body → List LiteralView
  literals_of made = made.literals ++ last_of tree (flag_of tree (simple made.part)) (steps_of made)

  abbrev parts_of : ℕ → Named Body → PartsView
  parts_of variables made =
      let flag = flag_of tree (simple made.part) in
      record {
        selector = tree.selector;
        header = flag * 8192 + count_of flag (simple made.part) variables * 256 + room_bit variables (method_level made.part empty) + length (literals_of made) * 2 + 1;
        literals = literals_of made;
        bytes = all_bytes (steps_of made);
      }

  abbrev whole_of : ℕ → Bool → Named Body → Option Fault
  whole_of variables symbols made =
      or_else (symbols_fault symbols) (or_else (primitive_fault tree.primitive) (bounds_fault (length (literals_of made)) variables (method_level made.part empty) (steps_of made)))

  abbrev answer : PartsView → Option Fault → Result PartsView Fault
  answer p None = Ok p
  answer p (Some f) = Err f

  answered : (names : NamesView) (f : Option Fault) → parts_or tree names f ≡ answer (parts tree names) f
  answered names None = refl
  answered names (Some f) = refl

  module _ (a b : NamesView) (alike : SeesAlike a b) where
    same_made : body tree a ≡ body tree b
    same_made = λ i. same_body a b alike tree.body (scope_from (length tree.arguments) tree) (own_variables tree a) i []

    same_parts : parts tree a ≡ parts tree b
    same_parts = λ i. parts_of (variables tree a) (same_made i)

    same_fault : fault tree a ≡ fault tree b
    same_fault = λ i. or_else (same_method a b alike tree i) (whole_of (variables tree a) (alike.symbols i) (same_made i))

    -- names that tell no text apart give the same code, or the same fault
    pub code_alike : code tree a ≡ code tree b
    code_alike = answered a (fault tree a) ∙ ((λ i. answer (same_parts i) (same_fault i)) ∙ sym (answered b (fault tree b)))

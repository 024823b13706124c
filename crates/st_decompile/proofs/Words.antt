-- Names that agree on all that a text can use give a tree the same code.
use Rattle.std.proofs.Common.{◌≡◌, ℕ, ◌+◌, ◌*◌, Bool, true, false, not, ◌&&◌, ◌||◌, ◌==◌, cond, List, [], ◌∷◌, ◌++◌, length, Option, Some, None, refl, sym, ap, ap₂, ◌∙◌, subst}
use Rattle.std.specs.Prelude.{if◌then◌else◌, is_some, option_map, nat_lt, Ok}
use Rattle.st_scan.specs.Views.{NameView, ExpressionView, ExpressionsView, StatementsView, MessagesView, MethodView, is_super}
use Rattle.st_scan.specs.Views as views
use Rattle.st_scan.specs.Pieces.{is_name}
use Rattle.st_grammar.specs.inside.Formed.{ReceiverFormed, StatementsFormed, MessagesFormed, ArgumentsFormed, IsWellFormed}
use Rattle.st_emit.specs.Bounds.{most_flagged}
use Rattle.st_emit.specs.declared.instruction.Constant.{Constant}
use Rattle.st_emit.specs.declared.instruction.Instruction.{Instruction}
use Rattle.st_emit.specs.Names.{NamesView, Scope, Variable, field, shared, constant_named, declared_as, declared, field_named, shared_named, variable_named, own_variable, or_else}
use Rattle.st_emit.specs.Literals.{LiteralView, Named, Naming, given, ◌>>=◌}
use Rattle.st_emit.specs.Literals as lits
use Rattle.st_emit.specs.Nodes as nodes
use Rattle.st_emit.specs.Nodes.{Node, Body}
use Rattle.st_emit.specs.Steps.{all_bytes, sends_super}
use Rattle.st_emit.specs.Emitting.{method_code}
use Rattle.st_emit.specs.Depths.{empty, method_level}
use Rattle.st_emit.specs.Resolving.{Context, Message, place_named, place_of_name, constant_or, tailed, sends_tail, is_plain, all_plain, before, count_node, names_in, names_in_all, expression_node, statements_body, messages_of, nodes_of}
use Rattle.st_code.specs.declared.fault.Fault.{Fault}
use Rattle.st_code.specs.declared.fault.Cause.TheVariants.{Unknown, Store}
use Rattle.st_code.specs.declared.simple.Simple.{Simple}
use Rattle.st_code.specs.Faults.{fault_at, read_fault, store_fault, stored_fault, declare_fault, expression_fault, statements_fault, messages_fault, expressions_fault, method_fault}
use Rattle.st_code.specs.Methods.{PartsView, simple, simple_flag, flag_of, count_of, room_bit, primitive_number, symbols_fault, primitive_fault, bounds_fault, last_of, body, steps, depth, variables, context, parts, parts_or, fault, whole_fault, code}
use Rattle.st_resolved.proofs.Unnumbered.{or_none}
use Rattle.st_expression_stack.specs.Names.{is_usable}

-- names that agree on all that a text can use
pub record Agree (a b : NamesView) : Type 0 where
  pub fields : (text : List ℕ) → is_usable text ≡ true → field_named a text ≡ field_named b text
  pub shared : (text : List ℕ) → is_usable text ≡ true → shared_named a text ≡ shared_named b text
  pub symbols : a.symbols ≡ b.symbols

pub agree_back : (a b : NamesView) → Agree a b → Agree b a
agree_back a b h = record { fields = λ text u. sym (h.fields text u); shared = λ text u. sym (h.shared text u); symbols = sym h.symbols }

usable_is : (text : List ℕ) → is_name text ≡ true → constant_named text ≡ None → is_usable text ≡ true
usable_is text n c = ap₂ (λ (x : Bool) (k : Option Constant). x && not (is_some k)) n c

-- TARGETS

-- no assignment is to a pseudo variable
abbrev mutual
  Targets : ExpressionView → Type 0
  Targets (views.variable n) = Unit {0}
  Targets (views.literal e) = Unit {0}
  Targets (views.block ns b) = AllTargets b
  Targets (views.assign target e) = (constant_named target.text ≡ None) × Targets e
  Targets (views.send r ms) = Targets r × MessagesTargets ms

  AllTargets : StatementsView → Type 0
  AllTargets views.no_statements = Unit {0}
  AllTargets (views.statement returns e ss) = Targets e × AllTargets ss

  MessagesTargets : MessagesView → Type 0
  MessagesTargets views.no_messages = Unit {0}
  MessagesTargets (views.message s es ms) = ArgumentsTargets es × MessagesTargets ms

  ArgumentsTargets : ExpressionsView → Type 0
  ArgumentsTargets views.no_expressions = Unit {0}
  ArgumentsTargets (views.expression e es) = Targets e × ArgumentsTargets es

stored_constant : (k : Option Constant) (place : ℕ) (o : Option Fault) → (if is_some k then fault_at place Store else o) ≡ None → k ≡ None
stored_constant None place o h = refl
stored_constant (Some k) place o h = absurd cc

module _ (names : NamesView) where
  mutual
    targets_of : (e : ExpressionView) (scope : Scope) → expression_fault names e scope ≡ None → Targets e
    targets_of (views.variable n) scope h = tt
    targets_of (views.literal e) scope h = tt
    targets_of (views.block ns b) scope h = all_targets b (declared false 0 ns scope) (or_none (declare_fault 0 ns scope) (statements_fault names b (declared false 0 ns scope)) h).1
    targets_of (views.assign target e) scope h =
        let both = or_none (store_fault names scope target) (expression_fault names e scope) h in
        (stored_constant (constant_named target.text) target.place (stored_fault target.place (variable_named names scope target.text)) both.0, targets_of e scope both.1)
    targets_of (views.send r ms) scope h =
        let both = or_none (expression_fault names r scope) (messages_fault names ms scope) h in
        (targets_of r scope both.0, messages_targets ms scope both.1)

    all_targets : (ss : StatementsView) (scope : Scope) → statements_fault names ss scope ≡ None → AllTargets ss
    all_targets views.no_statements scope h = tt
    all_targets (views.statement returns e ss) scope h =
        let both = or_none (expression_fault names e scope) (statements_fault names ss scope) h in
        (targets_of e scope both.0, all_targets ss scope both.1)

    messages_targets : (ms : MessagesView) (scope : Scope) → messages_fault names ms scope ≡ None → MessagesTargets ms
    messages_targets views.no_messages scope h = tt
    messages_targets (views.message s es ms) scope h =
        let both = or_none (expressions_fault names es scope) (messages_fault names ms scope) h in
        (arguments_targets es scope both.0, messages_targets ms scope both.1)

    arguments_targets : (es : ExpressionsView) (scope : Scope) → expressions_fault names es scope ≡ None → ArgumentsTargets es
    arguments_targets views.no_expressions scope h = tt
    arguments_targets (views.expression e es) scope h =
        let both = or_none (expression_fault names e scope) (expressions_fault names es scope) h in
        (targets_of e scope both.0, arguments_targets es scope both.1)

-- NODES

abbrev around : NamesView → Scope → ℕ → Context
around names scope next = record { names = names; scope = scope; next = next }

module _ (a b : NamesView) (agree : Agree a b) where
  variable_alike : (scope : Scope) (text : List ℕ) → is_usable text ≡ true → variable_named a scope text ≡ variable_named b scope text
  variable_alike scope text u =
      ap₂ (λ (f s : Option ℕ). or_else (own_variable (declared_as scope text)) (or_else (option_map field f) (option_map shared s))) (agree.fields text u) (agree.shared text u)

  place_alike : (n : NameView) (scope : Scope) (next : ℕ) → is_usable n.text ≡ true → place_of_name (around a scope next) n ≡ place_of_name (around b scope next) n
  place_alike n scope next u = ap (λ (v : Option Variable). place_named v) (variable_alike scope n.text u)

  name_alike : (n : NameView) (scope : Scope) (next : ℕ) → is_name n.text ≡ true → expression_node (views.variable n) (around a scope next) ≡ expression_node (views.variable n) (around b scope next)
  name_alike n scope next i = by_constant (constant_named n.text) refl
    where
      by_constant : (k : Option Constant) → constant_named n.text ≡ k → constant_or k (place_of_name (around a scope next) n) ≡ constant_or k (place_of_name (around b scope next) n)
      by_constant (Some k) e = refl
      by_constant None e = ap (λ (p : Naming _). constant_or None p) (place_alike n scope next (usable_is n.text i e))

  mutual
    node_alike : (e : ExpressionView) (scope : Scope) (next : ℕ) → ReceiverFormed e → Targets e → expression_node e (around a scope next) ≡ expression_node e (around b scope next)
    node_alike (views.variable n) scope next f t = name_alike n scope next f
    node_alike (views.literal e) scope next f t = refl
    node_alike (views.block [] body) scope next f t =
        ap (λ (m : Naming Body). count_node 0 >>= λ n. m >>= λ x. given (nodes.block next 0 n x)) (body_alike body scope next f.1 t)
    node_alike (views.block (n ∷ ns) body) scope next f t =
        ap (λ (m : Naming Body). count_node (length (n ∷ ns)) >>= λ k. m >>= λ x. given (nodes.block next (length (n ∷ ns)) k x))
        (body_alike body (declared false next (n ∷ ns) scope) (next + length (n ∷ ns)) f.1 t)
    node_alike (views.assign target e) scope next f t =
        ap₂ (λ (m : Naming Node) (p : Naming _). tailed m (p >>= λ place. given (nodes.assigned place))) (node_alike e scope next f.1 t.1) (place_alike target scope next (usable_is target.text f.0 t.0))
    node_alike (views.send r ms) scope next f t =
        ap₂ (λ (m : Naming Node) (l : List Message). tailed m (sends_tail (is_super r) (is_plain r) l)) (node_alike r scope next f.0 t.0) (messages_alike ms scope (next + names_in r) f.2 t.1)

    body_alike : (ss : StatementsView) (scope : Scope) (next : ℕ) → StatementsFormed ss → AllTargets ss → statements_body ss (around a scope next) ≡ statements_body ss (around b scope next)
    body_alike views.no_statements scope next f t = refl
    body_alike (views.statement true e ss) scope next f t = ap (λ (m : Naming Node). m >>= λ n. given (nodes.returned n)) (node_alike e scope next f.0 t.0)
    body_alike (views.statement false e ss) scope next f t =
        ap₂ (λ (m : Naming Node) (x : Naming Body). m >>= λ n. x >>= λ y. given (before n y)) (node_alike e scope next f.0 t.0) (body_alike ss scope (next + names_in e) f.3 t.1)

    messages_alike : (ms : MessagesView) (scope : Scope) (next : ℕ) → MessagesFormed ms → MessagesTargets ms → messages_of ms (around a scope next) ≡ messages_of ms (around b scope next)
    messages_alike views.no_messages scope next f t = refl
    messages_alike (views.message s es ms) scope next f t =
        ap₂ (λ (ns : List (Naming Node)) (l : List Message). record { selector = s; arguments = ns; all_blocks = all_plain es } ∷ l)
        (nodes_alike es scope next f.1 t.0) (messages_alike ms scope (next + names_in_all es) f.2 t.1)

    nodes_alike : (es : ExpressionsView) (scope : Scope) (next : ℕ) → ArgumentsFormed es → ArgumentsTargets es → nodes_of es (around a scope next) ≡ nodes_of es (around b scope next)
    nodes_alike views.no_expressions scope next f t = refl
    nodes_alike (views.expression e es) scope next f t =
        ap₂ (λ (n : Naming Node) (l : List (Naming Node)). n ∷ l) (node_alike e scope next f.0 t.0) (nodes_alike es scope (next + names_in e) f.2 t.1)

  -- FAULTS

  read_alike : (n : NameView) (scope : Scope) → is_name n.text ≡ true → read_fault a scope n ≡ read_fault b scope n
  read_alike n scope i = by_constant (constant_named n.text) refl
    where
      by_constant : (k : Option Constant) → constant_named n.text ≡ k
          → (if is_some k then None else (if is_some (variable_named a scope n.text) then None else fault_at n.place Unknown))
          ≡ (if is_some k then None else (if is_some (variable_named b scope n.text) then None else fault_at n.place Unknown))
      by_constant (Some k) e = refl
      by_constant None e = ap (λ (v : Option Variable). if is_some v then None else fault_at n.place Unknown) (variable_alike scope n.text (usable_is n.text i e))

  store_alike : (n : NameView) (scope : Scope) → is_name n.text ≡ true → store_fault a scope n ≡ store_fault b scope n
  store_alike n scope i = by_constant (constant_named n.text) refl
    where
      by_constant : (k : Option Constant) → constant_named n.text ≡ k
          → (if is_some k then fault_at n.place Store else stored_fault n.place (variable_named a scope n.text))
          ≡ (if is_some k then fault_at n.place Store else stored_fault n.place (variable_named b scope n.text))
      by_constant (Some k) e = refl
      by_constant None e = ap (λ (v : Option Variable). stored_fault n.place v) (variable_alike scope n.text (usable_is n.text i e))

  mutual
    fault_alike : (e : ExpressionView) (scope : Scope) → ReceiverFormed e → expression_fault a e scope ≡ expression_fault b e scope
    fault_alike (views.variable n) scope f = read_alike n scope f
    fault_alike (views.literal e) scope f = refl
    fault_alike (views.block ns body) scope f = ap (λ (x : Option Fault). or_else (declare_fault 0 ns scope) x) (faults_alike body (declared false 0 ns scope) f.1)
    fault_alike (views.assign target e) scope f = ap₂ (λ (x y : Option Fault). or_else x y) (store_alike target scope f.0) (fault_alike e scope f.1)
    fault_alike (views.send r ms) scope f = ap₂ (λ (x y : Option Fault). or_else x y) (fault_alike r scope f.0) (messages_faults ms scope f.2)

    faults_alike : (ss : StatementsView) (scope : Scope) → StatementsFormed ss → statements_fault a ss scope ≡ statements_fault b ss scope
    faults_alike views.no_statements scope f = refl
    faults_alike (views.statement returns e ss) scope f = ap₂ (λ (x y : Option Fault). or_else x y) (fault_alike e scope f.0) (faults_alike ss scope f.3)

    messages_faults : (ms : MessagesView) (scope : Scope) → MessagesFormed ms → messages_fault a ms scope ≡ messages_fault b ms scope
    messages_faults views.no_messages scope f = refl
    messages_faults (views.message s es ms) scope f = ap₂ (λ (x y : Option Fault). or_else x y) (all_faults es scope f.1) (messages_faults ms scope f.2)

    all_faults : (es : ExpressionsView) (scope : Scope) → ArgumentsFormed es → expressions_fault a es scope ≡ expressions_fault b es scope
    all_faults views.no_expressions scope f = refl
    all_faults (views.expression e es) scope f = ap₂ (λ (x y : Option Fault). or_else x y) (fault_alike e scope f.0) (all_faults es scope f.2)

  -- METHODS

  module _ (t : MethodView) (well : IsWellFormed t) where
    method_faults : method_fault a t ≡ method_fault b t
    method_faults =
        ap (λ (x : Option Fault). or_else (declare_fault 0 t.arguments []) (or_else (declare_fault 0 t.temporaries (declared false 0 t.arguments [])) x))
        (faults_alike t.body (declared true 0 t.temporaries (declared false 0 t.arguments [])) well.body)

    abbrev literals_by : Named Body → List LiteralView
    literals_by x = x.literals ++ last_of t (flag_of t (simple x.part)) (method_code x.part)

    abbrev parts_by : Named Body → PartsView
    parts_by x = record {
      selector = t.selector;
      header = flag_of t (simple x.part) * 8192 + count_of (flag_of t (simple x.part)) (simple x.part) (variables t a) * 256 + room_bit (variables t a) (method_level x.part empty) + length (literals_by x) * 2 + 1;
      literals = literals_by x;
      bytes = all_bytes (method_code x.part);
    }

    abbrev whole_by : Bool → Named Body → Option Fault
    whole_by symbols x = or_else (symbols_fault symbols) (or_else (primitive_fault t.primitive) (bounds_fault (length (literals_by x)) (variables t a) (method_level x.part empty) (method_code x.part)))

    module _ (targets : AllTargets t.body) where
      whole_body : body t a ≡ body t b
      whole_body = ap (λ (m : Naming Body). m []) (body_alike t.body (context t a).scope (context t a).next well.body targets)

      parts_alike : parts t a ≡ parts t b
      parts_alike = ap parts_by whole_body

      wholes_alike : whole_fault t a ≡ whole_fault t b
      wholes_alike = ap₂ whole_by agree.symbols whole_body

    by_parts : (p : PartsView) (f g : Option Fault) → f ≡ None → f ≡ g → parts t a ≡ parts t b → parts_or t a f ≡ Ok p → parts_or t b g ≡ Ok p
    by_parts p None None z e same h = ap (λ (x : PartsView). Ok x) (sym same) ∙ h
    by_parts p None (Some y) z e same h = absurd cc
    by_parts p (Some x) g z e same h = absurd cc

    sound : (p : PartsView) (f : Option Fault) → parts_or t a f ≡ Ok p → f ≡ None
    sound p None h = refl
    sound p (Some x) h = absurd cc

    -- its code is the same
    pub code_alike : (p : PartsView) → code t a ≡ Ok p → code t b ≡ Ok p
    code_alike p h =
        let none = sound p (fault t a) h in
        let in_method = or_none (method_fault a t) (whole_fault t a) none in
        let in_temporaries = or_none (declare_fault 0 t.arguments []) (or_else (declare_fault 0 t.temporaries (declared false 0 t.arguments [])) (statements_fault a t.body (declared true 0 t.temporaries (declared false 0 t.arguments [])))) in_method.0 in
        let in_body = or_none (declare_fault 0 t.temporaries (declared false 0 t.arguments [])) (statements_fault a t.body (declared true 0 t.temporaries (declared false 0 t.arguments []))) in_temporaries.1 in
        let targets = all_targets a t.body (declared true 0 t.temporaries (declared false 0 t.arguments [])) in_body.1 in
        by_parts p (fault t a) (fault t b) none (ap₂ (λ (x y : Option Fault). or_else x y) method_faults (wholes_alike targets)) (parts_alike targets) h

-- The places of a tree are no matter of its code.
use Rattle.std.proofs.Common.{◌≡◌, ℕ, suc, ◌+◌, Bool, true, false, ◌||◌, ◌&&◌, not, ◌==◌, ◌*◌, List, [], ◌∷◌, ◌++◌, length, Option, Some, None, refl, sym, ap, ◌∙◌, arith}
use Rattle.std.specs.Prelude.{if◌then◌else◌, is_some, nat_lt, Ok}
use Rattle.st_scan.specs.Views.{is_super, NameView, ContentView, ElementsView, ExpressionView, StatementsView, MessagesView, ExpressionsView, MethodView}
use Rattle.st_scan.specs.Views as views
use Rattle.st_scan.specs.inside.Placeless.{placeless_name, placeless_names, placeless_content, placeless_elements, placeless, placeless_statements, placeless_messages, placeless_expressions, without_places}
use Rattle.st_emit.specs.Names.{NamesView, Scope, Declared, Variable, temporary, field, shared, constant_named, variable_named, declared_as, numbered, declared, or_else}
use Rattle.st_emit.specs.Literals.{LiteralView, Named, Naming, given, ◌>>=◌, literal_of, members_of}
use Rattle.st_emit.specs.Literals as lits
use Rattle.st_emit.specs.Nodes as nodes
use Rattle.st_emit.specs.Nodes.{Node, Body}
use Rattle.st_emit.specs.Resolving.{Context, behind, inside, names_in, names_in_statements, names_in_messages, names_in_all, literal_node, content_node, Message, sends_tail, assign_tail, tailed, is_plain, all_plain, before, count_node, expression_node, statements_body, messages_of, nodes_of}
use Rattle.st_code.specs.declared.fault.Fault.{Fault}
use Rattle.st_code.specs.declared.fault.Cause.{Cause}
use Rattle.st_code.specs.declared.fault.Cause.TheVariants.{Unknown, Twice, Store, Number}
use Rattle.st_code.specs.Faults.{fault_at, stored_fault, store_fault, twice_fault, declare_fault, is_too_low, content_fault, elements_fault, expression_fault, statements_fault, messages_fault, expressions_fault, method_fault}
use Rattle.st_emit.specs.Bounds.{most_flagged}
use Rattle.st_emit.specs.declared.instruction.Instruction.{Instruction}
use Rattle.st_emit.specs.Steps.{all_bytes, sends_super}
use Rattle.st_emit.specs.Emitting.{method_code}
use Rattle.st_emit.specs.Depths.{empty, method_level}
use Rattle.st_code.specs.declared.simple.Simple.{Simple}
use Rattle.st_code.specs.Methods.{PartsView, code, parts, fault, whole_fault, parts_or, context, body, variables, simple, simple_flag, count_of, primitive_number, symbols_fault, primitive_fault, bounds_fault, room_bit}

-- NAMES AND NUMBERS

length_same : (ns : List NameView) → length (placeless_names ns) ≡ length ns
length_same [] = refl
length_same (n ∷ ns) = ap suc (length_same ns)

numbered_same : (a : Bool) (k : ℕ) (ns : List NameView) → numbered a k (placeless_names ns) ≡ numbered a k ns
numbered_same a k [] = refl
numbered_same a k (n ∷ ns) = ap (λ (l : List Declared). record { text = n.text; number = k; assignable = a } ∷ l) (numbered_same a (k + 1) ns)

declared_same : (a : Bool) (k : ℕ) (ns : List NameView) (scope : Scope) → declared a k (placeless_names ns) scope ≡ declared a k ns scope
declared_same a k ns scope = ap (λ (l : List Declared). scope ++ l) (numbered_same a k ns)

-- a context in which so many names are declared
abbrev within : Context → Scope → ℕ → Context
within c scope count = record c { scope = scope; next = c.next + count }

inside_same : (c : Context) (ns : List NameView) → inside c (placeless_names ns) ≡ inside c ns
inside_same c [] = refl
inside_same c (n ∷ ns) =
    ap (λ (s : Scope). within c s (length (placeless_names (n ∷ ns)))) (declared_same false c.next (n ∷ ns) c.scope)
    ∙ ap (λ (k : ℕ). within c (declared false c.next (n ∷ ns) c.scope) k) (length_same (n ∷ ns))

mutual
  names_same : (e : ExpressionView) → names_in (placeless e) ≡ names_in e
  names_same (views.variable n) = refl
  names_same (views.literal e) = refl
  names_same (views.block ns b) = omega (arith, length_same ns, statements_names b)
  names_same (views.assign target e) = names_same e
  names_same (views.send r ms) = omega (arith, names_same r, messages_names ms)

  statements_names : (ss : StatementsView) → names_in_statements (placeless_statements ss) ≡ names_in_statements ss
  statements_names views.no_statements = refl
  statements_names (views.statement true e ss) = names_same e
  statements_names (views.statement false e ss) = omega (arith, names_same e, statements_names ss)

  messages_names : (ms : MessagesView) → names_in_messages (placeless_messages ms) ≡ names_in_messages ms
  messages_names views.no_messages = refl
  messages_names (views.message s es ms) = omega (arith, all_names es, messages_names ms)

  all_names : (es : ExpressionsView) → names_in_all (placeless_expressions es) ≡ names_in_all es
  all_names views.no_expressions = refl
  all_names (views.expression e es) = omega (arith, names_same e, all_names es)

-- LITERALS

mutual
  literal_same : (w : ContentView) → literal_of (placeless_content w) ≡ literal_of w
  literal_same (views.number n) = refl
  literal_same (views.character b) = refl
  literal_same (views.bytes t) = refl
  literal_same (views.symbol t) = refl
  literal_same (views.array es) = ap lits.array (members_same es)
  literal_same views.nil_object = refl
  literal_same views.false_object = refl
  literal_same views.true_object = refl

  members_same : (es : ElementsView) → members_of (placeless_elements es) ≡ members_of es
  members_same views.no_elements = refl
  members_same (views.element place w es) =
      ap (λ l. lits.literal l (members_of (placeless_elements es))) (literal_same w) ∙ ap (λ ls. lits.literal (literal_of w) ls) (members_same es)

content_same : (w : ContentView) → content_node (placeless_content w) ≡ content_node w
content_same (views.number n) = refl
content_same (views.character b) = refl
content_same (views.bytes t) = refl
content_same (views.symbol t) = refl
content_same (views.array es) = ap (λ ls. literal_node (lits.array ls)) (members_same es)
content_same views.nil_object = refl
content_same views.false_object = refl
content_same views.true_object = refl

-- NODES

super_same : (e : ExpressionView) → is_super (placeless e) ≡ is_super e
super_same (views.variable n) = refl
super_same e = refl

plain_same : (e : ExpressionView) → is_plain (placeless e) ≡ is_plain e
plain_same (views.variable n) = refl
plain_same (views.literal e) = refl
plain_same (views.block [] b) = refl
plain_same (views.block (n ∷ ns) b) = refl
plain_same (views.assign target e) = refl
plain_same (views.send r ms) = refl

all_plain_same : (es : ExpressionsView) → all_plain (placeless_expressions es) ≡ all_plain es
all_plain_same views.no_expressions = refl
all_plain_same (views.expression e es) =
    ap (λ (b : Bool). b && all_plain (placeless_expressions es)) (plain_same e) ∙ ap (λ (b : Bool). is_plain e && b) (all_plain_same es)

abbrev block_of : (next : ℕ) (count : ℕ) → Naming Body → Naming Node
block_of next count m = count_node count >>= λ n. (m >>= λ b. given (nodes.block next count n b))

abbrev send_of : Naming Node → (above plain : Bool) → List Message → Naming Node
send_of m above plain ms = tailed m (sends_tail above plain ms)

abbrev body_of_two : Naming Node → Naming Body → Naming Body
body_of_two m rest = m >>= λ n. (rest >>= λ b. given (before n b))

abbrev message_of : List ℕ → List (Naming Node) → Bool → List Message → List Message
message_of s ns plain ms = record { selector = s; arguments = ns; all_blocks = plain } ∷ ms

mutual
  expression_same : (e : ExpressionView) (c : Context) → expression_node (placeless e) c ≡ expression_node e c
  expression_same (views.variable n) c = refl
  expression_same (views.literal e) c = content_same e.what
  expression_same (views.block ns b) c =
      ap (λ (k : ℕ). block_of c.next k (statements_body (placeless_statements b) (inside c (placeless_names ns)))) (length_same ns)
      ∙ ap (λ (d : Context). block_of c.next (length ns) (statements_body (placeless_statements b) d)) (inside_same c ns)
      ∙ ap (λ (m : Naming Body). block_of c.next (length ns) m) (statements_same b (inside c ns))
  expression_same (views.assign target e) c = ap (λ (m : Naming Node). tailed m (assign_tail c target)) (expression_same e c)
  expression_same (views.send r ms) c =
      ap (λ (m : Naming Node). send_of m (is_super (placeless r)) (is_plain (placeless r)) (messages_of (placeless_messages ms) (behind c (names_in (placeless r))))) (expression_same r c)
      ∙ ap (λ (b : Bool). send_of (expression_node r c) b (is_plain (placeless r)) (messages_of (placeless_messages ms) (behind c (names_in (placeless r))))) (super_same r)
      ∙ ap (λ (b : Bool). send_of (expression_node r c) (is_super r) b (messages_of (placeless_messages ms) (behind c (names_in (placeless r))))) (plain_same r)
      ∙ ap (λ (k : ℕ). send_of (expression_node r c) (is_super r) (is_plain r) (messages_of (placeless_messages ms) (behind c k))) (names_same r)
      ∙ ap (λ (l : List Message). send_of (expression_node r c) (is_super r) (is_plain r) l) (messages_same ms (behind c (names_in r)))

  statements_same : (ss : StatementsView) (c : Context) → statements_body (placeless_statements ss) c ≡ statements_body ss c
  statements_same views.no_statements c = refl
  statements_same (views.statement true e ss) c = ap (λ (m : Naming Node). m >>= λ n. given (nodes.returned n)) (expression_same e c)
  statements_same (views.statement false e ss) c =
      ap (λ (m : Naming Node). body_of_two m (statements_body (placeless_statements ss) (behind c (names_in (placeless e))))) (expression_same e c)
      ∙ ap (λ (k : ℕ). body_of_two (expression_node e c) (statements_body (placeless_statements ss) (behind c k))) (names_same e)
      ∙ ap (λ (m : Naming Body). body_of_two (expression_node e c) m) (statements_same ss (behind c (names_in e)))

  messages_same : (ms : MessagesView) (c : Context) → messages_of (placeless_messages ms) c ≡ messages_of ms c
  messages_same views.no_messages c = refl
  messages_same (views.message s es ms) c =
      ap (λ (l : List (Naming Node)). message_of s l (all_plain (placeless_expressions es)) (messages_of (placeless_messages ms) (behind c (names_in_all (placeless_expressions es))))) (nodes_same es c)
      ∙ ap (λ (b : Bool). message_of s (nodes_of es c) b (messages_of (placeless_messages ms) (behind c (names_in_all (placeless_expressions es))))) (all_plain_same es)
      ∙ ap (λ (k : ℕ). message_of s (nodes_of es c) (all_plain es) (messages_of (placeless_messages ms) (behind c k))) (all_names es)
      ∙ ap (λ (l : List Message). message_of s (nodes_of es c) (all_plain es) l) (messages_same ms (behind c (names_in_all es)))

  nodes_same : (es : ExpressionsView) (c : Context) → nodes_of (placeless_expressions es) c ≡ nodes_of es c
  nodes_same views.no_expressions c = refl
  nodes_same (views.expression e es) c =
      ap (λ (m : Naming Node). m ∷ nodes_of (placeless_expressions es) (behind c (names_in (placeless e)))) (expression_same e c)
      ∙ ap (λ (k : ℕ). expression_node e c ∷ nodes_of (placeless_expressions es) (behind c k)) (names_same e)
      ∙ ap (λ (l : List (Naming Node)). expression_node e c ∷ l) (nodes_same es (behind c (names_in e)))

-- FAULTS

-- both are faults, or none is
abbrev Alike : Option Fault → Option Fault → Type 0
Alike f g = is_some f ≡ is_some g

alike_both : (f g h k : Option Fault) → Alike f g → Alike h k → Alike (or_else f h) (or_else g k)
alike_both None None h k a b = b
alike_both None (Some y) h k a b = absurd cc
alike_both (Some x) None h k a b = absurd cc
alike_both (Some x) (Some y) h k a b = refl

alike_if : (b : Bool) (p q : ℕ) (cause : Cause) → Alike (if b then fault_at p cause else None) (if b then fault_at q cause else None)
alike_if true p q cause = refl
alike_if false p q cause = refl

alike_stored : (v : Option Variable) (p q : ℕ) → Alike (stored_fault p v) (stored_fault q v)
alike_stored None p q = refl
alike_stored (Some (temporary n true)) p q = refl
alike_stored (Some (temporary n false)) p q = refl
alike_stored (Some (field n)) p q = refl
alike_stored (Some (shared a)) p q = refl

alike_declare : (k : ℕ) (ns : List NameView) (scope : Scope) → Alike (declare_fault k (placeless_names ns) scope) (declare_fault k ns scope)
alike_declare k [] scope = refl
alike_declare k (n ∷ ns) scope =
    alike_both (twice_fault scope (placeless_name n)) (twice_fault scope n) (declare_fault (k + 1) (placeless_names ns) (declared false k (n ∷ []) scope)) (declare_fault (k + 1) ns (declared false k (n ∷ []) scope))
    (alike_if (is_some (declared_as scope n.text)) 0 n.place Twice) (alike_declare (k + 1) ns (declared false k (n ∷ []) scope))

mutual
  alike_content : (p q : ℕ) (w : ContentView) → Alike (content_fault p (placeless_content w)) (content_fault q w)
  alike_content p q (views.number n) = alike_if (is_too_low n) p q Number
  alike_content p q (views.character b) = refl
  alike_content p q (views.bytes t) = refl
  alike_content p q (views.symbol t) = refl
  alike_content p q (views.array es) = alike_elements es
  alike_content p q views.nil_object = refl
  alike_content p q views.false_object = refl
  alike_content p q views.true_object = refl

  alike_elements : (es : ElementsView) → Alike (elements_fault (placeless_elements es)) (elements_fault es)
  alike_elements views.no_elements = refl
  alike_elements (views.element place w es) =
      alike_both (content_fault 0 (placeless_content w)) (content_fault place w) (elements_fault (placeless_elements es)) (elements_fault es) (alike_content 0 place w) (alike_elements es)

module _ (names : NamesView) where
  alike_read : (a b : Bool) (p q : ℕ) → Alike (if a then None else (if b then None else fault_at p Unknown)) (if a then None else (if b then None else fault_at q Unknown))
  alike_read true b p q = refl
  alike_read false true p q = refl
  alike_read false false p q = refl

  alike_store : (a : Bool) (v : Option Variable) (p q : ℕ) → Alike (if a then fault_at p Store else stored_fault p v) (if a then fault_at q Store else stored_fault q v)
  alike_store true v p q = refl
  alike_store false v p q = alike_stored v p q

  mutual
    alike_expression : (e : ExpressionView) (scope : Scope) → Alike (expression_fault names (placeless e) scope) (expression_fault names e scope)
    alike_expression (views.variable n) scope = alike_read (is_some (constant_named n.text)) (is_some (variable_named names scope n.text)) 0 n.place
    alike_expression (views.literal e) scope = alike_content 0 e.place e.what
    alike_expression (views.block ns b) scope =
        alike_both (declare_fault 0 (placeless_names ns) scope) (declare_fault 0 ns scope)
        (statements_fault names (placeless_statements b) (declared false 0 (placeless_names ns) scope)) (statements_fault names b (declared false 0 ns scope))
        (alike_declare 0 ns scope)
        (ap (λ (s : Scope). is_some (statements_fault names (placeless_statements b) s)) (declared_same false 0 ns scope) ∙ alike_statements b (declared false 0 ns scope))
    alike_expression (views.assign target e) scope =
        alike_both (store_fault names scope (placeless_name target)) (store_fault names scope target) (expression_fault names (placeless e) scope) (expression_fault names e scope)
        (alike_store (is_some (constant_named target.text)) (variable_named names scope target.text) 0 target.place) (alike_expression e scope)
    alike_expression (views.send r ms) scope =
        alike_both (expression_fault names (placeless r) scope) (expression_fault names r scope) (messages_fault names (placeless_messages ms) scope) (messages_fault names ms scope)
        (alike_expression r scope) (alike_messages ms scope)

    alike_statements : (ss : StatementsView) (scope : Scope) → Alike (statements_fault names (placeless_statements ss) scope) (statements_fault names ss scope)
    alike_statements views.no_statements scope = refl
    alike_statements (views.statement returns e ss) scope =
        alike_both (expression_fault names (placeless e) scope) (expression_fault names e scope) (statements_fault names (placeless_statements ss) scope) (statements_fault names ss scope)
        (alike_expression e scope) (alike_statements ss scope)

    alike_messages : (ms : MessagesView) (scope : Scope) → Alike (messages_fault names (placeless_messages ms) scope) (messages_fault names ms scope)
    alike_messages views.no_messages scope = refl
    alike_messages (views.message s es ms) scope =
        alike_both (expressions_fault names (placeless_expressions es) scope) (expressions_fault names es scope) (messages_fault names (placeless_messages ms) scope) (messages_fault names ms scope)
        (alike_all es scope) (alike_messages ms scope)

    alike_all : (es : ExpressionsView) (scope : Scope) → Alike (expressions_fault names (placeless_expressions es) scope) (expressions_fault names es scope)
    alike_all views.no_expressions scope = refl
    alike_all (views.expression e es) scope =
        alike_both (expression_fault names (placeless e) scope) (expression_fault names e scope) (expressions_fault names (placeless_expressions es) scope) (expressions_fault names es scope)
        (alike_expression e scope) (alike_all es scope)

-- METHODS

module _ (t : MethodView) (names : NamesView) where
  abbrev u : MethodView
  u = without_places t

  abbrev context_of : Scope → ℕ → Context
  context_of s n = record { names = names; scope = s; next = n }

  context_same : context u names ≡ context t names
  context_same =
      ap (λ (s : Scope). context_of (declared true (length u.arguments) u.temporaries s) (length u.arguments + length u.temporaries)) (declared_same false 0 t.arguments [])
      ∙ ap (λ (s : Scope). context_of s (length u.arguments + length u.temporaries)) (declared_same true (length u.arguments) t.temporaries (declared false 0 t.arguments []))
      ∙ ap (λ (k : ℕ). context_of (declared true k t.temporaries (declared false 0 t.arguments [])) (k + length u.temporaries)) (length_same t.arguments)
      ∙ ap (λ (k : ℕ). context_of (declared true (length t.arguments) t.temporaries (declared false 0 t.arguments [])) (length t.arguments + k)) (length_same t.temporaries)

  body_same : body u names ≡ body t names
  body_same =
      ap (λ (c : Context). statements_body (placeless_statements t.body) c []) context_same
      ∙ ap (λ (m : Naming Body). m []) (statements_same t.body (context t names))

  -- what the code is made of, beside selector and primitive
  abbrev flag_by : (a k : ℕ) → Option Simple → ℕ
  flag_by a k s = if is_some t.primitive || nat_lt most_flagged a then 7 else (if not (a == 0 && k == 0) then a else simple_flag s)

  abbrev last_by : ℕ → ℕ → List Instruction → List LiteralView
  last_by a flag steps = if flag == 7 then lits.number (record { minus = false; size = a * 256 + primitive_number t.primitive }) ∷ lits.owner ∷ [] else (if sends_super steps then lits.owner ∷ [] else [])

  abbrev literals_by : (a k : ℕ) → Named Body → List LiteralView
  literals_by a k b = b.literals ++ last_by a (flag_by a k (simple b.part)) (method_code b.part)

  abbrev parts_by : (a k v : ℕ) → Named Body → PartsView
  parts_by a k v b = record {
    selector = t.selector;
    header = flag_by a k (simple b.part) * 8192 + count_of (flag_by a k (simple b.part)) (simple b.part) v * 256 + room_bit v (method_level b.part empty) + length (literals_by a k b) * 2 + 1;
    literals = literals_by a k b;
    bytes = all_bytes (method_code b.part);
  }

  abbrev whole_by : (a k v : ℕ) → Named Body → Option Fault
  whole_by a k v b = or_else (symbols_fault names.symbols) (or_else (primitive_fault t.primitive) (bounds_fault (length (literals_by a k b)) v (method_level b.part empty) (method_code b.part)))

  all_same : {A : Type 0} (f : ℕ → ℕ → ℕ → Named Body → A) → f (length u.arguments) (length u.temporaries) (variables u names) (body u names) ≡ f (length t.arguments) (length t.temporaries) (variables t names) (body t names)
  all_same f =
      let many : variables u names ≡ variables t names = omega (arith, length_same t.arguments, length_same t.temporaries, statements_names t.body) in
      ap (λ (a : ℕ). f a (length u.temporaries) (variables u names) (body u names)) (length_same t.arguments)
      ∙ ap (λ (k : ℕ). f (length t.arguments) k (variables u names) (body u names)) (length_same t.temporaries)
      ∙ ap (λ (v : ℕ). f (length t.arguments) (length t.temporaries) v (body u names)) many
      ∙ ap (λ (b : Named Body). f (length t.arguments) (length t.temporaries) (variables t names) b) body_same

  parts_same : parts u names ≡ parts t names
  parts_same = all_same parts_by

  whole_same : whole_fault u names ≡ whole_fault t names
  whole_same = all_same whole_by

  alike_method : Alike (method_fault names u) (method_fault names t)
  alike_method =
      alike_both (declare_fault 0 u.arguments []) (declare_fault 0 t.arguments [])
      (or_else (declare_fault 0 u.temporaries (declared false 0 u.arguments [])) (statements_fault names u.body (declared true 0 u.temporaries (declared false 0 u.arguments []))))
      (or_else (declare_fault 0 t.temporaries (declared false 0 t.arguments [])) (statements_fault names t.body (declared true 0 t.temporaries (declared false 0 t.arguments []))))
      (alike_declare 0 t.arguments [])
      (alike_both (declare_fault 0 u.temporaries (declared false 0 u.arguments [])) (declare_fault 0 t.temporaries (declared false 0 t.arguments []))
      (statements_fault names u.body (declared true 0 u.temporaries (declared false 0 u.arguments []))) (statements_fault names t.body (declared true 0 t.temporaries (declared false 0 t.arguments [])))
      (ap (λ (s : Scope). is_some (declare_fault 0 u.temporaries s)) (declared_same false 0 t.arguments []) ∙ alike_declare 0 t.temporaries (declared false 0 t.arguments []))
      (ap (λ (s : Scope). is_some (statements_fault names u.body (declared true 0 u.temporaries s))) (declared_same false 0 t.arguments [])
      ∙ ap (λ (s : Scope). is_some (statements_fault names u.body s)) (declared_same true 0 t.temporaries (declared false 0 t.arguments []))
      ∙ alike_statements names t.body (declared true 0 t.temporaries (declared false 0 t.arguments []))))

  alike_fault : Alike (fault u names) (fault t names)
  alike_fault = alike_both (method_fault names u) (method_fault names t) (whole_fault u names) (whole_fault t names) alike_method (ap (λ (f : Option Fault). is_some f) whole_same)

  moved : (p : PartsView) (a b : MethodView) (f g : Option Fault) → parts a names ≡ parts b names → Alike f g → parts_or a names f ≡ Ok p → parts_or b names g ≡ Ok p
  moved p a b None None same i h = ap (λ (x : PartsView). Ok x) (sym same) ∙ h
  moved p a b None (Some y) same i h = absurd cc
  moved p a b (Some x) None same i h = absurd cc
  moved p a b (Some x) (Some y) same i h = absurd cc

  pub code_placeless : (p : PartsView) → code t names ≡ Ok p → code u names ≡ Ok p
  code_placeless p h = moved p t u (fault t names) (fault u names) (sym parts_same) (sym alike_fault) h

  pub code_placed : (p : PartsView) → code u names ≡ Ok p → code t names ≡ Ok p
  code_placed p h = moved p u t (fault u names) (fault t names) parts_same alike_fault h

-- trees that are one but for places have one code
pub no_places : (t v : MethodView) (names : NamesView) (p : PartsView) → without_places v ≡ without_places t → code t names ≡ Ok p → code v names ≡ Ok p
no_places t v names p same h = code_placed v names p (ap (λ (m : MethodView). code m names) same ∙ code_placeless t names p h)

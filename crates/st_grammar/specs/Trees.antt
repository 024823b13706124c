-- What phrases mean: the tree of each, in a text. And which of them fit: the conditions that no form of a row has.
use Rattle.std.specs.Prelude.{ℕ, ◌-◌, Bool, true, false, ◌==◌, List, [], ◌∷◌, ◌++◌, length, take, drop, if◌then◌else◌, Option, Some, None, IsTrue, IsFalse, codes, bytes_eq}
use Rattle.std.specs.Str.{byte}
use Rattle.st_scan.specs.declared.token.Signed.{Signed}
use Rattle.st_scan.specs.declared.token.Sort.{Sort}
use Rattle.st_scan.specs.declared.token.Sort.TheVariants as sorts
use Rattle.st_scan.specs.Views.{NameView, ContentView, ElementsView, ElementView, ExpressionView, StatementsView, MessagesView, ExpressionsView, MethodView, with_sent, is_super}
use Rattle.st_scan.specs.Views as views
use Rattle.st_grammar.specs.declared.leaf.Leaf.{Leaf}
use Rattle.st_grammar.specs.declared.leaf.Kind.{Kind}
use Rattle.st_grammar.specs.Leaves.{bytes_of}
use Rattle.st_grammar.specs.Phrases.{One, Element, plain, keyword_symbol, nested, Elements, no_elements, element, Literal, constant, array, Parameter, Target, Primary, name, literal, block, group, Block, plain_block, full_block, empty_block, Unary, unary, Binary, binary, Operations, no_operations, operation, Keyworded, keyworded, Parts, no_parts, part, Cascade, cascade, Messages, no_messages, message, Message, unary_message, binary_message, keyword_message, Expression, expression, Statements, no_statements, last, next, returned, returned_ended, KeywordName, Pattern, unary_pattern, binary_pattern, keyword_pattern, Primitive', Options, no_options, with_temporaries, with_primitive, temporaries_first, primitive_first, Method, method, names}

-- a string's bytes, where each doubled quote is one; `second` says whether a first one stands before them
abbrev pub undoubled : (second : Bool) → List ℕ → List ℕ
undoubled second [] = []
undoubled true (b ∷ bs) = undoubled false bs
undoubled false (b ∷ bs) = b ∷ undoubled (b == byte "'") bs

-- the bytes between a string's two quotes
abbrev pub between_quotes : List ℕ → List ℕ
between_quotes bytes = take (length bytes - 2) (drop 1 bytes)

-- a message to an expression
abbrev pub sent : ExpressionView → List ℕ → ExpressionsView → ExpressionView
sent t selector arguments = views.send t (views.message selector arguments views.no_messages)

-- the same where there are arguments
abbrev pub sent_if : ExpressionView → List ℕ → ExpressionsView → ExpressionView
sent_if t selector views.no_expressions = t
sent_if t selector (views.expression e es) = sent t selector (views.expression e es)

-- what a name is in a literal array
abbrev pub word_content : List ℕ → ContentView
word_content bytes =
    if bytes_eq bytes (codes "nil") then views.nil_object
    else (if bytes_eq bytes (codes "false") then views.false_object
    else (if bytes_eq bytes (codes "true") then views.true_object
    else views.symbol bytes))

-- what a token of this sort is as a literal
abbrev pub content_of : Sort → List ℕ → ContentView
content_of (sorts.Number n) bytes = views.number n
content_of (sorts.Character b) bytes = views.character b
content_of sorts.Bytes bytes = views.bytes (undoubled false (between_quotes bytes))
content_of sorts.Symbol bytes = views.symbol (drop 1 bytes)
content_of sorts.Name bytes = word_content bytes
content_of _ bytes = views.symbol bytes

-- the value of a number's token
abbrev pub number_of : Sort → Signed
number_of (sorts.Number n) = n
number_of _ = record { minus = false; size = 0 }

module _ (text : List ℕ) where
  abbrev pub bytes : Leaf → List ℕ
  bytes x = bytes_of text x.token

  abbrev pub name_at : Leaf → NameView
  name_at x = record { text = bytes x; place = x.place }

  abbrev pub constant_at : Leaf → ElementView
  constant_at x = record { place = x.place; what = content_of x.token.sort (bytes x) }

  -- the bytes of leaves, one after the other
  abbrev pub joined_bytes : {kinds : List Kind} → List (One kinds) → List ℕ
  joined_bytes [] = []
  joined_bytes (o ∷ os) = bytes o.leaf ++ joined_bytes os

  abbrev pub names_of : {kinds : List Kind} → List (One kinds) → List NameView
  names_of [] = []
  names_of (o ∷ os) = name_at o.leaf ∷ names_of os

  abbrev mutual
    pub element_tree : Element → ElementView
    element_tree (plain o) = constant_at o.leaf
    element_tree (keyword_symbol k ks) = record { place = k.leaf.place; what = views.symbol (bytes k.leaf ++ joined_bytes ks) }
    element_tree (nested o es c) = record { place = o.leaf.place; what = views.array (elements_tree es) }

    pub elements_tree : Elements → ElementsView
    elements_tree no_elements = views.no_elements
    elements_tree (element e es) = views.element (element_tree e).place (element_tree e).what (elements_tree es)

  abbrev pub literal_tree : Literal → ElementView
  literal_tree (constant o) = constant_at o.leaf
  literal_tree (array o es c) = record { place = o.leaf.place; what = views.array (elements_tree es) }

  abbrev pub parameters_tree : List Parameter → List NameView
  parameters_tree [] = []
  parameters_tree (p ∷ ps) = name_at p.name.leaf ∷ parameters_tree ps

  -- the first target is assigned last
  abbrev pub assigned : List Target → ExpressionView → ExpressionView
  assigned [] t = t
  assigned (x ∷ xs) t = views.assign (name_at x.name.leaf) (assigned xs t)

  -- unary messages, the first one to t
  abbrev pub after_names : ExpressionView → List (One names) → ExpressionView
  after_names t [] = t
  after_names t (n ∷ ns) = after_names (sent t (bytes n.leaf) views.no_expressions) ns

  abbrev pub selector_of : Parts → List ℕ
  selector_of no_parts = []
  selector_of (part k b ks) = bytes k.leaf ++ selector_of ks

  abbrev mutual
    pub primary_tree : Primary → ExpressionView
    primary_tree (name o) = views.variable (name_at o.leaf)
    primary_tree (literal l) = views.literal (literal_tree l)
    primary_tree (block o b c) = block_tree b
    primary_tree (group o e c) = expression_tree e

    pub block_tree : Block → ExpressionView
    block_tree (plain_block ss) = views.block [] (statements_tree ss)
    block_tree (full_block p ps b ss) = views.block (parameters_tree (p ∷ ps)) (statements_tree ss)
    block_tree (empty_block p ps) = views.block (parameters_tree (p ∷ ps)) views.no_statements

    pub unary_tree : Unary → ExpressionView
    unary_tree (unary p ns) = after_names (primary_tree p) ns

    pub binary_tree : Binary → ExpressionView
    binary_tree (binary u os) = after_operations (unary_tree u) os

    pub after_operations : ExpressionView → Operations → ExpressionView
    after_operations t no_operations = t
    after_operations t (operation o u os) = after_operations (sent t (bytes o.leaf) (views.expression (unary_tree u) views.no_expressions)) os

    pub keyworded_tree : Keyworded → ExpressionView
    keyworded_tree (keyworded b ks) = sent_if (binary_tree b) (selector_of ks) (arguments_of ks)

    pub arguments_of : Parts → ExpressionsView
    arguments_of no_parts = views.no_expressions
    arguments_of (part k b ks) = views.expression (binary_tree b) (arguments_of ks)

    pub cascade_tree : Cascade → ExpressionView
    cascade_tree (cascade k ms) = after_messages (keyworded_tree k) ms

    pub after_messages : ExpressionView → Messages → ExpressionView
    after_messages t no_messages = t
    after_messages t (message s m ms) = after_messages (with_one t m) ms

    -- t with one more message of a cascade
    pub with_one : ExpressionView → Message → ExpressionView
    with_one t (unary_message n) = with_sent t (bytes n.leaf) views.no_expressions
    with_one t (binary_message o u) = with_sent t (bytes o.leaf) (views.expression (unary_tree u) views.no_expressions)
    with_one t (keyword_message k b ks) = with_sent t (bytes k.leaf ++ selector_of ks) (views.expression (binary_tree b) (arguments_of ks))

    pub expression_tree : Expression → ExpressionView
    expression_tree (expression ts c) = assigned ts (cascade_tree c)

    pub statements_tree : Statements → StatementsView
    statements_tree no_statements = views.no_statements
    statements_tree (last e) = views.statement false (expression_tree e) views.no_statements
    statements_tree (next e p ss) = views.statement false (expression_tree e) (statements_tree ss)
    statements_tree (returned r e) = views.statement true (expression_tree e) views.no_statements
    statements_tree (returned_ended r e p) = views.statement true (expression_tree e) views.no_statements

  abbrev pub keyword_selector : List KeywordName → List ℕ
  keyword_selector [] = []
  keyword_selector (k ∷ ks) = bytes k.keyword.leaf ++ keyword_selector ks

  abbrev pub keyword_arguments : List KeywordName → List NameView
  keyword_arguments [] = []
  keyword_arguments (k ∷ ks) = name_at k.name.leaf ∷ keyword_arguments ks

  abbrev pub pattern_selector : Pattern → List ℕ
  pattern_selector (unary_pattern n) = bytes n.leaf
  pattern_selector (binary_pattern o n) = bytes o.leaf
  pattern_selector (keyword_pattern k ks) = keyword_selector (k ∷ ks)

  abbrev pub pattern_arguments : Pattern → List NameView
  pattern_arguments (unary_pattern n) = []
  pattern_arguments (binary_pattern o n) = name_at n.leaf ∷ []
  pattern_arguments (keyword_pattern k ks) = keyword_arguments (k ∷ ks)

  abbrev pub primitive_number : Primitive' → Signed
  primitive_number p = number_of p.number.leaf.token.sort

  abbrev pub options_temporaries : Options → List NameView
  options_temporaries no_options = []
  options_temporaries (with_temporaries t) = names_of t.inside
  options_temporaries (with_primitive p) = []
  options_temporaries (temporaries_first t p) = names_of t.inside
  options_temporaries (primitive_first p t) = names_of t.inside

  abbrev pub options_primitive : Options → Option Signed
  options_primitive no_options = None
  options_primitive (with_temporaries t) = None
  options_primitive (with_primitive p) = Some (primitive_number p)
  options_primitive (temporaries_first t p) = Some (primitive_number p)
  options_primitive (primitive_first p t) = Some (primitive_number p)

  abbrev pub method_tree : Method → MethodView
  method_tree (method p o ss) = record {
    selector = pattern_selector p;
    arguments = pattern_arguments p;
    temporaries = options_temporaries o;
    primitive = options_primitive o;
    body = statements_tree ss;
  }

  -- CONDITIONS

  -- a keyword expression has a message of its own
  abbrev pub has_message : Keyworded → Bool
  has_message (keyworded (binary (unary p []) no_operations) no_parts) = false
  has_message _ = true

  -- a message stands before the first ; of a cascade
  abbrev pub MayCascade : Keyworded → Messages → Type 0
  MayCascade k no_messages = Unit {0}
  MayCascade k (message s m ms) = IsTrue (has_message k)

  -- `super` stands only as the receiver of a message; a cascade has a message before its first ;
  abbrev mutual
    pub PrimaryFits : Primary → Type 0
    PrimaryFits (name o) = Unit {0}
    PrimaryFits (literal l) = Unit {0}
    PrimaryFits (block o b c) = BlockFits b
    PrimaryFits (group o e c) = ExpressionFits e

    pub BlockFits : Block → Type 0
    BlockFits (plain_block ss) = StatementsFit ss
    BlockFits (full_block p ps b ss) = StatementsFit ss
    BlockFits (empty_block p ps) = Unit {0}

    pub UnaryFits : Unary → Type 0
    UnaryFits (unary p ns) = PrimaryFits p × IsFalse (is_super (unary_tree (unary p ns)))

    pub BinaryFits : Binary → Type 0
    BinaryFits (binary (unary p ns) os) = PrimaryFits p × OperationsFit os × IsFalse (is_super (binary_tree (binary (unary p ns) os)))

    pub OperationsFit : Operations → Type 0
    OperationsFit no_operations = Unit {0}
    OperationsFit (operation o u os) = UnaryFits u × OperationsFit os

    pub PartsFit : Parts → Type 0
    PartsFit no_parts = Unit {0}
    PartsFit (part k b ks) = BinaryFits b × PartsFit ks

    pub CascadeFits : Cascade → Type 0
    CascadeFits (cascade (keyworded (binary (unary p ns) os) ks) ms) =
        PrimaryFits p × OperationsFit os × PartsFit ks × MessagesFit ms
        × IsFalse (is_super (keyworded_tree (keyworded (binary (unary p ns) os) ks)))
        × MayCascade (keyworded (binary (unary p ns) os) ks) ms

    pub MessagesFit : Messages → Type 0
    MessagesFit no_messages = Unit {0}
    MessagesFit (message s m ms) = MessageFits m × MessagesFit ms

    pub MessageFits : Message → Type 0
    MessageFits (unary_message n) = Unit {0}
    MessageFits (binary_message o u) = UnaryFits u
    MessageFits (keyword_message k b ks) = BinaryFits b × PartsFit ks

    pub ExpressionFits : Expression → Type 0
    ExpressionFits (expression ts c) = CascadeFits c

    pub StatementsFit : Statements → Type 0
    StatementsFit no_statements = Unit {0}
    StatementsFit (last e) = ExpressionFits e
    StatementsFit (next e p ss) = ExpressionFits e × StatementsFit ss
    StatementsFit (returned r e) = ExpressionFits e
    StatementsFit (returned_ended r e p) = ExpressionFits e

  abbrev pub MethodFits : Method → Type 0
  MethodFits (method p o ss) = StatementsFit ss

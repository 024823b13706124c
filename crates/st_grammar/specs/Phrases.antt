-- The grammar of methods, row by row: the forms of each phrase, and the leaves that it has.
use Rattle.std.specs.Prelude.{List, [], ◌∷◌, ◌++◌, IsTrue}
use Rattle.st_grammar.specs.declared.leaf.Leaf.{Leaf}
use Rattle.st_grammar.specs.declared.leaf.Kind.{Kind}
use Rattle.st_grammar.specs.declared.leaf.Kind.TheVariants.{Name, Keyword, Joined, Primitive, Bar, Less, Greater, Number, Constant, Opening, Return, Period, Semicolon, Colon, Assign, Open, Close, OpenBlock, CloseBlock}
use Rattle.st_grammar.specs.Leaves.{among, keywords, operators}

-- a leaf of one of these kinds
pub record One (kinds : List Kind) : Type 0 where
  pub leaf : Leaf
  pub fits : IsTrue (among kinds leaf)

abbrev pub names : List Kind
names = Name ∷ []

-- a literal of one token
abbrev pub constants : List Kind
constants = Number ∷ Constant ∷ []

-- an element of one token: a literal, or a name or an operator, which is a symbol without its #
abbrev pub plain_elements : List Kind
plain_elements = Number ∷ Constant ∷ Name ∷ operators

-- a keyword that is joined to none before it
abbrev pub first_keywords : List Kind
first_keywords = Keyword ∷ Primitive ∷ []

mutual
  -- element: a literal, where the # of symbols and of arrays may be missing; keywords that follow one another directly
  -- are one symbol
  pub data Element : Type 0 where
    plain : One plain_elements → Element
    keyword_symbol : One first_keywords → List (One (Joined ∷ [])) → Element
    nested : One (Opening ∷ Open ∷ []) → Elements → One (Close ∷ []) → Element

  pub data Elements : Type 0 where
    no_elements : Elements
    element : Element → Elements → Elements

-- literal: a number, a character, a string, a symbol, or #( elements )
pub data Literal : Type 0 where
  constant : One constants → Literal
  array : One (Opening ∷ []) → Elements → One (Close ∷ []) → Literal

-- a block's argument: a colon and a name
pub record Parameter : Type 0 where
  pub colon : One (Colon ∷ [])
  pub name : One names

-- a name and _ or :=
pub record Target : Type 0 where
  pub name : One names
  pub assign : One (Assign ∷ [])

mutual
  -- primary: a name, a literal, a block, or an expression in parentheses
  pub data Primary : Type 0 where
    name : One names → Primary
    literal : Literal → Primary
    block : One (OpenBlock ∷ []) → Block → One (CloseBlock ∷ []) → Primary
    group : One (Open ∷ []) → Expression → One (Close ∷ []) → Primary

  -- in a block: statements; or arguments, a | and statements; or arguments alone
  pub data Block : Type 0 where
    plain_block : Statements → Block
    full_block : Parameter → List Parameter → One (Bar ∷ []) → Statements → Block
    empty_block : Parameter → List Parameter → Block

  -- unary expression: a primary, then any times a name
  pub data Unary : Type 0 where
    unary : Primary → List (One names) → Unary

  -- binary expression: a unary expression, then any times an operator and a unary expression
  pub data Binary : Type 0 where
    binary : Unary → Operations → Binary

  pub data Operations : Type 0 where
    no_operations : Operations
    operation : One operators → Unary → Operations → Operations

  -- keyword expression: a binary expression, then any times a keyword and a binary expression, all one message
  pub data Keyworded : Type 0 where
    keyworded : Binary → Parts → Keyworded

  pub data Parts : Type 0 where
    no_parts : Parts
    part : One keywords → Binary → Parts → Parts

  -- cascade: a keyword expression, then any times a ; and a message
  pub data Cascade : Type 0 where
    cascade : Keyworded → Messages → Cascade

  pub data Messages : Type 0 where
    no_messages : Messages
    message : One (Semicolon ∷ []) → Message → Messages → Messages

  -- message: a name; an operator and a unary expression; once or more a keyword and a binary expression
  pub data Message : Type 0 where
    unary_message : One names → Message
    binary_message : One operators → Unary → Message
    keyword_message : One keywords → Binary → Parts → Message

  -- expression: any times a name and _ or :=, then a cascade
  pub data Expression : Type 0 where
    expression : List Target → Cascade → Expression

  -- statements: expressions separated by periods, the last one also behind ^, and maybe a period at the end; or none
  pub data Statements : Type 0 where
    no_statements : Statements
    last : Expression → Statements
    next : Expression → One (Period ∷ []) → Statements → Statements
    returned : One (Return ∷ []) → Expression → Statements
    returned_ended : One (Return ∷ []) → Expression → One (Period ∷ []) → Statements

-- a keyword of a pattern, and the name of its argument
pub record KeywordName : Type 0 where
  pub keyword : One keywords
  pub name : One names

-- pattern: a name; an operator and a name; once or more a keyword and a name
pub data Pattern : Type 0 where
  unary_pattern : One names → Pattern
  binary_pattern : One operators → One names → Pattern
  keyword_pattern : KeywordName → List KeywordName → Pattern

-- temporaries: | names |
pub record Temporaries : Type 0 where
  pub open_bar : One (Bar ∷ [])
  pub inside : List (One names)
  pub close_bar : One (Bar ∷ [])

-- primitive: <primitive: number>
pub record Primitive' : Type 0 where
  pub less : One (Less ∷ [])
  pub keyword : One (Primitive ∷ [])
  pub number : One (Number ∷ [])
  pub greater : One (Greater ∷ [])

-- temporaries and a primitive, each optional, in either order
pub data Options : Type 0 where
  no_options : Options
  with_temporaries : Temporaries → Options
  with_primitive : Primitive' → Options
  temporaries_first : Temporaries → Primitive' → Options
  primitive_first : Primitive' → Temporaries → Options

-- method: a pattern, the options, statements
pub data Method : Type 0 where
  method : Pattern → Options → Statements → Method

-- LEAVES

abbrev pub one_text : {kinds : List Kind} → One kinds → List Leaf
one_text o = o.leaf ∷ []

abbrev pub ones_text : {kinds : List Kind} → List (One kinds) → List Leaf
ones_text [] = []
ones_text (o ∷ os) = o.leaf ∷ ones_text os

abbrev mutual
  pub element_text : Element → List Leaf
  element_text (plain o) = o.leaf ∷ []
  element_text (keyword_symbol k ks) = k.leaf ∷ ones_text ks
  element_text (nested o es c) = o.leaf ∷ (elements_text es ++ c.leaf ∷ [])

  pub elements_text : Elements → List Leaf
  elements_text no_elements = []
  elements_text (element e es) = element_text e ++ elements_text es

abbrev pub literal_text : Literal → List Leaf
literal_text (constant o) = o.leaf ∷ []
literal_text (array o es c) = o.leaf ∷ (elements_text es ++ c.leaf ∷ [])

abbrev pub parameters_text : List Parameter → List Leaf
parameters_text [] = []
parameters_text (p ∷ ps) = p.colon.leaf ∷ p.name.leaf ∷ parameters_text ps

abbrev pub targets_text : List Target → List Leaf
targets_text [] = []
targets_text (t ∷ ts) = t.name.leaf ∷ t.assign.leaf ∷ targets_text ts

abbrev mutual
  pub primary_text : Primary → List Leaf
  primary_text (name o) = o.leaf ∷ []
  primary_text (literal l) = literal_text l
  primary_text (block o b c) = o.leaf ∷ (block_text b ++ c.leaf ∷ [])
  primary_text (group o e c) = o.leaf ∷ (expression_text e ++ c.leaf ∷ [])

  pub block_text : Block → List Leaf
  block_text (plain_block ss) = statements_text ss
  block_text (full_block p ps b ss) = parameters_text (p ∷ ps) ++ b.leaf ∷ statements_text ss
  block_text (empty_block p ps) = parameters_text (p ∷ ps)

  pub unary_text : Unary → List Leaf
  unary_text (unary p ns) = primary_text p ++ ones_text ns

  pub binary_text : Binary → List Leaf
  binary_text (binary u os) = unary_text u ++ operations_text os

  pub operations_text : Operations → List Leaf
  operations_text no_operations = []
  operations_text (operation o u os) = o.leaf ∷ (unary_text u ++ operations_text os)

  pub keyworded_text : Keyworded → List Leaf
  keyworded_text (keyworded b ks) = binary_text b ++ parts_text ks

  pub parts_text : Parts → List Leaf
  parts_text no_parts = []
  parts_text (part k b ks) = k.leaf ∷ (binary_text b ++ parts_text ks)

  pub cascade_text : Cascade → List Leaf
  cascade_text (cascade k ms) = keyworded_text k ++ messages_text ms

  pub messages_text : Messages → List Leaf
  messages_text no_messages = []
  messages_text (message s m ms) = s.leaf ∷ (message_text m ++ messages_text ms)

  pub message_text : Message → List Leaf
  message_text (unary_message n) = n.leaf ∷ []
  message_text (binary_message o u) = o.leaf ∷ unary_text u
  message_text (keyword_message k b ks) = k.leaf ∷ (binary_text b ++ parts_text ks)

  pub expression_text : Expression → List Leaf
  expression_text (expression ts c) = targets_text ts ++ cascade_text c

  pub statements_text : Statements → List Leaf
  statements_text no_statements = []
  statements_text (last e) = expression_text e
  statements_text (next e p ss) = expression_text e ++ p.leaf ∷ statements_text ss
  statements_text (returned r e) = r.leaf ∷ expression_text e
  statements_text (returned_ended r e p) = r.leaf ∷ (expression_text e ++ p.leaf ∷ [])

abbrev pub keyword_names_text : List KeywordName → List Leaf
keyword_names_text [] = []
keyword_names_text (k ∷ ks) = k.keyword.leaf ∷ k.name.leaf ∷ keyword_names_text ks

abbrev pub pattern_text : Pattern → List Leaf
pattern_text (unary_pattern n) = n.leaf ∷ []
pattern_text (binary_pattern o n) = o.leaf ∷ n.leaf ∷ []
pattern_text (keyword_pattern k ks) = keyword_names_text (k ∷ ks)

abbrev pub temporaries_text : Temporaries → List Leaf
temporaries_text t = t.open_bar.leaf ∷ (ones_text t.inside ++ t.close_bar.leaf ∷ [])

abbrev pub primitive_text : Primitive' → List Leaf
primitive_text p = p.less.leaf ∷ p.keyword.leaf ∷ p.number.leaf ∷ p.greater.leaf ∷ []

abbrev pub options_text : Options → List Leaf
options_text no_options = []
options_text (with_temporaries t) = temporaries_text t
options_text (with_primitive p) = primitive_text p
options_text (temporaries_first t p) = temporaries_text t ++ primitive_text p
options_text (primitive_first p t) = primitive_text p ++ temporaries_text t

abbrev pub method_text : Method → List Leaf
method_text (method p o ss) = pattern_text p ++ (options_text o ++ statements_text ss)

-- The text of a method's tree: its tokens in order, with one space between two of them. Temporaries come before the
-- primitive, an assignment is _, numbers stand in decimal, symbols and arrays have their #, a block with names has its |.
-- Parentheses stand round a receiver or an argument that binds too loosely there, and round a number with a sign that
-- stands directly behind the pattern.
use Rattle.std.specs.Prelude.{ℕ, Bool, true, false, List, [], ◌∷◌, ◌++◌, if◌then◌else◌, Option, Some, None, codes}
use Rattle.std.specs.Str.{byte}
use Rattle.std.specs.Char.{is_ascii_alphabetic}
use Rattle.st_scan.specs.declared.token.Signed.{Signed}
use Rattle.st_scan.specs.Views.{NameView, ContentView, ElementsView, ElementView, ExpressionView, StatementsView, MessagesView, ExpressionsView, MethodView}
use Rattle.st_scan.specs.Views as views
use Rattle.st_scan.specs.Pieces.{begins}
use Rattle.st_print.specs.declared.rank.Rank.{Rank}
use Rattle.st_print.specs.declared.rank.Rank.TheVariants.{Unary, Binary, Any}
use Rattle.st_print.specs.Words.{Word, name, keyword, operator, number, character, string, symbol, opening, mark, text_of, bar, grouped, wrapped, first_keyword, other_keywords}

-- LITERALS

abbrev mutual
  pub content_words : ContentView → List Word
  content_words (views.number n) = number n ∷ []
  content_words (views.character b) = character b ∷ []
  content_words (views.bytes text) = string text ∷ []
  content_words (views.symbol text) = symbol text ∷ []
  content_words (views.array es) = opening ∷ (elements_words es ++ mark (byte ")") ∷ [])
  content_words views.nil_object = name (codes "nil") ∷ []
  content_words views.false_object = name (codes "false") ∷ []
  content_words views.true_object = name (codes "true") ∷ []

  pub elements_words : ElementsView → List Word
  elements_words views.no_elements = []
  elements_words (views.element place what es) = content_words what ++ elements_words es

-- RANKS

-- where an expression of one rank is wanted, one of the other rank stands in parentheses
abbrev pub is_loose : (wanted made : Rank) → Bool
is_loose Any made = false
is_loose Binary Any = true
is_loose Binary made = false
is_loose Unary Unary = false
is_loose Unary made = true

-- keywords, or a name
abbrev pub is_word : List ℕ → Bool
is_word selector = begins is_ascii_alphabetic selector

-- a unary, a binary or a keyword message
abbrev pub rank_of_message : List ℕ → ExpressionsView → Rank
rank_of_message selector views.no_expressions = Unary
rank_of_message selector (views.expression e es) = if is_word selector then Any else Binary

-- one message, or a cascade
abbrev pub rank_of_messages : MessagesView → Rank
rank_of_messages (views.message selector es views.no_messages) = rank_of_message selector es
rank_of_messages ms = Any

abbrev pub rank_of : ExpressionView → Rank
rank_of (views.assign target e) = Any
rank_of (views.send receiver ms) = rank_of_messages ms
rank_of e = Unary

-- what the receiver of messages may be
abbrev pub receiver_rank : MessagesView → Rank
receiver_rank views.no_messages = Any
receiver_rank (views.message selector views.no_expressions ms) = Unary
receiver_rank (views.message selector (views.expression e es) ms) = Binary

-- EXPRESSIONS

abbrev pub parameter_words : List NameView → List Word
parameter_words [] = []
parameter_words (n ∷ ns) = mark (byte ":") ∷ name n.text ∷ parameter_words ns

-- a block's names, with a | behind them if there are any
abbrev pub parameters_words : List NameView → List Word
parameters_words [] = []
parameters_words (n ∷ ns) = parameter_words (n ∷ ns) ++ bar ∷ []

abbrev pub return_words : (returns : Bool) → List Word
return_words true = mark (byte "^") ∷ []
return_words false = []

abbrev mutual
  pub expression_words : ExpressionView → List Word
  expression_words (views.variable n) = name n.text ∷ []
  expression_words (views.literal e) = content_words e.what
  expression_words (views.block names body) = mark (byte "[") ∷ (parameters_words names ++ (statements_words body ++ mark (byte "]") ∷ []))
  expression_words (views.assign target e) = name target.text ∷ mark (byte "_") ∷ expression_words e
  expression_words (views.send receiver ms) = wrapped (is_loose (receiver_rank ms) (rank_of receiver)) (expression_words receiver) ++ messages_words ms

  pub statements_words : StatementsView → List Word
  statements_words views.no_statements = []
  statements_words (views.statement returns e ss) = return_words returns ++ (expression_words e ++ next_statements ss)

  pub next_statements : StatementsView → List Word
  next_statements views.no_statements = []
  next_statements (views.statement returns e ss) = mark (byte ".") ∷ (return_words returns ++ (expression_words e ++ next_statements ss))

  pub messages_words : MessagesView → List Word
  messages_words views.no_messages = []
  messages_words (views.message selector es ms) = message_words selector es ++ next_messages ms

  pub next_messages : MessagesView → List Word
  next_messages views.no_messages = []
  next_messages (views.message selector es ms) = mark (byte ";") ∷ (message_words selector es ++ next_messages ms)

  pub message_words : List ℕ → ExpressionsView → List Word
  message_words selector views.no_expressions = name selector ∷ []
  message_words selector (views.expression e es) =
      if is_word selector
      then keyword (first_keyword selector) ∷ (wrapped (is_loose Binary (rank_of e)) (expression_words e) ++ keyword_words (other_keywords selector) es)
      else operator selector ∷ wrapped (is_loose Unary (rank_of e)) (expression_words e)

  pub keyword_words : List ℕ → ExpressionsView → List Word
  keyword_words selector views.no_expressions = []
  keyword_words selector (views.expression e es) =
      keyword (first_keyword selector) ∷ (wrapped (is_loose Binary (rank_of e)) (expression_words e) ++ keyword_words (other_keywords selector) es)

-- an expression where one of a rank is wanted
abbrev pub placed : Rank → ExpressionView → List Word
placed wanted e = wrapped (is_loose wanted (rank_of e)) (expression_words e)

-- METHODS

abbrev pub names_words : List NameView → List Word
names_words [] = []
names_words (n ∷ ns) = name n.text ∷ names_words ns

abbrev pub keyword_pattern : List ℕ → List NameView → List Word
keyword_pattern selector [] = []
keyword_pattern selector (n ∷ ns) = keyword (first_keyword selector) ∷ name n.text ∷ keyword_pattern (other_keywords selector) ns

abbrev pub pattern_words : List ℕ → List NameView → List Word
pattern_words selector [] = name selector ∷ []
pattern_words selector (n ∷ ns) = if is_word selector then keyword_pattern selector (n ∷ ns) else operator selector ∷ name n.text ∷ []

abbrev pub temporaries_words : List NameView → List Word
temporaries_words [] = []
temporaries_words (n ∷ ns) = bar ∷ (names_words (n ∷ ns) ++ bar ∷ [])

abbrev pub primitive_words : Option Signed → List Word
primitive_words None = []
primitive_words (Some n) = operator (codes "<") ∷ keyword (codes "primitive:") ∷ number n ∷ operator (codes ">") ∷ []

abbrev pub options_words : List NameView → Option Signed → List Word
options_words temporaries primitive = temporaries_words temporaries ++ primitive_words primitive

-- a number with a sign that stands first
abbrev pub first_signed : List Word → Option Signed
first_signed (number n ∷ ws) = if n.minus then Some n else None
first_signed ws = None

-- such a number alone in parentheses
abbrev pub apart : Option Signed → List Word → List Word
apart (Some n) (w ∷ ws) = grouped (w ∷ []) ++ ws
apart first ws = ws

-- directly behind a pattern a - would be an operator
abbrev pub behind_pattern : (options body : List Word) → List Word
behind_pattern [] body = apart (first_signed body) body
behind_pattern (w ∷ ws) body = w ∷ ws ++ body

abbrev pub method_words : MethodView → List Word
method_words m = pattern_words m.selector m.arguments ++ behind_pattern (options_words m.temporaries m.primitive) (statements_words m.body)

abbrev pub printed : MethodView → List ℕ
printed m = text_of (method_words m)

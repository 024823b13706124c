-- What the tree of every text is: its names are names, each selector fits its arguments, no number is too great, nil, false
-- and true stand in arrays alone, ^ stands in the last statement, and `super` only receives messages.
use Rattle.std.specs.Prelude.{◌≡◌, ℕ, zero, suc, ◌≤◌, Bool, true, IsTrue, IsFalse, List, [], ◌∷◌, length, ◌⊎◌, Option, Some, None}
use Rattle.std.specs.List.{list_all}
use Rattle.st_scan.specs.declared.token.Signed.{Signed}
use Rattle.st_scan.specs.Views.{NameView, ContentView, ElementsView, ExpressionView, StatementsView, MessagesView, ExpressionsView, MethodView, is_super}
use Rattle.st_scan.specs.Views as views
use Rattle.st_scan.specs.Pieces.{is_name, is_operator, keywords_text, greatest}

-- SELECTORS

-- so many names, each with a colon behind it
pub record AreKeywords (selector : List ℕ) (count : ℕ) : Type 0 where
  pub names : List (List ℕ)
  pub are_names : IsTrue (list_all is_name names)
  pub is_joined : keywords_text names ≡ selector
  pub counted : length names ≡ count

-- a selector of so many arguments: a name of none; an operator of one; keywords of as many
abbrev pub IsSelector : List ℕ → ℕ → Type 0
IsSelector selector zero = IsTrue (is_name selector)
IsSelector selector (suc n) = (IsTrue (is_operator selector) × (n ≡ 0)) ⊎ AreKeywords selector (suc n)

-- a symbol is a selector
abbrev pub IsSymbol : List ℕ → Type 0
IsSymbol text = (n : ℕ) × IsSelector text n

-- LITERALS

abbrev mutual
  pub ContentFormed : ContentView → Type 0
  ContentFormed (views.number n) = n.size ≤ greatest
  ContentFormed (views.symbol text) = IsSymbol text
  ContentFormed (views.array es) = ElementsFormed es
  ContentFormed _ = Unit {0}

  pub ElementsFormed : ElementsView → Type 0
  ElementsFormed views.no_elements = Unit {0}
  ElementsFormed (views.element place what es) = ContentFormed what × ElementsFormed es

-- a literal that is no element
abbrev pub LiteralFormed : ContentView → Type 0
LiteralFormed views.nil_object = ⊥
LiteralFormed views.false_object = ⊥
LiteralFormed views.true_object = ⊥
LiteralFormed what = ContentFormed what

-- EXPRESSIONS

abbrev pub NamesFormed : List NameView → Type 0
NamesFormed [] = Unit {0}
NamesFormed (n ∷ ns) = IsTrue (is_name n.text) × NamesFormed ns

abbrev pub HasMessage : MessagesView → Type 0
HasMessage views.no_messages = ⊥
HasMessage (views.message selector es ms) = Unit {0}

-- nothing follows what is returned
abbrev pub MayFollow : (returns : Bool) → StatementsView → Type 0
MayFollow true (views.statement returns e ss) = ⊥
MayFollow returns ss = Unit {0}

abbrev pub count_of : ExpressionsView → ℕ
count_of views.no_expressions = 0
count_of (views.expression e es) = suc (count_of es)

abbrev mutual
  -- also `super` alone
  pub ReceiverFormed : ExpressionView → Type 0
  ReceiverFormed (views.variable n) = IsTrue (is_name n.text)
  ReceiverFormed (views.literal e) = LiteralFormed e.what
  ReceiverFormed (views.block names body) = NamesFormed names × StatementsFormed body
  ReceiverFormed (views.assign target e) = IsTrue (is_name target.text) × ReceiverFormed e × IsFalse (is_super e)
  ReceiverFormed (views.send receiver ms) = ReceiverFormed receiver × HasMessage ms × MessagesFormed ms

  pub StatementsFormed : StatementsView → Type 0
  StatementsFormed views.no_statements = Unit {0}
  StatementsFormed (views.statement returns e ss) = ReceiverFormed e × IsFalse (is_super e) × MayFollow returns ss × StatementsFormed ss

  pub MessagesFormed : MessagesView → Type 0
  MessagesFormed views.no_messages = Unit {0}
  MessagesFormed (views.message selector es ms) = IsSelector selector (count_of es) × ArgumentsFormed es × MessagesFormed ms

  pub ArgumentsFormed : ExpressionsView → Type 0
  ArgumentsFormed views.no_expressions = Unit {0}
  ArgumentsFormed (views.expression e es) = ReceiverFormed e × IsFalse (is_super e) × ArgumentsFormed es

-- METHODS

abbrev pub PrimitiveFormed : Option Signed → Type 0
PrimitiveFormed None = Unit {0}
PrimitiveFormed (Some n) = n.size ≤ greatest

-- a method's tree of this form
pub record IsWellFormed (m : MethodView) : Type 0 where
  pub selector : IsSelector m.selector (length m.arguments)
  pub arguments : NamesFormed m.arguments
  pub temporaries : NamesFormed m.temporaries
  pub primitive : PrimitiveFormed m.primitive
  pub body : StatementsFormed m.body

-- Reading from left to right, with the first fault that is met: what the code does, in steps. The grammar is in Phrases
-- and Trees; what is read here is what the grammar says.
use Rattle.std.specs.Prelude.{◌≡◌, ℕ, zero, suc, Bool, true, false, ◌&&◌, cond, if◌then◌else◌, List, [], ◌∷◌, ◌++◌, length, Result, Ok, Err, Option, Some, None}
use Rattle.st_scan.specs.declared.fault.Cause.{Cause}
use Rattle.st_scan.specs.declared.fault.Cause.TheVariants.{Expected, Deep, Trailing}
use Rattle.st_grammar.specs.declared.leaf.Leaf.{Leaf}
use Rattle.st_grammar.specs.declared.leaf.Kind.{Kind}
use Rattle.st_grammar.specs.declared.leaf.Kind.TheVariants.{Joined, Primitive, Bar, Less, Greater, Number, Opening, Return, Period, Semicolon, Colon, Assign, Open, Close, OpenBlock, CloseBlock}
use Rattle.st_grammar.specs.declared.read.ReadError.{ReadError}
use Rattle.st_grammar.specs.declared.read.ReadError.TheVariants as errors
use Rattle.st_grammar.specs.Leaves.{among, keywords, operators}
use Rattle.st_grammar.specs.Phrases.{names, constants, plain_elements, first_keywords}
use Rattle.st_grammar.specs.Trees.{bytes, name_at, constant_at, number_of, sent, sent_if}
use Rattle.st_scan.specs.declared.token.Signed.{Signed}
use Rattle.st_scan.specs.Views.{is_super, NameView, ElementView, ElementsView, ExpressionView, ExpressionsView, StatementsView, MethodView, with_element, with_expression, with_statement, with_sent}
use Rattle.st_scan.specs.Views as views

-- a fault, and how many leaves are left there
pub record Stop : Type 0 where
  pub cause : Cause
  pub left : ℕ

-- what is read, and the leaves behind it
abbrev pub Read : Type 0 → Type 0
Read A = Result (A × List Leaf) Stop

abbrev pub stop : {A : Type 0} → Cause → List Leaf → Read A
stop cause rest = Err (record { cause = cause; left = length rest })

infixl 10 ◌>>=◌
abbrev pub ◌>>=◌ : {A B : Type 0} → Result A Stop → (A → Result B Stop) → Result B Stop
(Ok x) >>= f = f x
(Err e) >>= f = Err e

-- What a function returned, seen by view, is what reading gives, unless memory ran out.
abbrev pub Fails : {Y : Type 0} → ReadError → Result Y Stop → Type 0
Fails errors.OutOfMemory read = Unit {0}
Fails (errors.Fault cause left) read = read ≡ Err (record { cause = cause; left = left })

abbrev pub Gives : {X Y : Type 0} → (X → Y) → Result X ReadError → Result Y Stop → Type 0
Gives view (Ok x) read = read ≡ Ok (view x)
Gives view (Err e) read = Fails e read

-- the first leaf passes
abbrev pub first : (Leaf → Bool) → List Leaf → Bool
first looks [] = false
first looks (x ∷ ts) = looks x

-- a leaf of one of these kinds
abbrev pub token_at : List Kind → List Leaf → Read Leaf
token_at kinds [] = stop Expected []
token_at kinds (x ∷ ts) = if among kinds x then Ok (x, ts) else stop Expected (x ∷ ts)

-- At most n steps, as long as the first leaf passes.
unfoldable pub many : {A : Type 0} → (A → Leaf → Bool) → (A → List Leaf → Read A) → ℕ → A → List Leaf → Read A
many looks step zero a ts = Ok (a, ts)
many looks step (suc n) a ts = cond (first (looks a) ts) (step a ts >>= λ x. many looks step n x.0 x.1) (Ok (a, ts))

-- what an element begins with
abbrev pub element_starts : List Kind
element_starts = Opening ∷ Open ∷ first_keywords ++ plain_elements

-- what a primary begins with
abbrev pub primary_starts : List Kind
primary_starts = Opening ∷ Open ∷ OpenBlock ∷ constants ++ names

abbrev pub statement_starts : List Kind
statement_starts = Return ∷ primary_starts

-- what a message begins with
abbrev pub message_starts : List Kind
message_starts = keywords ++ (operators ++ names)

-- a selector and its arguments, so far
pub record PartsView : Type 0 where
  pub selector : List ℕ
  pub arguments : ExpressionsView

abbrev pub no_parts_yet : PartsView
no_parts_yet = record { selector = []; arguments = views.no_expressions }

-- statements so far, and whether another one may follow
pub record BodyView : Type 0 where
  pub statements : StatementsView
  pub goes_on : Bool

-- a pattern's selector and its arguments, so far
pub record PatternView : Type 0 where
  pub selector : List ℕ
  pub arguments : List NameView

pub record OptionsView : Type 0 where
  pub temporaries : List NameView
  pub primitive : Option Signed

-- two leaves that are a name and an assignment
abbrev pub is_target : Leaf → Leaf → Bool
is_target x y = among names x && among (Assign ∷ []) y

-- whether a period stands first, and what is behind it
abbrev pub period_at : List Leaf → Bool × List Leaf
period_at [] = (false, [])
period_at (x ∷ ts) = if among (Period ∷ []) x then (true, ts) else (false, x ∷ ts)

-- the last one in the list is assigned first
abbrev pub assigned_to : List NameView → ExpressionView → ExpressionView
assigned_to [] t = t
assigned_to (n ∷ ns) t = views.assign n (assigned_to ns t)

-- another statement may follow, and begins
abbrev pub statement_looks : BodyView → Leaf → Bool
statement_looks b x = b.goes_on && among statement_starts x

-- a name that stands only before a message
abbrev pub checked_at : ExpressionView → List Leaf → Read ExpressionView
checked_at t ts = if is_super t then stop Expected ts else Ok (t, ts)

-- the number of a primitive
unfoldable pub primitive_at : List Leaf → Read Signed
primitive_at ts = token_at (Less ∷ []) ts >>= λ l. token_at (Primitive ∷ []) l.1 >>= λ k. token_at (Number ∷ []) k.1 >>= λ n. token_at (Greater ∷ []) n.1 >>= λ g. Ok (number_of n.0.token.sort, g.1)

-- nothing may be left behind a method
abbrev pub end_at : MethodView → List Leaf → Result MethodView Stop
end_at m [] = Ok m
end_at m (x ∷ ts) = Err (record { cause = Trailing; left = length (x ∷ ts) })

module _ (text : List ℕ) where
  -- LITERALS

  unfoldable pub joined_step : List ℕ → List Leaf → Read (List ℕ)
  joined_step bs ts = token_at (Joined ∷ []) ts >>= λ k. Ok (bs ++ bytes text k.0, k.1)

  unfoldable pub joined_at : List ℕ → List Leaf → Read (List ℕ)
  joined_at bs ts = many (λ _. among (Joined ∷ [])) joined_step (length ts) bs ts

  unfoldable pub keyword_symbol_at : List Leaf → Read ElementView
  keyword_symbol_at ts = token_at first_keywords ts >>= λ k. joined_at (bytes text k.0) k.1 >>= λ ks. Ok (record { place = k.0.place; what = views.symbol ks.0 }, ks.1)

  unfoldable pub constant_element_at : List Kind → List Leaf → Read ElementView
  constant_element_at kinds ts = token_at kinds ts >>= λ o. Ok (constant_at text o.0, o.1)

  unfoldable pub nested_at : (List Leaf → Read ElementsView) → List Kind → List Leaf → Read ElementView
  nested_at inner kinds ts = token_at kinds ts >>= λ o. inner o.1 >>= λ es. Ok (record { place = o.0.place; what = views.array es.0 }, es.1)

  unfoldable pub element_at : (List Leaf → Read ElementsView) → List Leaf → Read ElementView
  element_at inner ts =
      if first (among plain_elements) ts then constant_element_at plain_elements ts
      else (if first (among first_keywords) ts then keyword_symbol_at ts
      else nested_at inner (Opening ∷ Open ∷ []) ts)

  unfoldable pub elements_step : (List Leaf → Read ElementsView) → ElementsView → List Leaf → Read ElementsView
  elements_step inner es ts = element_at inner ts >>= λ e. Ok (with_element es e.0, e.1)

  unfoldable pub elements_at : (List Leaf → Read ElementsView) → ElementsView → List Leaf → Read ElementsView
  elements_at inner es ts = many (λ _. among element_starts) (elements_step inner) (length ts) es ts

  -- behind what opens an array, where n more brackets may be open
  unfoldable pub array_at : ℕ → List Leaf → Read ElementsView
  array_at zero ts = Err (record { cause = Deep; left = suc (length ts) })
  array_at (suc n) ts = elements_at (array_at n) views.no_elements ts >>= λ es. token_at (Close ∷ []) es.1 >>= λ c. Ok (es.0, c.1)

  -- EXPRESSIONS

  unfoldable pub names_step : ExpressionView → List Leaf → Read ExpressionView
  names_step t ts = token_at names ts >>= λ n. Ok (sent t (bytes text n.0) views.no_expressions, n.1)

  unfoldable pub names_at : ExpressionView → List Leaf → Read ExpressionView
  names_at t ts = many (λ _. among names) names_step (length ts) t ts

  unfoldable pub unary_message_at : ExpressionView → List Leaf → Read ExpressionView
  unary_message_at t ts = token_at names ts >>= λ n. Ok (with_sent t (bytes text n.0) views.no_expressions, n.1)

  unfoldable pub targets_at : List Leaf → List NameView × List Leaf
  targets_at (x ∷ y ∷ ts) = if is_target x y then (name_at text x ∷ (targets_at ts).0, (targets_at ts).1) else ([], x ∷ y ∷ ts)
  targets_at ts = ([], ts)

  unfoldable pub parameters_step : List NameView → List Leaf → Read (List NameView)
  parameters_step ns ts = token_at (Colon ∷ []) ts >>= λ c. token_at names c.1 >>= λ n. Ok (ns ++ name_at text n.0 ∷ [], n.1)

  unfoldable pub parameters_at : List NameView → List Leaf → Read (List NameView)
  parameters_at ns ts = many (λ _. among (Colon ∷ [])) parameters_step (length ts) ns ts

  -- `brackets` reads behind [ where it is told so, and else behind (
  module _ (arrays : List Leaf → Read ElementsView) (brackets : Bool → List Leaf → Read ExpressionView) where
    unfoldable pub name_primary_at : List Leaf → Read ExpressionView
    name_primary_at ts = token_at names ts >>= λ o. Ok (views.variable (name_at text o.0), o.1)

    unfoldable pub constant_primary_at : List Leaf → Read ExpressionView
    constant_primary_at ts = constant_element_at constants ts >>= λ e. Ok (views.literal e.0, e.1)

    unfoldable pub array_primary_at : List Leaf → Read ExpressionView
    array_primary_at ts = nested_at arrays (Opening ∷ []) ts >>= λ e. Ok (views.literal e.0, e.1)

    unfoldable pub block_primary_at : List Leaf → Read ExpressionView
    block_primary_at ts = token_at (OpenBlock ∷ []) ts >>= λ o. brackets true o.1 >>= λ e. Ok (e.0, e.1)

    unfoldable pub group_primary_at : List Leaf → Read ExpressionView
    group_primary_at ts = token_at (Open ∷ []) ts >>= λ o. brackets false o.1 >>= λ e. Ok (e.0, e.1)

    unfoldable pub primary_at : List Leaf → Read ExpressionView
    primary_at ts =
        if first (among names) ts then name_primary_at ts
        else (if first (among constants) ts then constant_primary_at ts
        else (if first (among (Opening ∷ [])) ts then array_primary_at ts
        else (if first (among (OpenBlock ∷ [])) ts then block_primary_at ts
        else group_primary_at ts)))

    -- also `super` alone
    unfoldable pub any_unary_at : List Leaf → Read ExpressionView
    any_unary_at ts = primary_at ts >>= λ p. names_at p.0 p.1

    unfoldable pub unary_at : List Leaf → Read ExpressionView
    unary_at ts = any_unary_at ts >>= λ u. checked_at u.0 u.1

    unfoldable pub operations_step : ExpressionView → List Leaf → Read ExpressionView
    operations_step t ts = token_at operators ts >>= λ o. unary_at o.1 >>= λ u. Ok (sent t (bytes text o.0) (views.expression u.0 views.no_expressions), u.1)

    unfoldable pub operations_at : ExpressionView → List Leaf → Read ExpressionView
    operations_at t ts = many (λ _. among operators) operations_step (length ts) t ts

    unfoldable pub any_binary_at : List Leaf → Read ExpressionView
    any_binary_at ts = primary_at ts >>= λ p. names_at p.0 p.1 >>= λ u. operations_at u.0 u.1

    unfoldable pub binary_at : List Leaf → Read ExpressionView
    binary_at ts = any_binary_at ts >>= λ b. checked_at b.0 b.1

    unfoldable pub parts_step : PartsView → List Leaf → Read PartsView
    parts_step s ts = token_at keywords ts >>= λ k. binary_at k.1 >>= λ b. Ok (record { selector = s.selector ++ bytes text k.0; arguments = with_expression s.arguments b.0 }, b.1)

    unfoldable pub parts_at : PartsView → List Leaf → Read PartsView
    parts_at s ts = many (λ _. among keywords) parts_step (length ts) s ts

    unfoldable pub keyword_at : ExpressionView → List Leaf → Read ExpressionView
    keyword_at t ts = parts_at no_parts_yet ts >>= λ ks. Ok (sent_if t ks.0.selector ks.0.arguments, ks.1)

    -- unary, binary and keyword messages, each kind maybe none
    unfoldable pub messages_at : ExpressionView → List Leaf → Read ExpressionView
    messages_at t ts = names_at t ts >>= λ u. operations_at u.0 u.1 >>= λ b. keyword_at b.0 b.1

    unfoldable pub binary_message_at : ExpressionView → List Leaf → Read ExpressionView
    binary_message_at t ts = token_at operators ts >>= λ o. unary_at o.1 >>= λ u. Ok (with_sent t (bytes text o.0) (views.expression u.0 views.no_expressions), u.1)

    unfoldable pub keyword_message_at : ExpressionView → List Leaf → Read ExpressionView
    keyword_message_at t ts = parts_step no_parts_yet ts >>= λ s. parts_at s.0 s.1 >>= λ ks. Ok (with_sent t ks.0.selector ks.0.arguments, ks.1)

    unfoldable pub message_at : ExpressionView → List Leaf → Read ExpressionView
    message_at t ts =
        if first (among names) ts then unary_message_at t ts
        else (if first (among operators) ts then binary_message_at t ts
        else keyword_message_at t ts)

    unfoldable pub cascade_step : ExpressionView → List Leaf → Read ExpressionView
    cascade_step t ts = token_at (Semicolon ∷ []) ts >>= λ s. message_at t s.1

    unfoldable pub cascades_at : ExpressionView → List Leaf → Read ExpressionView
    cascades_at t ts = many (λ _. among (Semicolon ∷ [])) cascade_step (length ts) t ts

    -- messages and a cascade, where a message stands first
    unfoldable pub sends_at : ExpressionView → List Leaf → Read ExpressionView
    sends_at t ts = if first (among message_starts) ts then (messages_at t ts >>= λ m. cascades_at m.0 m.1) else Ok (t, ts)

    unfoldable pub any_cascade_at : List Leaf → Read ExpressionView
    any_cascade_at ts = primary_at ts >>= λ p. sends_at p.0 p.1

    unfoldable pub cascade_at : List Leaf → Read ExpressionView
    cascade_at ts = any_cascade_at ts >>= λ c. checked_at c.0 c.1

    unfoldable pub expression_at : List Leaf → Read ExpressionView
    expression_at ts = cascade_at (targets_at ts).1 >>= λ c. Ok (assigned_to (targets_at ts).0 c.0, c.1)

    unfoldable pub returned_at : BodyView → List Leaf → Read BodyView
    returned_at b ts = token_at (Return ∷ []) ts >>= λ r. expression_at r.1 >>= λ e. Ok (record { statements = with_statement b.statements true e.0; goes_on = false }, (period_at e.1).1)

    unfoldable pub plain_at : BodyView → List Leaf → Read BodyView
    plain_at b ts = expression_at ts >>= λ e. Ok (record { statements = with_statement b.statements false e.0; goes_on = (period_at e.1).0 }, (period_at e.1).1)

    unfoldable pub statement_step : BodyView → List Leaf → Read BodyView
    statement_step b ts = if first (among (Return ∷ [])) ts then returned_at b ts else plain_at b ts

    unfoldable pub body_at : BodyView → List Leaf → Read BodyView
    body_at b ts = many statement_looks statement_step (length ts) b ts

    unfoldable pub statements_at : List Leaf → Read StatementsView
    statements_at ts = body_at (record { statements = views.no_statements; goes_on = true }) ts >>= λ b. Ok (b.0.statements, b.1)

    -- a block behind its arguments
    unfoldable pub argument_body_at : List NameView → List Leaf → Read ExpressionView
    argument_body_at ns ts =
        if first (among (Bar ∷ [])) ts then (token_at (Bar ∷ []) ts >>= λ b. statements_at b.1 >>= λ ss. Ok (views.block ns ss.0, ss.1))
        else Ok (views.block ns views.no_statements, ts)

    unfoldable pub argument_block_at : List Leaf → Read ExpressionView
    argument_block_at ts = parameters_step [] ts >>= λ p. parameters_at p.0 p.1 >>= λ ns. argument_body_at ns.0 ns.1

    unfoldable pub plain_block_at : List Leaf → Read ExpressionView
    plain_block_at ts = statements_at ts >>= λ ss. Ok (views.block [] ss.0, ss.1)

    unfoldable pub block_at : List Leaf → Read ExpressionView
    block_at ts = if first (among (Colon ∷ [])) ts then argument_block_at ts else plain_block_at ts

  -- behind [ or (, where n more brackets may be open
  unfoldable pub bracket_at : ℕ → Bool → List Leaf → Read ExpressionView
  bracket_at zero square ts = Err (record { cause = Deep; left = suc (length ts) })
  bracket_at (suc n) true ts = block_at (array_at n) (bracket_at n) ts >>= λ e. token_at (CloseBlock ∷ []) e.1 >>= λ c. Ok (e.0, c.1)
  bracket_at (suc n) false ts = expression_at (array_at n) (bracket_at n) ts >>= λ e. token_at (Close ∷ []) e.1 >>= λ c. Ok (e.0, c.1)

  -- METHODS

  unfoldable pub pattern_step : PatternView → List Leaf → Read PatternView
  pattern_step p ts = token_at keywords ts >>= λ k. token_at names k.1 >>= λ n. Ok (record { selector = p.selector ++ bytes text k.0; arguments = p.arguments ++ name_at text n.0 ∷ [] }, n.1)

  unfoldable pub keyword_names_at : PatternView → List Leaf → Read PatternView
  keyword_names_at p ts = many (λ _. among keywords) pattern_step (length ts) p ts

  unfoldable pub unary_pattern_at : List Leaf → Read PatternView
  unary_pattern_at ts = token_at names ts >>= λ n. Ok (record { selector = bytes text n.0; arguments = [] }, n.1)

  unfoldable pub binary_pattern_at : List Leaf → Read PatternView
  binary_pattern_at ts = token_at operators ts >>= λ o. token_at names o.1 >>= λ n. Ok (record { selector = bytes text o.0; arguments = name_at text n.0 ∷ [] }, n.1)

  unfoldable pub keyword_pattern_at : List Leaf → Read PatternView
  keyword_pattern_at ts = pattern_step (record { selector = []; arguments = [] }) ts >>= λ p. keyword_names_at p.0 p.1

  unfoldable pub pattern_at : List Leaf → Read PatternView
  pattern_at ts =
      if first (among names) ts then unary_pattern_at ts
      else (if first (among operators) ts then binary_pattern_at ts
      else keyword_pattern_at ts)

  unfoldable pub name_step : List NameView → List Leaf → Read (List NameView)
  name_step ns ts = token_at names ts >>= λ n. Ok (ns ++ name_at text n.0 ∷ [], n.1)

  unfoldable pub name_list_at : List NameView → List Leaf → Read (List NameView)
  name_list_at ns ts = many (λ _. among names) name_step (length ts) ns ts

  unfoldable pub temporaries_at : List Leaf → Read (List NameView)
  temporaries_at ts = token_at (Bar ∷ []) ts >>= λ o. name_list_at [] o.1 >>= λ ns. token_at (Bar ∷ []) ns.1 >>= λ c. Ok (ns.0, c.1)

  -- temporaries, and a primitive if one follows
  unfoldable pub temporaries_first_at : List Leaf → Read OptionsView
  temporaries_first_at ts = temporaries_at ts >>= λ t.
      if first (among (Less ∷ [])) t.1 then (primitive_at t.1 >>= λ p. Ok (record { temporaries = t.0; primitive = Some p.0 }, p.1))
      else Ok (record { temporaries = t.0; primitive = None }, t.1)

  -- a primitive, and temporaries if they follow
  unfoldable pub primitive_first_at : List Leaf → Read OptionsView
  primitive_first_at ts = primitive_at ts >>= λ p.
      if first (among (Bar ∷ [])) p.1 then (temporaries_at p.1 >>= λ t. Ok (record { temporaries = t.0; primitive = Some p.0 }, t.1))
      else Ok (record { temporaries = []; primitive = Some p.0 }, p.1)

  unfoldable pub options_at : List Leaf → Read OptionsView
  options_at ts =
      if first (among (Bar ∷ [])) ts then temporaries_first_at ts
      else (if first (among (Less ∷ [])) ts then primitive_first_at ts
      else Ok (record { temporaries = []; primitive = None }, ts))

  unfoldable pub method_at : ℕ → List Leaf → Read MethodView
  method_at room ts = pattern_at ts >>= λ p. options_at p.1 >>= λ o. statements_at (array_at room) (bracket_at room) o.1 >>= λ ss.
      Ok (record { selector = p.0.selector; arguments = p.0.arguments; temporaries = o.0.temporaries; primitive = o.0.primitive; body = ss.0 }, ss.1)

  -- a method that the leaves are, all of them
  unfoldable pub whole_at : ℕ → List Leaf → Result MethodView Stop
  whole_at room ts = method_at room ts >>= λ m. end_at m.0 m.1

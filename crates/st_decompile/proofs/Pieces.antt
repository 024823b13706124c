-- What lies on the stack when nodes, statements and arguments have been read.
use Rattle.std.proofs.Common.{◌≡◌, ℕ, zero, suc, ◌+◌, ◌<◌, true, false, List, [], ◌∷◌, Option, Some, refl, ap, ◌∙◌, arith, ne_eqb, eq-eqb}
use Rattle.st_scan.specs.Views.{ExpressionsView, StatementsView, MessagesView, no_statements, no_messages, no_expressions, with_message}
use Rattle.st_scan.specs.Views as views
use Rattle.st_emit.specs.declared.instruction.Constant.TheVariants.{Receiver, Nil}
use Rattle.st_emit.specs.declared.instruction.InstructionOperand.{InstructionOperand}
use Rattle.st_emit.specs.declared.instruction.InstructionOperand.TheVariants.{Temporary}
use Rattle.st_emit.specs.Steps.{size}
use Rattle.st_emit.specs.Nodes.{Node, Body, nothing, last, next, returned, Messages, only, also, Nodes, none, node, count}
use Rattle.st_emit.specs.Emitting.{for_value, for_effect, code_of}
use Rattle.st_resolved.proofs.Sizes.{code_some}
use Rattle.st_expression_stack.specs.Items.{Piece, Item, piece, cascade, again, answered, argument, over, back, no_arguments, leaf, Taken, statements_before, statements_of, arguments_of, Acted, statements_from}
use Rattle.st_expression_stack.specs.Choosing.{constant_tree}
use Rattle.st_expression_stack.specs.Messages.{with_arguments, popped}
use Rattle.st_decompile.specs.Back.{places_from, tree_of, body_tree, messages_tree, messages_list, nodes_tree, least, body_least, nodes_least, high, body_high, nodes_high, method_tree, method_least, method_high}

module _ (name_of : InstructionOperand → List ℕ) where
  abbrev pub piece_of : Node → ℕ → Piece
  piece_of n at = record { returns = false; tree = tree_of name_of n; start = at; least = least n; height = high n }

  abbrev pub body_items : Body → ℕ → List Item → List Item
  body_items nothing at items = piece (leaf (constant_tree Nil) at) ∷ items
  body_items (last n) at items = piece (piece_of n at) ∷ items
  body_items (next n b) at items = body_items b (at + size (code_of for_effect n)) (piece (piece_of n at) ∷ items)
  body_items (returned n) at items = piece (record (piece_of n at) { returns = true }) ∷ items

  abbrev pub body_taken : Body → StatementsView → (l h : ℕ) → List Item → Taken
  body_taken b ss l h items = record { statements = body_tree name_of b ss; least = body_least b l; height = body_high b h; below = items }

  -- STATEMENTS

  pub body_before : (b : Body) (at : ℕ) (ss : StatementsView) (l h : ℕ) (items : List Item)
      → statements_before ss l h (body_items b at items) ≡ statements_before (body_tree name_of b ss) (body_least b l) (body_high b h) items
  body_before (next n b) at ss l h items = body_before b (at + size (code_of for_effect n)) ss l h (piece (piece_of n at) ∷ items)
  body_before b at ss l h items = refl

  -- in a region of their own
  pub body_alone : (b : Body) (at : ℕ) → statements_of (body_items b at []) ≡ body_taken b no_statements no_arguments 0 []
  body_alone b at = body_before b at no_statements no_arguments 0 []

  -- behind the arguments of a block
  abbrev pub argument_items : (first n : ℕ) → List Item → List Item
  argument_items first zero items = items
  argument_items first (suc n) items = argument_items first n (argument (Temporary (first + n)) ∷ items)

  abbrev pub IsBare : List Item → Type 0
  IsBare (piece p ∷ items) = ⊥
  IsBare items = Unit {0}

  pub arguments_bare : (first n : ℕ) (items : List Item) → IsBare items → IsBare (argument_items first n items)
  arguments_bare first zero items h = h
  arguments_bare first (suc n) items h = arguments_bare first n (argument (Temporary (first + n)) ∷ items) tt

  pub bare_taken : (items : List Item) (ss : StatementsView) (l h : ℕ) → IsBare items → statements_before ss l h items ≡ record { statements = ss; least = l; height = h; below = items }
  bare_taken [] ss l h i = refl
  bare_taken (piece p ∷ items) ss l h i = absurd i
  bare_taken (cascade p ms ∷ items) ss l h i = refl
  bare_taken (again ∷ items) ss l h i = refl
  bare_taken (answered ∷ items) ss l h i = refl
  bare_taken (argument p ∷ items) ss l h i = refl
  bare_taken (over d ∷ items) ss l h i = refl
  bare_taken (back d ∷ items) ss l h i = refl

  pub body_bare : (b : Body) (at : ℕ) (items : List Item) → IsBare items → statements_of (body_items b at items) ≡ body_taken b no_statements no_arguments 0 items
  body_bare b at items i = body_before b at no_statements no_arguments 0 items ∙ bare_taken items (body_tree name_of b no_statements) (body_least b no_arguments) (body_high b 0) i

  pub arguments_are : (first n : ℕ) (items : List Item) → arguments_of (argument_items first n items) ≡ places_from first n (arguments_of items)
  arguments_are first zero items = refl
  arguments_are first (suc n) items = arguments_are first n (argument (Temporary (first + n)) ∷ items)

  -- from a place on
  pub body_later : (b : Body) (top at : ℕ) (ss : StatementsView) (l h : ℕ) (items : List Item) → top < at
      → statements_from top ss l h (body_items b at items) ≡ statements_from top (body_tree name_of b ss) (body_least b l) (body_high b h) items
  body_later nothing top at ss l h items i = rw (ne_eqb at top (λ e. absurd (omega (arith, e, i)))) refl
  body_later (last n) top at ss l h items i = rw (ne_eqb at top (λ e. absurd (omega (arith, e, i)))) refl
  body_later (returned n) top at ss l h items i = rw (ne_eqb at top (λ e. absurd (omega (arith, e, i)))) refl
  body_later (next n b) top at ss l h items i =
      let later : top < at + size (code_of for_effect n) = omega (arith, i) in
      body_later b top (at + size (code_of for_effect n)) ss l h (piece (piece_of n at) ∷ items) later ∙ rw (ne_eqb at top (λ e. absurd (omega (arith, e, i)))) refl

  pub body_from : (b : Body) (at : ℕ) (ss : StatementsView) (l h : ℕ) (items : List Item)
      → statements_from at ss l h (body_items b at items) ≡ Some (body_taken b ss l h items)
  body_from nothing at ss l h items = rw (eq-eqb at at refl) refl
  body_from (last n) at ss l h items = rw (eq-eqb at at refl) refl
  body_from (returned n) at ss l h items = rw (eq-eqb at at refl) refl
  body_from (next n b) at ss l h items =
      let later : at < at + size (code_of for_effect n) = omega (arith, code_some for_effect n) in
      body_later b at (at + size (code_of for_effect n)) ss l h (piece (piece_of n at) ∷ items) later ∙ rw (eq-eqb at at refl) refl

  pub body_popped : (b : Body) (at : ℕ) (items : List Item) → popped (body_items b at items) ≡ body_items b at items
  body_popped nothing at items = refl
  body_popped (last n) at items = refl
  body_popped (next n b) at items = body_popped b (at + size (code_of for_effect n)) (piece (piece_of n at) ∷ items)
  body_popped (returned n) at items = refl

  -- ARGUMENTS

  abbrev pub nodes_items : Nodes → ℕ → List Item → List Item
  nodes_items none at items = items
  nodes_items (node n ns) at items = nodes_items ns (at + size (code_of for_value n)) (piece (piece_of n at) ∷ items)

  pub nodes_before : (ns : Nodes) (k m at : ℕ) (es : ExpressionsView) (l h : ℕ) (items : List Item) (f : ExpressionsView → (l h : ℕ) → List Item → Option Acted) → m ≡ count ns + k
      → with_arguments m es l h (nodes_items ns at items) f ≡ with_arguments k (nodes_tree name_of ns es) (nodes_least ns l) (nodes_high ns h) items f
  nodes_before none k m at es l h items f e = let same : m ≡ k = omega (arith, e) in ap (λ (i : ℕ). with_arguments i es l h items f) same
  nodes_before (node n ns) k m at es l h items f e =
      let more : m ≡ count ns + suc k = omega (arith, e) in
      nodes_before ns (suc k) m (at + size (code_of for_value n)) es l h (piece (piece_of n at) ∷ items) f more

  pub nodes_taken : (ns : Nodes) (at : ℕ) (items : List Item) (f : ExpressionsView → (l h : ℕ) → List Item → Option Acted)
      → with_arguments (count ns) no_expressions no_arguments 0 (nodes_items ns at items) f ≡ f (nodes_tree name_of ns no_expressions) (nodes_least ns no_arguments) (nodes_high ns 0) items
  nodes_taken ns at items f = let all : count ns ≡ count ns + 0 = omega arith in nodes_before ns 0 (count ns) at no_expressions no_arguments 0 items f all

  -- STATEMENTS OF A METHOD

  abbrev pub method_items : Body → ℕ → List Item → List Item
  method_items nothing at items = piece (record (leaf (constant_tree Receiver) at) { returns = true }) ∷ items
  method_items (last n) at items = piece (record (leaf (constant_tree Receiver) (at + size (code_of for_effect n))) { returns = true }) ∷ piece (piece_of n at) ∷ items
  method_items (next n b) at items = method_items b (at + size (code_of for_effect n)) (piece (piece_of n at) ∷ items)
  method_items (returned n) at items = piece (record (piece_of n at) { returns = true }) ∷ items

  -- MESSAGES

  -- messages behind others
  abbrev pub appended : MessagesView → MessagesView → MessagesView
  appended views.no_messages more = more
  appended (views.message s es ms) more = views.message s es (appended ms more)

  one_more : (done : MessagesView) (s : List ℕ) (es : ExpressionsView) → with_message done s es ≡ appended done (views.message s es no_messages)
  one_more views.no_messages s es = refl
  one_more (views.message t fs ms) s es = ap (λ (m : MessagesView). views.message t fs m) (one_more ms s es)

  appended_on : (done : MessagesView) (s : List ℕ) (es : ExpressionsView) (more : MessagesView) → appended (appended done (views.message s es no_messages)) more ≡ appended done (views.message s es more)
  appended_on views.no_messages s es more = refl
  appended_on (views.message t fs ms) s es more = ap (λ (m : MessagesView). views.message t fs m) (appended_on ms s es more)

  pub listed : (ms : Messages) (done : MessagesView) → messages_tree name_of done ms ≡ appended done (messages_list name_of ms)
  listed (only s ns) done = one_more done s.selector (nodes_tree name_of ns no_expressions)
  listed (also s ns ms) done =
      let es = nodes_tree name_of ns no_expressions in
      ap (λ (d : MessagesView). messages_tree name_of d ms) (one_more done s.selector es) ∙ listed ms (appended done (views.message s.selector es no_messages)) ∙ appended_on done s.selector es (messages_list name_of ms)

  pub method_before : (b : Body) (at : ℕ) (ss : StatementsView) (l h : ℕ) (items : List Item)
      → statements_before ss l h (method_items b at items) ≡ statements_before (method_tree name_of b ss) (method_least b l) (method_high b h) items
  method_before (next n b) at ss l h items = method_before b (at + size (code_of for_effect n)) ss l h (piece (piece_of n at) ∷ items)
  method_before b at ss l h items = refl

  pub method_taken : (b : Body) → statements_of (method_items b 0 []) ≡ record { statements = method_tree name_of b no_statements; least = method_least b no_arguments; height = method_high b 0; below = [] }
  method_taken b = method_before b 0 no_statements no_arguments 0 []

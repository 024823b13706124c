-- A text nests its brackets at least as deep as what is printed of its tree.
use Rattle.std.proofs.Common.{◌≡◌, ℕ, ◌+◌, ◌≤◌, max, Bool, true, false, cond, List, [], ◌∷◌, ◌++◌, refl, sym, subst, arith}
use Rattle.std.specs.Prelude.{IsTrue, codes, bytes_eq}
use Rattle.std.specs.Str.{byte}
use Rattle.std.proofs.lemmas.List.{append-nil}
use Rattle.st_scan.specs.declared.token.Sort.{Sort}
use Rattle.st_scan.specs.declared.token.Sort.TheVariants as sorts
use Rattle.st_scan.specs.Views.{ContentView, ExpressionView, ExpressionsView, MessagesView, StatementsView, with_message, with_sent}
use Rattle.st_scan.specs.Views as views
use Rattle.st_grammar.specs.declared.leaf.Leaf.{Leaf}
use Rattle.st_grammar.specs.declared.leaf.Kind.TheVariants.{Opening, Open, OpenBlock}
use Rattle.st_grammar.specs.Leaves.{among, keywords, operators, openings}
use Rattle.st_grammar.specs.Faults.{height, highest}
use Rattle.st_grammar.specs.Phrases.{One, names, Element, plain, keyword_symbol, nested, Elements, no_elements, element, Literal, constant, array, Target, Primary, name, literal, block, group, Block, plain_block, full_block, empty_block, Unary, unary, Binary, binary, Operations, no_operations, operation, keyworded, Parts, no_parts, part, Cascade, cascade, Messages, no_messages, message, Message, unary_message, binary_message, keyword_message, Expression, expression, Statements, no_statements, last, next, returned, returned_ended, Method, method, ones_text, element_text, elements_text, literal_text, parameters_text, targets_text, primary_text, block_text, unary_text, binary_text, operations_text, keyworded_text, parts_text, cascade_text, messages_text, message_text, expression_text, statements_text, pattern_text, options_text, method_text}
use Rattle.st_grammar.specs.Trees.{bytes, sent, sent_if, content_of, word_content, element_tree, elements_tree, literal_tree, assigned, after_names, selector_of, primary_tree, block_tree, unary_tree, binary_tree, after_operations, keyworded_tree, arguments_of, cascade_tree, after_messages, with_one, expression_tree, statements_tree, method_tree, PrimaryFits, BlockFits, UnaryFits, BinaryFits, OperationsFit, PartsFit, CascadeFits, MessagesFit, MessageFits, ExpressionFits, StatementsFit, MethodFits}
use Rattle.st_grammar.specs.inside.Formed.{HasMessage, ReceiverFormed}
use Rattle.st_grammar.proofs.KindSets.{within}
use Rattle.st_grammar.proofs.Heights.{highest_append, highest_grows, highest_bracket}
use Rattle.st_grammar.proofs.Balanced.{elements_balanced, block_balanced, expression_balanced, closes, closes_block}
use Rattle.st_grammar.proofs.FormedLeaves.{IsLeaf, Each, each_front, each_back, keyword_formed, operator_formed}
use Rattle.st_grammar.proofs.FormedTrees.{cascade_formed}
use Rattle.st_scan.specs.Pieces.{is_name}
use Rattle.st_print.specs.declared.rank.Rank.{Rank}
use Rattle.st_print.specs.declared.rank.Rank.TheVariants as ranks
use Rattle.st_print.specs.Printed.{is_loose, is_word, rank_of}
use Rattle.st_print.proofs.Selectors.{operator_no_word, name_word}
use Rattle.st_print.proofs.Nesting.{content_nesting, elements_nesting, wrapped_nesting, argument_rank, nesting, statements_nesting, messages_nesting, arguments_nesting, placed_nesting}

-- LEAVES

front_low : (a b : List Leaf) → highest 0 a ≤ highest 0 (a ++ b)
front_low a b = omega (arith, highest_append 0 a b)

back_low : (a b : List Leaf) → highest 0 b ≤ highest 0 (a ++ b)
back_low a b = let none : 0 ≤ height 0 a = omega arith in omega (arith, highest_append 0 a b, highest_grows 0 (height 0 a) b none)

behind_one : (x : Leaf) (b : List Leaf) → highest 0 b ≤ highest 0 (x ∷ b)
behind_one x b = back_low (x ∷ []) b

-- RANKS

pub wrapped_least : (b : Bool) (n : ℕ) → n ≤ wrapped_nesting b n
wrapped_least true n = omega arith
wrapped_least false n = omega arith

wrapped_most : (b : Bool) (n : ℕ) → wrapped_nesting b n ≤ n + 1
wrapped_most true n = omega arith
wrapped_most false n = omega arith

-- what is loose before an operator is loose before a name too
looser : (r : Rank) (n : ℕ) → wrapped_nesting (is_loose ranks.Binary r) n ≤ wrapped_nesting (is_loose ranks.Unary r) n
looser ranks.Unary n = omega arith
looser ranks.Binary n = omega arith
looser ranks.Any n = omega arith

operator_sent : (t : ExpressionView) (o : List ℕ) (u : ExpressionView) → is_word o ≡ false
    → placed_nesting ranks.Binary (sent t o (views.expression u views.no_expressions)) ≡ max (placed_nesting ranks.Binary t) (placed_nesting ranks.Unary u)
operator_sent t o u other = rw other (omega arith)

keyword_arguments : (s : List ℕ) (es : ExpressionsView) → is_word s ≡ true → arguments_nesting (argument_rank s) es ≡ arguments_nesting ranks.Binary es
keyword_arguments s es word = rw word refl

operator_argument : (o : List ℕ) (u : ExpressionView) → is_word o ≡ false → arguments_nesting (argument_rank o) (views.expression u views.no_expressions) ≡ placed_nesting ranks.Unary u
operator_argument o u other = rw other (omega arith)

-- a send has messages
abbrev Sends : ExpressionView → Type 0
Sends (views.send r ms) = HasMessage ms
Sends _ = Unit {0}

formed_sends : (t : ExpressionView) → ReceiverFormed t → Sends t
formed_sends (views.send r ms) f = f.1
formed_sends (views.variable n) f = tt
formed_sends (views.literal e) f = tt
formed_sends (views.block ns body) f = tt
formed_sends (views.assign target e) f = tt

more_messages : (ms : MessagesView) (s : List ℕ) (es : ExpressionsView) → messages_nesting (with_message ms s es) ≡ max (messages_nesting ms) (arguments_nesting (argument_rank s) es)
more_messages views.no_messages s es = omega arith
more_messages (views.message t fs ms) s es = omega (arith, more_messages ms s es)

-- one more message to what receives some
record SentDeep (t : ExpressionView) (s : List ℕ) (es : ExpressionsView) : Type 0 where
  sends : Sends (with_sent t s es)
  low : nesting (with_sent t s es) ≤ max (nesting t) (arguments_nesting (argument_rank s) es)

sent_deep : (t : ExpressionView) (s : List ℕ) (es : ExpressionsView) → Sends t → SentDeep t s es
sent_deep (views.send r views.no_messages) s es h = absurd h
sent_deep (views.send r (views.message k views.no_expressions ms)) s es h = record { sends = tt; low = omega (arith, more_messages ms s es) }
sent_deep (views.send r (views.message k (views.expression f fs) ms)) s es h = record { sends = tt; low = omega (arith, more_messages ms s es) }
sent_deep (views.variable n) s es h = record { sends = tt; low = omega arith }
sent_deep (views.literal e) s es h = record { sends = tt; low = omega arith }
sent_deep (views.block ns body) s es h = record { sends = tt; low = omega arith }
sent_deep (views.assign target e) s es h = record { sends = tt; low = omega arith }

-- LITERALS

flat_choice : (b : Bool) (x y : ContentView) → content_nesting x ≡ 0 → content_nesting y ≡ 0 → content_nesting (cond b x y) ≡ 0
flat_choice true x y p q = p
flat_choice false x y p q = q

flat_word : (b : List ℕ) → content_nesting (word_content b) ≡ 0
flat_word b =
    flat_choice (bytes_eq b (codes "nil")) views.nil_object _ refl
    (flat_choice (bytes_eq b (codes "false")) views.false_object _ refl
    (flat_choice (bytes_eq b (codes "true")) views.true_object (views.symbol b) refl refl))

flat : (s : Sort) (b : List ℕ) → content_nesting (content_of s b) ≡ 0
flat (sorts.Number n) b = refl
flat (sorts.Character c) b = refl
flat sorts.Bytes b = refl
flat sorts.Symbol b = refl
flat sorts.Name b = flat_word b
flat sorts.Keyword b = refl
flat sorts.Operator b = refl
flat sorts.Opening b = refl
flat sorts.Mark b = refl

module _ (text : List ℕ) where
  mutual
    element_deep : (x : Element) → content_nesting (element_tree text x).what ≤ highest 0 (element_text x)
    element_deep (plain o) = omega (arith, flat o.leaf.token.sort (bytes text o.leaf))
    element_deep (keyword_symbol k ks) = omega arith
    element_deep (nested o es c) =
        omega (arith, elements_deep es, highest_bracket o.leaf (elements_text es) c.leaf (within (Opening ∷ Open ∷ []) openings refl o.leaf o.fits) (closes c).0 (closes c).1 (elements_balanced es) 0)

    elements_deep : (es : Elements) → elements_nesting (elements_tree text es) ≤ highest 0 (elements_text es)
    elements_deep no_elements = omega arith
    elements_deep (element x es) = omega (arith, element_deep x, elements_deep es, front_low (element_text x) (elements_text es), back_low (element_text x) (elements_text es))

  literal_deep : (l : Literal) → content_nesting (literal_tree text l).what ≤ highest 0 (literal_text l)
  literal_deep (constant o) = omega (arith, flat o.leaf.token.sort (bytes text o.leaf))
  literal_deep (array o es c) =
      omega (arith, elements_deep es, highest_bracket o.leaf (elements_text es) c.leaf (within (Opening ∷ []) openings refl o.leaf o.fits) (closes c).0 (closes c).1 (elements_balanced es) 0)

  -- EXPRESSIONS

  names_deep : (t : ExpressionView) (ns : List (One names)) → placed_nesting ranks.Unary (after_names text t ns) ≤ placed_nesting ranks.Unary t
  names_deep t [] = omega arith
  names_deep t (n ∷ ns) = omega (arith, names_deep (sent t (bytes text n.leaf) views.no_expressions) ns)

  no_word : (o : Leaf) → IsLeaf text o → among operators o ≡ true → is_word (bytes text o) ≡ false
  no_word o l is = operator_no_word (bytes text o) (operator_formed text o l is)

  word_of : (b rest : List ℕ) → ((n : List ℕ) × IsTrue (is_name n) × (n ++ byte ":" ∷ [] ≡ b)) → is_word (b ++ rest) ≡ true
  word_of b rest k = subst (λ (l : List ℕ). is_word (l ++ rest) ≡ true) k.2 (begins k.0 k.1)
    where
      begins : (n : List ℕ) → is_name n ≡ true → is_word ((n ++ byte ":" ∷ []) ++ rest) ≡ true
      begins [] e = absurd cc
      begins (c ∷ n) e = name_word (c ∷ n) e

  keyword_word : (k : Leaf) (rest : List ℕ) → IsLeaf text k → among keywords k ≡ true → is_word (bytes text k ++ rest) ≡ true
  keyword_word k rest l is = word_of (bytes text k) rest (keyword_formed text k l is)

  -- a keyword message, or none
  keyworded_deep : (t : ExpressionView) (ks : Parts) → Each text (parts_text ks) → nesting (sent_if t (selector_of text ks) (arguments_of text ks)) ≤ max (placed_nesting ranks.Binary t) (arguments_nesting ranks.Binary (arguments_of text ks))
  keyworded_deep t no_parts e = omega (arith, wrapped_least (is_loose ranks.Binary (rank_of t)) (nesting t))
  keyworded_deep t (part k b ks) e =
      omega (arith, keyword_arguments (bytes text k.leaf ++ selector_of text ks) (views.expression (binary_tree text b) (arguments_of text ks)) (keyword_word k.leaf (selector_of text ks) e.0 k.fits))

  assigned_deep : (ts : List Target) (t : ExpressionView) → nesting (assigned text ts t) ≡ nesting t
  assigned_deep [] t = refl
  assigned_deep (x ∷ xs) t = assigned_deep xs t

  -- a block is placed without parentheses
  block_placed : (b : Block) → placed_nesting ranks.Unary (block_tree text b) ≡ nesting (block_tree text b)
  block_placed (plain_block ss) = refl
  block_placed (full_block p ps b ss) = refl
  block_placed (empty_block p ps) = refl

  record MessageDeep (t : ExpressionView) (m : Message) : Type 0 where
    sends : Sends (with_one text t m)
    low : nesting (with_one text t m) ≤ max (nesting t) (highest 0 (message_text m))

  mutual
    primary_deep : (p : Primary) → PrimaryFits text p → Each text (primary_text p) → placed_nesting ranks.Unary (primary_tree text p) ≤ highest 0 (primary_text p)
    primary_deep (name o) f e = omega arith
    primary_deep (literal l) f e = literal_deep l
    primary_deep (block o b c) f e =
        let inside = block_deep b f (each_front text (block_text b) (c.leaf ∷ []) e.1) in
        omega (arith, block_placed b, highest_bracket o.leaf (block_text b) c.leaf (within (OpenBlock ∷ []) openings refl o.leaf o.fits) (closes_block c).0 (closes_block c).1 (block_balanced b) 0)
    primary_deep (group o x c) f e =
        let inside = expression_deep x f (each_front text (expression_text x) (c.leaf ∷ []) e.1) in
        omega (
          arith,
          wrapped_most (is_loose ranks.Unary (rank_of (expression_tree text x))) (nesting (expression_tree text x)),
          highest_bracket o.leaf (expression_text x) c.leaf (within (Open ∷ []) openings refl o.leaf o.fits) (closes c).0 (closes c).1 (expression_balanced x) 0,
        )

    block_deep : (b : Block) → BlockFits text b → Each text (block_text b) → nesting (block_tree text b) ≤ highest 0 (block_text b) + 1
    block_deep (plain_block ss) f e = let inside = statements_deep ss f e in omega arith
    block_deep (full_block p ps b ss) f e =
        let inside = statements_deep ss f (each_back text (parameters_text (p ∷ ps)) (b.leaf ∷ statements_text ss) e).1 in
        omega (arith, back_low (parameters_text (p ∷ ps)) (b.leaf ∷ statements_text ss), behind_one b.leaf (statements_text ss))
    block_deep (empty_block p ps) f e = omega arith

    unary_deep : (u : Unary) → UnaryFits text u → Each text (unary_text u) → placed_nesting ranks.Unary (unary_tree text u) ≤ highest 0 (unary_text u)
    unary_deep (unary p ns) f e =
        let first = primary_deep p f.0 (each_front text (primary_text p) (ones_text ns) e) in
        omega (arith, names_deep (primary_tree text p) ns, front_low (primary_text p) (ones_text ns))

    operations_deep : (t : ExpressionView) (os : Operations) → OperationsFit text os → Each text (operations_text os) → placed_nesting ranks.Binary (after_operations text t os) ≤ max (placed_nesting ranks.Binary t) (highest 0 (operations_text os))
    operations_deep t no_operations f e = omega arith
    operations_deep t (operation o u os) f e =
        let a = unary_deep u f.0 (each_front text (unary_text u) (operations_text os) e.1) in
        let more = operations_deep (sent t (bytes text o.leaf) (views.expression (unary_tree text u) views.no_expressions)) os f.1 (each_back text (unary_text u) (operations_text os) e.1) in
        omega (arith, operator_sent t (bytes text o.leaf) (unary_tree text u) (no_word o.leaf e.0 o.fits), behind_one o.leaf (unary_text u ++ operations_text os), front_low (unary_text u) (operations_text os), back_low (unary_text u) (operations_text os))

    binary_deep : (b : Binary) → BinaryFits text b → Each text (binary_text b) → placed_nesting ranks.Binary (binary_tree text b) ≤ highest 0 (binary_text b)
    binary_deep (binary (unary p ns) os) f e =
        let front = each_front text (primary_text p ++ ones_text ns) (operations_text os) e in
        let first = primary_deep p f.0 (each_front text (primary_text p) (ones_text ns) front) in
        let receiver = after_names text (primary_tree text p) ns in
        let more = operations_deep receiver os f.1 (each_back text (primary_text p ++ ones_text ns) (operations_text os) e) in
        omega (arith, names_deep (primary_tree text p) ns, looser (rank_of receiver) (nesting receiver), front_low (primary_text p) (ones_text ns), front_low (primary_text p ++ ones_text ns) (operations_text os), back_low (primary_text p ++ ones_text ns) (operations_text os))

    parts_deep : (ks : Parts) → PartsFit text ks → Each text (parts_text ks) → arguments_nesting ranks.Binary (arguments_of text ks) ≤ highest 0 (parts_text ks)
    parts_deep no_parts f e = omega arith
    parts_deep (part k b ks) f e =
        let a = binary_deep b f.0 (each_front text (binary_text b) (parts_text ks) e.1) in
        let more = parts_deep ks f.1 (each_back text (binary_text b) (parts_text ks) e.1) in
        omega (arith, behind_one k.leaf (binary_text b ++ parts_text ks), front_low (binary_text b) (parts_text ks), back_low (binary_text b) (parts_text ks))

    message_deep : (t : ExpressionView) (m : Message) → Sends t → MessageFits text m → Each text (message_text m) → MessageDeep t m
    message_deep t (unary_message n) h f e = let d = sent_deep t (bytes text n.leaf) views.no_expressions h in record { sends = d.sends; low = omega (arith, d.low) }
    message_deep t (binary_message o u) h f e =
        let a = unary_deep u f e.1 in
        let d = sent_deep t (bytes text o.leaf) (views.expression (unary_tree text u) views.no_expressions) h in
        record { sends = d.sends; low = omega (arith, d.low, operator_argument (bytes text o.leaf) (unary_tree text u) (no_word o.leaf e.0 o.fits), behind_one o.leaf (unary_text u)) }
    message_deep t (keyword_message k b ks) h f e =
        let a = binary_deep b f.0 (each_front text (binary_text b) (parts_text ks) e.1) in
        let more = parts_deep ks f.1 (each_back text (binary_text b) (parts_text ks) e.1) in
        let s = bytes text k.leaf ++ selector_of text ks in
        let es = views.expression (binary_tree text b) (arguments_of text ks) in
        let d = sent_deep t s es h in
        record { sends = d.sends; low = omega (arith, d.low, keyword_arguments s es (keyword_word k.leaf (selector_of text ks) e.0 k.fits), behind_one k.leaf (binary_text b ++ parts_text ks), front_low (binary_text b) (parts_text ks), back_low (binary_text b) (parts_text ks)) }

    messages_deep : (t : ExpressionView) (ms : Messages) → Sends t → MessagesFit text ms → Each text (messages_text ms) → nesting (after_messages text t ms) ≤ max (nesting t) (highest 0 (messages_text ms))
    messages_deep t no_messages h f e = omega arith
    messages_deep t (message s m ms) h f e =
        let one = message_deep t m h f.0 (each_front text (message_text m) (messages_text ms) e.1) in
        let more = messages_deep (with_one text t m) ms one.sends f.1 (each_back text (message_text m) (messages_text ms) e.1) in
        omega (arith, one.low, behind_one s.leaf (message_text m ++ messages_text ms), front_low (message_text m) (messages_text ms), back_low (message_text m) (messages_text ms))

    cascade_deep : (c : Cascade) → CascadeFits text c → Each text (cascade_text c) → nesting (cascade_tree text c) ≤ highest 0 (cascade_text c)
    cascade_deep (cascade (keyworded (binary (unary p ns) os) ks) ms) f e =
        let k = keyworded (binary (unary p ns) os) ks in
        let words = keyworded_text k in
        let one = each_front text words (messages_text ms) e in
        let two = each_front text ((primary_text p ++ ones_text ns) ++ operations_text os) (parts_text ks) one in
        let three = each_front text (primary_text p ++ ones_text ns) (operations_text os) two in
        let formed = cascade_formed text (cascade k no_messages) (f.0, f.1, f.2, tt, f.4, tt) (subst (Each text) (sym (append-nil words)) one) in
        let first = primary_deep p f.0 (each_front text (primary_text p) (ones_text ns) three) in
        let receiver = after_names text (primary_tree text p) ns in
        let operations = operations_deep receiver os f.1 (each_back text (primary_text p ++ ones_text ns) (operations_text os) two) in
        let parts = parts_deep ks f.2 (each_back text ((primary_text p ++ ones_text ns) ++ operations_text os) (parts_text ks) one) in
        let whole = keyworded_deep (after_operations text receiver os) ks (each_back text ((primary_text p ++ ones_text ns) ++ operations_text os) (parts_text ks) one) in
        let more = messages_deep (keyworded_tree text k) ms (formed_sends (keyworded_tree text k) formed.0) f.3 (each_back text words (messages_text ms) e) in
        omega (
          arith,
          names_deep (primary_tree text p) ns,
          looser (rank_of receiver) (nesting receiver),
          front_low (primary_text p) (ones_text ns),
          front_low (primary_text p ++ ones_text ns) (operations_text os),
          back_low (primary_text p ++ ones_text ns) (operations_text os),
          front_low ((primary_text p ++ ones_text ns) ++ operations_text os) (parts_text ks),
          back_low ((primary_text p ++ ones_text ns) ++ operations_text os) (parts_text ks),
          front_low words (messages_text ms),
          back_low words (messages_text ms),
        )

    expression_deep : (x : Expression) → ExpressionFits text x → Each text (expression_text x) → nesting (expression_tree text x) ≤ highest 0 (expression_text x)
    expression_deep (expression ts c) f e =
        let value = cascade_deep c f (each_back text (targets_text ts) (cascade_text c) e) in
        omega (arith, assigned_deep ts (cascade_tree text c), back_low (targets_text ts) (cascade_text c))

    statements_deep : (ss : Statements) → StatementsFit text ss → Each text (statements_text ss) → statements_nesting (statements_tree text ss) ≤ highest 0 (statements_text ss)
    statements_deep no_statements f e = omega arith
    statements_deep (last x) f e = let v = expression_deep x f e in omega arith
    statements_deep (next x p ss) f e =
        let v = expression_deep x f.0 (each_front text (expression_text x) (p.leaf ∷ statements_text ss) e) in
        let more = statements_deep ss f.1 (each_back text (expression_text x) (p.leaf ∷ statements_text ss) e).1 in
        omega (arith, front_low (expression_text x) (p.leaf ∷ statements_text ss), back_low (expression_text x) (p.leaf ∷ statements_text ss), behind_one p.leaf (statements_text ss))
    statements_deep (returned r x) f e = let v = expression_deep x f e.1 in omega (arith, behind_one r.leaf (expression_text x))
    statements_deep (returned_ended r x p) f e =
        let v = expression_deep x f (each_front text (expression_text x) (p.leaf ∷ []) e.1) in
        omega (arith, behind_one r.leaf (expression_text x ++ p.leaf ∷ []), front_low (expression_text x) (p.leaf ∷ []))

  pub method_deep : (m : Method) → MethodFits text m → Each text (method_text m) → statements_nesting (method_tree text m).body ≤ highest 0 (method_text m)
  method_deep (method p o ss) f e =
      let rest = each_back text (pattern_text p) (options_text o ++ statements_text ss) e in
      let body = statements_deep ss f (each_back text (options_text o) (statements_text ss) rest) in
      omega (arith, back_low (pattern_text p) (options_text o ++ statements_text ss), back_low (options_text o) (statements_text ss))

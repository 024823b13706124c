-- The trees of phrases are small: an array has a byte or more for each of its members, and for each of its brackets.
use Rattle.std.proofs.Common.{◌≡◌, ℕ, suc, ◌+◌, ◌-◌, ◌≤◌, List, [], ◌∷◌, ◌++◌, length, drop, Option, Some, None, sym, subst, arith, length-append, length-take}
use Rattle.st_scan.specs.declared.token.Token.{Token}
use Rattle.st_scan.specs.Views.{ExpressionView, ExpressionsView, MethodView}
use Rattle.st_scan.specs.Views as views
use Rattle.st_scan.specs.Scans.{AreSpans}
use Rattle.st_scan.proofs.Spans.{spans}
use Rattle.st_grammar.specs.declared.leaf.Leaf.{Leaf}
use Rattle.st_grammar.specs.Leaves.{leaves_behind}
use Rattle.st_grammar.specs.Phrases.{One, names, Element, plain, keyword_symbol, nested, Elements, no_elements, element, Literal, constant, array, Target, Primary, name, literal, block, group, Block, plain_block, full_block, empty_block, Unary, unary, Binary, binary, Operations, no_operations, operation, Keyworded, keyworded, Parts, no_parts, part, Cascade, cascade, Messages, no_messages, message, Message, unary_message, binary_message, keyword_message, Expression, expression, Statements, no_statements, last, next, returned, returned_ended, KeywordName, Pattern, unary_pattern, binary_pattern, keyword_pattern, Method, method, ones_text, element_text, elements_text, literal_text, parameters_text, targets_text, primary_text, block_text, unary_text, binary_text, operations_text, keyworded_text, parts_text, cascade_text, messages_text, message_text, expression_text, statements_text, keyword_names_text, pattern_text, options_text, method_text}
use Rattle.st_grammar.specs.Trees.{bytes, sent, sent_if, joined_bytes, element_tree, elements_tree, literal_tree, assigned, after_names, selector_of, primary_tree, block_tree, unary_tree, binary_tree, after_operations, keyworded_tree, arguments_of, cascade_tree, after_messages, with_one, expression_tree, statements_tree, keyword_selector, pattern_selector, method_tree}
use Rattle.st_grammar.specs.inside.Meant.{Means}
use Rattle.st_emit.specs.Literals.{literal_of, members_of}
use Rattle.st_install.specs.Shapes.{most_of_one}
use Rattle.st_install.proofs.FitsLiterals.{count, IsSmall, AreSmallMembers, Small, StatementsSmall, ArgumentsSmall, sent_small, content_small}

-- WIDTHS

-- the bytes of a leaf, which are one or more
abbrev width : Leaf → ℕ
width x = suc (x.token.end - x.token.start - 1)

abbrev widths : List Leaf → ℕ
widths [] = 0
widths (x ∷ xs) = width x + widths xs

widths-append : (xs ys : List Leaf) → widths (xs ++ ys) ≡ widths xs + widths ys
widths-append [] ys = omega arith
widths-append (x ∷ xs) ys = let h = widths-append xs ys in omega (arith, h)

-- not too many bytes for an object
abbrev Narrow : List Leaf → Type 0
Narrow xs = widths xs ≤ most_of_one

front : (xs ys : List Leaf) → Narrow (xs ++ ys) → Narrow xs
front xs ys h = let e = widths-append xs ys in omega (arith, e, h)

back : (xs ys : List Leaf) → Narrow (xs ++ ys) → Narrow ys
back xs ys h = let e = widths-append xs ys in omega (arith, e, h)

behind : (x : Leaf) (xs : List Leaf) → Narrow (x ∷ xs) → Narrow xs
behind x xs h = omega (arith, h)

spans_wide : (text : List ℕ) (before : Option Token) (from to : ℕ) (ts : List Token) → AreSpans from ts to → from + widths (leaves_behind text before ts) ≤ to
spans_wide text before from to [] h = omega (arith, h)
spans_wide text before from to (t ∷ ts) h =
    let more = spans_wide text (Some t) t.end to ts h.2 in
    let first = h.0 in
    let some = h.1 in
    omega (arith, more, first, some)

module _ (text : List ℕ) where
  bytes_width : (x : Leaf) → length (bytes text x) ≤ width x
  bytes_width x = let h = length-take (x.token.end - x.token.start) (drop x.token.start text) in omega (arith, h)

  -- LITERALS

  joined_width : {kinds : List _} (os : List (One kinds)) → length (joined_bytes text os) ≤ widths (ones_text os)
  joined_width [] = omega arith
  joined_width (o ∷ os) =
      let e = length-append (bytes text o.leaf) (joined_bytes text os) in
      let h = bytes_width o.leaf in
      let k = joined_width os in
      omega (arith, e, h, k)

  element_wide : (x : Element) → 1 ≤ widths (element_text x)
  element_wide (plain o) = omega arith
  element_wide (keyword_symbol k ks) = omega arith
  element_wide (nested o es c) = omega arith

  members_wide : (es : Elements) → count (members_of (elements_tree text es)) ≤ widths (elements_text es)
  members_wide no_elements = omega arith
  members_wide (element x es) =
      let e = widths-append (element_text x) (elements_text es) in
      let h = element_wide x in
      let k = members_wide es in
      omega (arith, e, h, k)

  -- an array has two brackets besides its members
  array_wide : (es : Elements) (o c : Leaf) → Narrow (o ∷ (elements_text es ++ c ∷ [])) → 2 + count (members_of (elements_tree text es)) ≤ most_of_one
  array_wide es o c h =
      let e = widths-append (elements_text es) (c ∷ []) in
      let k = members_wide es in
      omega (arith, e, h, k)

  inside : (xs : List Leaf) (o c : Leaf) → Narrow (o ∷ (xs ++ c ∷ [])) → Narrow xs
  inside xs o c h = front xs (c ∷ []) (behind o (xs ++ c ∷ []) h)

  mutual
    element_small : (x : Element) → Narrow (element_text x) → IsSmall (literal_of (element_tree text x).what)
    element_small (plain o) h = content_small o.leaf.token.sort (bytes text o.leaf) (let w = bytes_width o.leaf in omega (arith, h, w))
    element_small (keyword_symbol k ks) h =
        let e = length-append (bytes text k.leaf) (joined_bytes text ks) in
        let w = bytes_width k.leaf in
        let j = joined_width ks in
        omega (arith, e, h, w, j)
    element_small (nested o es c) h = (array_wide es o.leaf c.leaf h, elements_small es (inside (elements_text es) o.leaf c.leaf h))

    elements_small : (es : Elements) → Narrow (elements_text es) → AreSmallMembers (members_of (elements_tree text es))
    elements_small no_elements h = tt
    elements_small (element x es) h = (element_small x (front (element_text x) (elements_text es) h), elements_small es (back (element_text x) (elements_text es) h))

  literal_small : (l : Literal) → Narrow (literal_text l) → IsSmall (literal_of (literal_tree text l).what)
  literal_small (constant o) h = content_small o.leaf.token.sort (bytes text o.leaf) (let w = bytes_width o.leaf in omega (arith, h, w))
  literal_small (array o es c) h = (array_wide es o.leaf c.leaf h, elements_small es (inside (elements_text es) o.leaf c.leaf h))

  -- EXPRESSIONS

  one_selector : (x : Leaf) (xs : List Leaf) → Narrow (x ∷ xs) → length (bytes text x) ≤ most_of_one
  one_selector x xs h = let w = bytes_width x in omega (arith, h, w)

  after_names-small : (t : ExpressionView) (ns : List (One names)) → Small t → Narrow (ones_text ns) → Small (after_names text t ns)
  after_names-small t [] s h = s
  after_names-small t (n ∷ ns) s h =
      after_names-small (sent t (bytes text n.leaf) views.no_expressions) ns (s, (one_selector n.leaf (ones_text ns) h, tt, tt)) (behind n.leaf (ones_text ns) h)

  selector_width : (ks : Parts) → length (selector_of text ks) ≤ widths (parts_text ks)
  selector_width no_parts = omega arith
  selector_width (part k b ks) =
      let e = length-append (bytes text k.leaf) (selector_of text ks) in
      let w = bytes_width k.leaf in
      let a = widths-append (binary_text b) (parts_text ks) in
      let more = selector_width ks in
      omega (arith, e, w, a, more)

  assigned_small : (ts : List Target) (t : ExpressionView) → Small t → Small (assigned text ts t)
  assigned_small [] t h = h
  assigned_small (x ∷ xs) t h = assigned_small xs t h

  sent_if-small : (t : ExpressionView) (s : List ℕ) (es : ExpressionsView) → Small t → length s ≤ most_of_one → ArgumentsSmall es → Small (sent_if t s es)
  sent_if-small t s views.no_expressions h k a = h
  sent_if-small t s (views.expression e es) h k a = (h, (k, a, tt))

  parts_selector : (ks : Parts) → Narrow (parts_text ks) → length (selector_of text ks) ≤ most_of_one
  parts_selector ks h = let w = selector_width ks in omega (arith, h, w)

  mutual
    primary_small : (p : Primary) → Narrow (primary_text p) → Small (primary_tree text p)
    primary_small (name o) h = tt
    primary_small (literal l) h = literal_small l h
    primary_small (block o b c) h = block_small b (inside (block_text b) o.leaf c.leaf h)
    primary_small (group o x c) h = expression_small x (inside (expression_text x) o.leaf c.leaf h)

    block_small : (b : Block) → Narrow (block_text b) → Small (block_tree text b)
    block_small (plain_block ss) h = statements_small ss h
    block_small (full_block p ps b ss) h =
        statements_small ss (behind b.leaf (statements_text ss) (back (parameters_text (p ∷ ps)) (b.leaf ∷ statements_text ss) h))
    block_small (empty_block p ps) h = tt

    unary_small : (u : Unary) → Narrow (unary_text u) → Small (unary_tree text u)
    unary_small (unary p ns) h =
        after_names-small (primary_tree text p) ns (primary_small p (front (primary_text p) (ones_text ns) h)) (back (primary_text p) (ones_text ns) h)

    operations_small : (t : ExpressionView) (os : Operations) → Small t → Narrow (operations_text os) → Small (after_operations text t os)
    operations_small t no_operations s h = s
    operations_small t (operation o u os) s h =
        let rest = behind o.leaf (unary_text u ++ operations_text os) h in
        operations_small (sent t (bytes text o.leaf) (views.expression (unary_tree text u) views.no_expressions)) os
        (s, (one_selector o.leaf (unary_text u ++ operations_text os) h, (unary_small u (front (unary_text u) (operations_text os) rest), tt), tt))
        (back (unary_text u) (operations_text os) rest)

    binary_small : (b : Binary) → Narrow (binary_text b) → Small (binary_tree text b)
    binary_small (binary u os) h =
        operations_small (unary_tree text u) os (unary_small u (front (unary_text u) (operations_text os) h)) (back (unary_text u) (operations_text os) h)

    arguments_small : (ks : Parts) → Narrow (parts_text ks) → ArgumentsSmall (arguments_of text ks)
    arguments_small no_parts h = tt
    arguments_small (part k b ks) h =
        let rest = behind k.leaf (binary_text b ++ parts_text ks) h in
        (binary_small b (front (binary_text b) (parts_text ks) rest), arguments_small ks (back (binary_text b) (parts_text ks) rest))

    keyworded_small : (k : Keyworded) → Narrow (keyworded_text k) → Small (keyworded_tree text k)
    keyworded_small (keyworded b ks) h =
        let rest = back (binary_text b) (parts_text ks) h in
        sent_if-small (binary_tree text b) (selector_of text ks) (arguments_of text ks) (binary_small b (front (binary_text b) (parts_text ks) h)) (parts_selector ks rest) (arguments_small ks rest)

    message_small : (t : ExpressionView) (m : Message) → Small t → Narrow (message_text m) → Small (with_one text t m)
    message_small t (unary_message n) s h = sent_small t (bytes text n.leaf) views.no_expressions s (one_selector n.leaf [] h) tt
    message_small t (binary_message o u) s h =
        sent_small t (bytes text o.leaf) (views.expression (unary_tree text u) views.no_expressions) s (one_selector o.leaf (unary_text u) h) (unary_small u (behind o.leaf (unary_text u) h), tt)
    message_small t (keyword_message k b ks) s h =
        let rest = behind k.leaf (binary_text b ++ parts_text ks) h in
        sent_small t (bytes text k.leaf ++ selector_of text ks) (views.expression (binary_tree text b) (arguments_of text ks)) s (parts_selector (part k b ks) h)
        (binary_small b (front (binary_text b) (parts_text ks) rest), arguments_small ks (back (binary_text b) (parts_text ks) rest))

    messages_small : (t : ExpressionView) (ms : Messages) → Small t → Narrow (messages_text ms) → Small (after_messages text t ms)
    messages_small t no_messages s h = s
    messages_small t (message c m ms) s h =
        let rest = behind c.leaf (message_text m ++ messages_text ms) h in
        messages_small (with_one text t m) ms (message_small t m s (front (message_text m) (messages_text ms) rest)) (back (message_text m) (messages_text ms) rest)

    cascade_small : (c : Cascade) → Narrow (cascade_text c) → Small (cascade_tree text c)
    cascade_small (cascade k ms) h =
        messages_small (keyworded_tree text k) ms (keyworded_small k (front (keyworded_text k) (messages_text ms) h)) (back (keyworded_text k) (messages_text ms) h)

    expression_small : (x : Expression) → Narrow (expression_text x) → Small (expression_tree text x)
    expression_small (expression ts c) h = assigned_small ts (cascade_tree text c) (cascade_small c (back (targets_text ts) (cascade_text c) h))

    statements_small : (ss : Statements) → Narrow (statements_text ss) → StatementsSmall (statements_tree text ss)
    statements_small no_statements h = tt
    statements_small (last x) h = (expression_small x h, tt)
    statements_small (next x p ss) h =
        (expression_small x (front (expression_text x) (p.leaf ∷ statements_text ss) h), statements_small ss (behind p.leaf (statements_text ss) (back (expression_text x) (p.leaf ∷ statements_text ss) h)))
    statements_small (returned r x) h = (expression_small x (behind r.leaf (expression_text x) h), tt)
    statements_small (returned_ended r x p) h = (expression_small x (inside (expression_text x) r.leaf p.leaf h), tt)

  -- METHODS

  keywords_width : (ks : List KeywordName) → length (keyword_selector text ks) ≤ widths (keyword_names_text ks)
  keywords_width [] = omega arith
  keywords_width (k ∷ ks) =
      let e = length-append (bytes text k.keyword.leaf) (keyword_selector text ks) in
      let w = bytes_width k.keyword.leaf in
      let more = keywords_width ks in
      omega (arith, e, w, more)

  pattern_width : (p : Pattern) → length (pattern_selector text p) ≤ widths (pattern_text p)
  pattern_width (unary_pattern n) = let w = bytes_width n.leaf in omega (arith, w)
  pattern_width (binary_pattern o n) = let w = bytes_width o.leaf in omega (arith, w)
  pattern_width (keyword_pattern k ks) = keywords_width (k ∷ ks)

  pattern_wide : (p : Pattern) → 1 ≤ widths (pattern_text p)
  pattern_wide (unary_pattern n) = omega arith
  pattern_wide (binary_pattern o n) = omega arith
  pattern_wide (keyword_pattern k ks) = omega arith

-- a tree whose selector, selectors and literals are small
pub record IsSmallTree (tree : MethodView) : Type 0 where
  pub selector : length tree.selector ≤ most_of_one + 1
  pub body : StatementsSmall tree.body

-- a pattern stands before the statements
method_small : (text : List ℕ) (m : Method) → widths (method_text m) ≤ most_of_one + 1 → IsSmallTree (method_tree text m)
method_small text (method p o ss) h =
    let one = widths-append (pattern_text p) (options_text o ++ statements_text ss) in
    let two = widths-append (options_text o) (statements_text ss) in
    let some = pattern_wide text p in
    let w = pattern_width text p in
    record { selector = omega (arith, h, one, w); body = statements_small text ss (omega (arith, h, one, two, some)) }

pub means_small : (text : List ℕ) (tree : MethodView) → length text ≤ most_of_one + 1 → Means text tree → IsSmallTree tree
means_small text tree short m =
    let (p, f, e, is) = m.method in
    let all = spans_wide text None 0 (length text) m.tokens (spans text m.tokens None m.scan) in
    subst IsSmallTree is (method_small text p (subst (λ ls. widths ls ≤ most_of_one + 1) (sym e) (omega (arith, all, short))))

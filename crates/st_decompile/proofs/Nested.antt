-- The tree that is read nests no deeper than the tree that was compiled, and is no higher than brackets allow.
use Rattle.std.proofs.Common.{◌≡◌, ℕ, suc, ◌+◌, ◌*◌, ◌≤◌, max, Bool, true, false, not, ◌&&◌, List, [], ◌∷◌, length, Option, Some, None, refl, sym, ap, ◌∙◌, subst, arith}
use Rattle.std.proofs.lemmas.Slice.Eq.{bytes_eq-Decides}
use Rattle.std.proofs.lemmas.Bool.{and_parts}
use Rattle.std.specs.Prelude.{if◌then◌else◌, bytes_eq, codes, nat_lt}
use Rattle.st_scan.specs.Views.{is_super, NameView, ContentView, ElementsView, ExpressionView, StatementsView, MessagesView, ExpressionsView, no_statements, statement, no_expressions, no_messages}
use Rattle.st_scan.specs.Views as views
use Rattle.st_emit.specs.declared.instruction.Constant.{Constant}
use Rattle.st_emit.specs.declared.instruction.InstructionOperand.{InstructionOperand}
use Rattle.st_emit.specs.declared.form.OneSided.{OneSided}
use Rattle.st_emit.specs.declared.form.TwoSided.TheVariants.{TrueFirst, FalseFirst}
use Rattle.st_emit.specs.declared.form.Loop.{Loop}
use Rattle.st_emit.specs.declared.form.Form.{Form}
use Rattle.st_emit.specs.declared.form.Form.TheVariants.{Message as Plain, One, Two, Repeated}
use Rattle.st_emit.specs.Names.{constant_named}
use Rattle.st_emit.specs.Literals.{LiteralView, small_number, Naming, given, ◌>>=◌, literal_of, members_of}
use Rattle.st_emit.specs.Nodes as nodes
use Rattle.st_emit.specs.Nodes.{Sending, Node, Body, Tail, Messages, Nodes, body_of, with_tail}
use Rattle.st_emit.specs.Emitting.{passes_on, other_side, leaves_on}
use Rattle.st_emit.specs.Resolving.{Context, behind, inside, names_in, names_in_all, place_of_name, constant_or, small_or, content_node, sending, Message, all_nodes, message_nodes, plain_tail, form_named, formed, single_tail, sends_tail, assign_tail, tailed, is_plain, all_plain, before, count_node, expression_node, statements_body, messages_of, nodes_of}
use Rattle.st_print.specs.declared.rank.Rank.{Rank}
use Rattle.st_print.specs.declared.rank.Rank.TheVariants.{Unary, Binary, Any}
use Rattle.st_print.specs.Printed.{is_loose, is_word, rank_of, rank_of_message, rank_of_messages, receiver_rank}
use Rattle.st_print.proofs.Nesting.{content_nesting, elements_nesting, wrapped_nesting, argument_rank, nesting, statements_nesting, messages_nesting, arguments_nesting}
use Rattle.st_grammar.specs.Faults.{most}
use Rattle.st_grammar.specs.inside.Formed.{ReceiverFormed, StatementsFormed, MessagesFormed, ArgumentsFormed}
use Rattle.st_expression_stack.specs.Items.{no_arguments, most_high}
use Rattle.st_expression_stack.specs.Choosing.{content_of, elements_of, constant_tree, received, alone, one_sided_by, sides_by, choice_tree, loop_selector, with_block, with_blocks}
use Rattle.st_decompile.proofs.Sides.{IfNamed, each_side}
use Rattle.st_decompile.specs.Back.{tree_of, body_tree, nodes_tree, messages_list, high, body_high, messages_high, nodes_high, body_least, method_tree, without_self, is_self}
use Rattle.st_decompile.proofs.High.{messages_max}
use Rattle.st_decompile.proofs.Making.{Makes, makes_then, makes_end, makes_sending}
use Rattle.st_print.proofs.Deep.{wrapped_least}

-- PARENTHESES

loose_unary : (w : Rank) → is_loose w Unary ≡ false
loose_unary Unary = refl
loose_unary Binary = refl
loose_unary Any = refl

wrapped_low : (b : Bool) (m n : ℕ) → m ≤ n → wrapped_nesting b m ≤ wrapped_nesting b n
wrapped_low true m n h = omega (arith, h)
wrapped_low false m n h = h

-- where an expression of a rank is wanted
abbrev put : Rank → ExpressionView → ℕ
put wanted e = wrapped_nesting (is_loose wanted (rank_of e)) (nesting e)

put_low : (w : Rank) (e f : ExpressionView) → rank_of e ≡ rank_of f → nesting e ≤ nesting f → put w e ≤ put w f
put_low w e f r h = subst (λ (x : Rank). wrapped_nesting (is_loose w x) (nesting e) ≤ put w f) (sym r) (wrapped_low (is_loose w (rank_of f)) (nesting e) (nesting f) h)

put_plain : (w : Rank) (ss : StatementsView) → put w (views.block [] ss) ≡ statements_nesting ss + 1
put_plain w ss = ap (λ (b : Bool). wrapped_nesting b (statements_nesting ss + 1)) (loose_unary w)

-- HEIGHT

-- how many arguments may stand in one another with no bracket between, where an expression of a rank is wanted
abbrev loose : Rank → ℕ
loose Unary = 0
loose Binary = 1
loose Any = 2

loose_few : (w : Rank) → loose w ≤ 2
loose_few Unary = omega arith
loose_few Binary = omega arith
loose_few Any = omega arith

-- how many arguments and blocks may stand in one another
abbrev room : ExpressionView → ℕ
room e = 3 * nesting e + loose (rank_of e)

put_room : (w : Rank) (e : ExpressionView) (h : ℕ) → h ≤ room e → h ≤ 3 * put w e + loose w
put_room w e h i = by w (rank_of e) i
  where
    by : (w r : Rank) → h ≤ 3 * nesting e + loose r → h ≤ 3 * wrapped_nesting (is_loose w r) (nesting e) + loose w
    by Unary Unary i = i
    by Unary Binary i = omega (arith, i)
    by Unary Any i = omega (arith, i)
    by Binary Unary i = omega (arith, i)
    by Binary Binary i = i
    by Binary Any i = omega (arith, i)
    by Any Unary i = omega (arith, i)
    by Any Binary i = omega (arith, i)
    by Any Any i = i

-- in arguments
abbrev arguments_room : Rank → ExpressionsView → ℕ
arguments_room w views.no_expressions = 0
arguments_room w (views.expression e es) = suc (3 * arguments_nesting w (views.expression e es) + loose w)

arguments_few : (w : Rank) (es : ExpressionsView) → arguments_room w es ≤ suc (3 * arguments_nesting w es + loose w)
arguments_few w views.no_expressions = omega arith
arguments_few w (views.expression e es) = omega arith

-- and in a message
message_room : (s : List ℕ) (es : ExpressionsView) → arguments_room (argument_rank s) es ≤ 3 * arguments_nesting (argument_rank s) es + loose (rank_of_message s es)
message_room s views.no_expressions = omega arith
message_room s (views.expression e es) = by (is_word s)
  where
    by : (b : Bool) → suc (3 * arguments_nesting (if b then Binary else Unary) (views.expression e es) + loose (if b then Binary else Unary)) ≤ 3 * arguments_nesting (if b then Binary else Unary) (views.expression e es) + loose (if b then Any else Binary)
    by true = omega arith
    by false = omega arith

receiver_few : (ms : MessagesView) → loose (receiver_rank ms) ≤ loose (rank_of_messages ms)
receiver_few views.no_messages = omega arith
receiver_few (views.message s views.no_expressions views.no_messages) = omega arith
receiver_few (views.message s views.no_expressions (views.message s' es' ms)) = omega arith
receiver_few (views.message s (views.expression e es) views.no_messages) = by (is_word s)
  where
    by : (b : Bool) → 1 ≤ loose (if b then Any else Binary)
    by true = omega arith
    by false = omega arith
receiver_few (views.message s (views.expression e es) (views.message s' es' ms)) = omega arith

-- FORMS

abbrev IsWordly : Option (List ℕ) → Type 0
IsWordly = IfNamed (λ s. is_word s ≡ true)

-- an expression that nests no deeper, and is a keyword message
record Within (e : ExpressionView) (m : ℕ) : Type 0 where
  low : nesting e ≤ m
  rank : rank_of e ≡ Any

block_within : (e : ExpressionView) (s : List ℕ) (a : StatementsView) → is_word s ≡ true → Within (with_block e s a) (max (put Binary e) (statements_nesting a + 1))
block_within e s a w = record {
  low = omega (arith, put_plain (argument_rank s) a);
  rank = ap (λ (b : Bool). if b then Any else Binary) w;
}

blocks_within : (e : ExpressionView) (s : List ℕ) (a b : StatementsView) → is_word s ≡ true → Within (with_blocks e s a b) (max (put Binary e) (max (statements_nesting a + 1) (statements_nesting b + 1)))
blocks_within e s a b w = record {
  low = omega (arith, put_plain (argument_rank s) a, put_plain (argument_rank s) b);
  rank = ap (λ (b : Bool). if b then Any else Binary) w;
}

within_more : (e : ExpressionView) (m n : ℕ) → m ≤ n → Within e m → Within e n
within_more e m n h w = record { low = omega (arith, h, w.low); rank = w.rank }

choice_within : (on : Bool) (e : ExpressionView) (a : StatementsView) (la : ℕ) (b : StatementsView) (lb : ℕ) → Within (choice_tree on e a la b lb) (max (put Binary e) (max (statements_nesting a + 1) (statements_nesting b + 1)))
choice_within on e a la b lb = by_form (one_sided_by on (alone b)) (each_side (λ s. is_word s ≡ true) refl refl refl refl on (alone b))
  where
    by_order : (t : Bool) → Within (if t then with_blocks e (codes "ifFalse:ifTrue:") b a else with_blocks e (codes "ifTrue:ifFalse:") a b) (max (put Binary e) (max (statements_nesting a + 1) (statements_nesting b + 1)))
    by_order true = within_more _ _ _ (omega arith) (blocks_within e (codes "ifFalse:ifTrue:") b a refl)
    by_order false = blocks_within e (codes "ifTrue:ifFalse:") a b refl

    by_form : (o : Option (List ℕ)) → IsWordly o → Within (sides_by o e a la b lb) (max (put Binary e) (max (statements_nesting a + 1) (statements_nesting b + 1)))
    by_form (Some s) i = within_more _ _ _ (omega arith) (block_within e s a i)
    by_form None i = by_order (nat_lt lb la)

-- a selector with a form begins with a letter
abbrev HasForm : Form → List ℕ → Type 0
HasForm Plain s = Unit {0}
HasForm form s = is_word s ≡ true

is_text : (s t : List ℕ) → bytes_eq s t ≡ true → is_word t ≡ true → is_word s ≡ true
is_text s t e w = ap (λ (x : List ℕ). is_word x) ((bytes_eq-Decides s t).0 e) ∙ w

has_if : (s t : List ℕ) (form : Form) (b : Bool) (rest : Form) → bytes_eq s t ≡ b → (is_word s ≡ true → HasForm form s) → is_word t ≡ true → HasForm rest s → HasForm (if b then form else rest) s
has_if s t form true rest e h w k = h (is_text s t e w)
has_if s t form false rest e h w k = k

has_form : (s : List ℕ) → HasForm (form_named s) s
has_form s =
    has_if s (codes "ifTrue:") _ _ _ refl (λ w. w) refl
    (has_if s (codes "ifFalse:") _ _ _ refl (λ w. w) refl
    (has_if s (codes "and:") _ _ _ refl (λ w. w) refl
    (has_if s (codes "or:") _ _ _ refl (λ w. w) refl
    (has_if s (codes "ifTrue:ifFalse:") _ _ _ refl (λ w. w) refl
    (has_if s (codes "ifFalse:ifTrue:") _ _ _ refl (λ w. w) refl
    (has_if s (codes "whileTrue:") _ _ _ refl (λ w. w) refl
    (has_if s (codes "whileFalse:") _ _ Plain refl (λ w. w) refl tt)))))))

-- LITERALS

mutual
  content_low : (w : ContentView) → content_nesting (content_of (literal_of w)) ≤ content_nesting w
  content_low (views.number n) = omega arith
  content_low (views.character b) = omega arith
  content_low (views.bytes t) = omega arith
  content_low (views.symbol t) = omega arith
  content_low (views.array es) = omega (arith, elements_low es)
  content_low views.nil_object = omega arith
  content_low views.false_object = omega arith
  content_low views.true_object = omega arith

  elements_low : (es : ElementsView) → elements_nesting (elements_of (members_of es)) ≤ elements_nesting es
  elements_low views.no_elements = omega arith
  elements_low (views.element place w es) = omega (arith, content_low w, elements_low es)

plain_deep : (e : ExpressionView) → is_plain e ≡ true → 1 ≤ nesting e
plain_deep (views.block [] b) h = omega arith
plain_deep (views.block (n ∷ ns) b) h = absurd cc
plain_deep (views.variable n) h = absurd cc
plain_deep (views.literal e) h = absurd cc
plain_deep (views.assign target e) h = absurd cc
plain_deep (views.send r ms) h = absurd cc

module _ (name_of : InstructionOperand → List ℕ) where
  abbrev sides : Body → ℕ
  sides b = statements_nesting (body_tree name_of b no_statements) + 1

  -- a node's tree, beside the tree that the node is of
  record Nests (e : ExpressionView) (n : Node) : Type 0 where
    low : nesting (tree_of name_of n) ≤ nesting e
    rank : rank_of (tree_of name_of n) ≡ rank_of e
    inside : sides (body_of n) ≤ max (nesting e) 1
    height : high n ≤ room e
    within : suc (body_high (body_of n) 0) ≤ 3 * max (nesting e) 1

  record NodesNest (es : ExpressionsView) (ns : Nodes) : Type 0 where
    low : (w : Rank) → arguments_nesting w (nodes_tree name_of ns no_expressions) ≤ arguments_nesting w es
    ranks : (s : List ℕ) → rank_of_message s (nodes_tree name_of ns no_expressions) ≡ rank_of_message s es
    receives : (s : List ℕ) (a b : MessagesView) → receiver_rank (views.message s (nodes_tree name_of ns no_expressions) a) ≡ receiver_rank (views.message s es b)
    height : (w : Rank) → nodes_high ns 0 ≤ arguments_room w es

  record MessagesNest (ms : MessagesView) (x : Messages) : Type 0 where
    low : messages_nesting (messages_list name_of x) ≤ messages_nesting ms
    receives : receiver_rank (messages_list name_of x) ≡ receiver_rank ms
    ranks : rank_of_messages (messages_list name_of x) ≡ rank_of_messages ms
    height : messages_high 0 x ≤ 3 * messages_nesting ms + loose (rank_of_messages ms)

  abbrev BodyNests : StatementsView → Body → Type 0
  BodyNests ss b = (statements_nesting (body_tree name_of b no_statements) ≤ statements_nesting ss) × (body_high b 0 ≤ 3 * statements_nesting ss + 2)

  abbrev TailNests : (e f : ExpressionView) → Tail → Type 0
  TailNests e f t = (n : Node) → Nests e n → Nests f (with_tail n t)

  arguments_low : (s t : List ℕ) (es : ExpressionsView) (ns : Nodes) → t ≡ s → NodesNest es ns → arguments_nesting (argument_rank t) (nodes_tree name_of ns no_expressions) ≤ arguments_nesting (argument_rank s) es
  arguments_low s t es ns e q = subst (λ (u : List ℕ). arguments_nesting (argument_rank u) (nodes_tree name_of ns no_expressions) ≤ arguments_nesting (argument_rank s) es) (sym e) (q.low (argument_rank s))

  only_nests : (s : List ℕ) (es : ExpressionsView) (t : Sending) (ns : Nodes) → t.selector ≡ s → NodesNest es ns → MessagesNest (views.message s es no_messages) (nodes.only t ns)
  only_nests s es t ns e q = record {
    low = omega (arith, arguments_low s t.selector es ns e q);
    receives = q.receives t.selector no_messages no_messages ∙ ap (λ (u : List ℕ). receiver_rank (views.message u es no_messages)) e;
    ranks = q.ranks t.selector ∙ ap (λ (u : List ℕ). rank_of_message u es) e;
    height = omega (arith, q.height (argument_rank s), message_room s es);
  }

  also_nests : (s : List ℕ) (es : ExpressionsView) (s' : List ℕ) (es' : ExpressionsView) (ms : MessagesView) (t : Sending) (ns : Nodes) (x : Messages) → t.selector ≡ s → NodesNest es ns → MessagesNest (views.message s' es' ms) x
      → MessagesNest (views.message s es (views.message s' es' ms)) (nodes.also t ns x)
  also_nests s es s' es' ms t ns x e q h = record {
    low = omega (arith, arguments_low s t.selector es ns e q, h.low);
    receives = q.receives t.selector (messages_list name_of x) (views.message s' es' ms) ∙ ap (λ (u : List ℕ). receiver_rank (views.message u es (views.message s' es' ms))) e;
    ranks = cascade x;
    height =
        let several = loose_few (rank_of_messages (views.message s' es' ms)) in
        omega (arith, messages_max x (max 0 (nodes_high ns 0)), q.height (argument_rank s), arguments_few (argument_rank s) es, word_few (is_word s), h.height, several);
  }
    where
      word_few : (b : Bool) → loose (if b then Binary else Unary) ≤ 1
      word_few true = omega arith
      word_few false = omega arith

      cascade : (x : Messages) → rank_of_messages (messages_list name_of (nodes.also t ns x)) ≡ Any
      cascade (nodes.only u m) = refl
      cascade (nodes.also u m y) = refl

  received_low : (w : Rank) (above : Bool) (e : ExpressionView) (n : Node) → Nests e n → put w (received above (tree_of name_of n)) ≤ put w e
  received_low w true e n h = omega (arith, ap (λ (b : Bool). wrapped_nesting b 0) (loose_unary w))
  received_low w false e n h = put_low w (tree_of name_of n) e h.rank h.low

  sent_nests : (above : Bool) (e : ExpressionView) (ms : MessagesView) (x : Messages) → MessagesNest ms x → TailNests e (views.send e ms) (nodes.sent above x)
  sent_nests above e ms x q n h = record {
    low =
        let r : put (receiver_rank (messages_list name_of x)) (received above (tree_of name_of n)) ≤ put (receiver_rank ms) e =
        subst (λ (w : Rank). put w (received above (tree_of name_of n)) ≤ put (receiver_rank ms) e) (sym q.receives) (received_low (receiver_rank ms) above e n h) in
        omega (arith, r, q.low);
    rank = q.ranks;
    inside = omega arith;
    height = omega (arith, messages_max x (high n), put_room (receiver_rank ms) e (high n) h.height, receiver_few ms, q.height);
    within = omega arith;
  }

  form_rank : (s : List ℕ) (a : ExpressionView) (es : ExpressionsView) → is_word s ≡ true → rank_of_message s (views.expression a es) ≡ Any
  form_rank s a es w = ap (λ (b : Bool). if b then Any else Binary) w

  sided_nests : (side : OneSided) (e : ExpressionView) (s : List ℕ) (a : ExpressionView) (m : Node) → is_word s ≡ true → is_plain a ≡ true → Nests a m
      → TailNests e (views.send e (views.message s (views.expression a no_expressions) no_messages)) (nodes.sided side (body_of m))
  sided_nests side e s a m w pa q n h =
      let c = choice_within (passes_on side) (tree_of name_of n) (body_tree name_of (body_of m) no_statements) (body_least (body_of m) no_arguments) (statement false (constant_tree (other_side side)) no_statements) no_arguments in
      record {
        low = omega (arith, c.low, put_low Binary (tree_of name_of n) e h.rank h.low, q.inside, plain_deep a pa, wrapped_least (is_loose (argument_rank s) (rank_of a)) (nesting a));
        rank = c.rank ∙ sym (form_rank s a no_expressions w);
        inside = omega arith;
        height = omega (arith, ap loose (form_rank s a no_expressions w), put_room Binary e (high n) h.height, q.within, plain_deep a pa, wrapped_least (is_loose (argument_rank s) (rank_of a)) (nesting a));
        within = omega arith;
      }

  looped_nests : (kind : Loop) (e : ExpressionView) (s : List ℕ) (a : ExpressionView) (m : Node) → is_word s ≡ true → is_plain e ≡ true → is_plain a ≡ true → Nests a m
      → TailNests e (views.send e (views.message s (views.expression a no_expressions) no_messages)) (nodes.looped kind (body_of m))
  looped_nests kind e s a m w pe pa q n h =
      let c = block_within (views.block [] (body_tree name_of (body_of n) no_statements)) (loop_selector (leaves_on kind)) (body_tree name_of (body_of m) no_statements) (loop_word (leaves_on kind)) in
      record {
        low = omega (arith, c.low, h.inside, plain_deep e pe, wrapped_least (is_loose Binary (rank_of e)) (nesting e), q.inside, plain_deep a pa, wrapped_least (is_loose (argument_rank s) (rank_of a)) (nesting a));
        rank = c.rank ∙ sym (form_rank s a no_expressions w);
        inside = omega arith;
        height = omega (arith, ap loose (form_rank s a no_expressions w), h.within, plain_deep e pe, wrapped_least (is_loose Binary (rank_of e)) (nesting e), q.within, plain_deep a pa, wrapped_least (is_loose (argument_rank s) (rank_of a)) (nesting a));
        within = omega arith;
      }
    where
      loop_word : (on : Bool) → is_word (loop_selector on) ≡ true
      loop_word true = refl
      loop_word false = refl

  -- two sides, whichever stands first
  abbrev with_two : ExpressionView → List ℕ → (a b : ExpressionView) → ExpressionView
  with_two e s a b = views.send e (views.message s (views.expression a (views.expression b no_expressions)) no_messages)

  -- a node whose tree is no deeper than a choice is
  record TwoNest (e : ExpressionView) (n m o t : Node) : Type 0 where
    tree : Within (tree_of name_of t) (max (put Binary (tree_of name_of n)) (max (sides (body_of m)) (sides (body_of o))))
    inside : sides (body_of t) ≤ 1
    height : high t ≤ max (high n) (suc (max (body_high (body_of m) 0) (body_high (body_of o) 0)))
    within : suc (body_high (body_of t) 0) ≤ 3

  two_nests : (e : ExpressionView) (s : List ℕ) (a b : ExpressionView) (n m o t : Node) → is_word s ≡ true → is_plain a ≡ true → is_plain b ≡ true → Nests a m → Nests b o → Nests e n → TwoNest e n m o t → Nests (with_two e s a b) t
  two_nests e s a b n m o t w pa pb q r h c = record {
    low = omega (arith, c.tree.low, put_low Binary (tree_of name_of n) e h.rank h.low, q.inside, r.inside, plain_deep a pa, plain_deep b pb, wrapped_least (is_loose (argument_rank s) (rank_of a)) (nesting a), wrapped_least (is_loose (argument_rank s) (rank_of b)) (nesting b));
    rank = c.tree.rank ∙ sym (form_rank s a (views.expression b no_expressions) w);
    inside = omega (arith, c.inside);
    height = omega (arith, c.height, ap loose (form_rank s a (views.expression b no_expressions) w), put_room Binary e (high n) h.height, q.within, r.within, plain_deep a pa, plain_deep b pb, wrapped_least (is_loose (argument_rank s) (rank_of a)) (nesting a), wrapped_least (is_loose (argument_rank s) (rank_of b)) (nesting b));
    within = omega (arith, c.within);
  }

  true_nests : (e : ExpressionView) (s : List ℕ) (a b : ExpressionView) (m o : Node) → is_word s ≡ true → is_plain a ≡ true → is_plain b ≡ true → Nests a m → Nests b o → TailNests e (with_two e s a b) (nodes.chosen TrueFirst (body_of m) (body_of o))
  true_nests e s a b m o w pa pb q r n h =
      let c = choice_within false (tree_of name_of n) (body_tree name_of (body_of m) no_statements) (body_least (body_of m) no_arguments) (body_tree name_of (body_of o) no_statements) (body_least (body_of o) no_arguments) in
      two_nests e s a b n m o _ w pa pb q r h (record { tree = c; inside = omega arith; height = omega arith; within = omega arith })

  false_nests : (e : ExpressionView) (s : List ℕ) (a b : ExpressionView) (m o : Node) → is_word s ≡ true → is_plain a ≡ true → is_plain b ≡ true → Nests a m → Nests b o → TailNests e (with_two e s a b) (nodes.chosen FalseFirst (body_of m) (body_of o))
  false_nests e s a b m o w pa pb q r n h =
      let c = choice_within false (tree_of name_of n) (body_tree name_of (body_of o) no_statements) (body_least (body_of o) no_arguments) (body_tree name_of (body_of m) no_statements) (body_least (body_of m) no_arguments) in
      two_nests e s a b n m o _ w pa pb q r h (record { tree = within_more _ _ _ (omega arith) c; inside = omega arith; height = omega arith; within = omega arith })

  -- LEAVES

  leaf_nests : (e : ExpressionView) (k : Option Constant) (m : Naming InstructionOperand) → rank_of e ≡ Unary → Makes (Nests e) (constant_or k m)
  leaf_nests e (Some k) m r = record { by = λ ls. record { low = omega arith; rank = sym r; inside = omega arith; height = omega arith; within = omega arith } }
  leaf_nests e None m r = record { by = λ ls. record { low = omega arith; rank = sym r; inside = omega arith; height = omega arith; within = omega arith } }

  content_nests : (w : ContentView) (e : ExpressionView) → content_nesting w ≡ nesting e → rank_of e ≡ Unary → Makes (Nests e) (content_node w)
  content_nests (views.number n) e h r = by_small (small_number n)
    where
      by_small : (k : Option ℕ) → Makes (Nests e) (small_or k n)
      by_small (Some k) = record { by = λ ls. record { low = omega arith; rank = sym r; inside = omega arith; height = omega arith; within = omega arith } }
      by_small None = record { by = λ ls. record { low = omega arith; rank = sym r; inside = omega arith; height = omega arith; within = omega arith } }
  content_nests (views.character b) e h r = record { by = λ ls. record { low = omega arith; rank = sym r; inside = omega arith; height = omega arith; within = omega arith } }
  content_nests (views.bytes b) e h r = record { by = λ ls. record { low = omega arith; rank = sym r; inside = omega arith; height = omega arith; within = omega arith } }
  content_nests (views.symbol b) e h r = record { by = λ ls. record { low = omega arith; rank = sym r; inside = omega arith; height = omega arith; within = omega arith } }
  content_nests (views.array es) e h r = record { by = λ ls. record { low = omega (arith, content_low (views.array es), h); rank = sym r; inside = omega arith; height = omega arith; within = omega arith } }
  content_nests views.nil_object e h r = record { by = λ ls. record { low = omega arith; rank = sym r; inside = omega arith; height = omega arith; within = omega arith } }
  content_nests views.false_object e h r = record { by = λ ls. record { low = omega arith; rank = sym r; inside = omega arith; height = omega arith; within = omega arith } }
  content_nests views.true_object e h r = record { by = λ ls. record { low = omega arith; rank = sym r; inside = omega arith; height = omega arith; within = omega arith } }

  -- TREES

  tailed_nests : (e f : ExpressionView) (m : Naming Node) (t : Naming Tail) → Makes (Nests e) m → Makes (TailNests e f) t → Makes (Nests f) (tailed m t)
  tailed_nests e f m t h k = makes_then (Nests e) (Nests f) m (λ n. t >>= λ x. given (with_tail n x)) h (λ n p. makes_end (TailNests e f) (Nests f) t (with_tail n) k (λ x q. q n p))

  before_nests : (e : ExpressionView) (ss : StatementsView) (n : Node) (b : Body) → Nests e n → BodyNests ss b → BodyNests (views.statement false e ss) (before n b)
  before_nests e ss n nodes.nothing h k = (omega (arith, h.low), omega (arith, h.height, loose_few (rank_of e)))
  before_nests e ss n (nodes.last m) h k = (omega (arith, h.low, k.0), omega (arith, h.height, loose_few (rank_of e), k.1))
  before_nests e ss n (nodes.next m b) h k = (omega (arith, h.low, k.0), omega (arith, h.height, loose_few (rank_of e), k.1))
  before_nests e ss n (nodes.returned m) h k = (omega (arith, h.low, k.0), omega (arith, h.height, loose_few (rank_of e), k.1))

  block_nests : (ns : List NameView) (ss : StatementsView) (first n : ℕ) (c : Node) (b : Body) → BodyNests ss b → Nests (views.block ns ss) (nodes.block first n c b)
  block_nests ns ss first n c b h = record { low = omega (arith, h.0); rank = refl; inside = omega (arith, h.0); height = omega (arith, h.1); within = omega (arith, h.1) }

  assign_nests : (target : NameView) (e : ExpressionView) (p : InstructionOperand) → TailNests e (views.assign target e) (nodes.assigned p)
  assign_nests target e p n h = record { low = h.low; rank = refl; inside = omega arith; height = omega (arith, h.height, loose_few (rank_of e)); within = omega arith }

  -- the nodes of arguments, one by one
  abbrev AllNest : ExpressionsView → List (Naming Node) → Type 0
  AllNest views.no_expressions [] = Unit {0}
  AllNest views.no_expressions (m ∷ ms) = ⊥
  AllNest (views.expression e es) [] = ⊥
  AllNest (views.expression e es) (m ∷ ms) = Makes (Nests e) m × AllNest es ms

  nodes_nest : (es : ExpressionsView) (ms : List (Naming Node)) → AllNest es ms → Makes (NodesNest es) (all_nodes ms)
  nodes_nest views.no_expressions [] h = record { by = λ ls. record { low = λ w. omega arith; ranks = λ s. refl; receives = λ s a b. refl; height = λ w. omega arith } }
  nodes_nest views.no_expressions (m ∷ ms) h = absurd h
  nodes_nest (views.expression e es) [] h = absurd h
  nodes_nest (views.expression e es) (m ∷ ms) h =
      makes_then (Nests e) (NodesNest (views.expression e es)) m (λ n. all_nodes ms >>= λ ns. given (nodes.node n ns)) h.0
      (λ n p. makes_end (NodesNest es) (NodesNest (views.expression e es)) (all_nodes ms) (nodes.node n) (nodes_nest es ms h.1)
      (λ ns q. record {
        low = λ w. omega (arith, put_low w (tree_of name_of n) e p.rank p.low, q.low w);
        ranks = λ s. refl;
        receives = λ s a b. refl;
        height = λ w. omega (arith, put_room w e (high n) p.height, q.height w, arguments_few w es);
      }))

  -- messages of a tree
  abbrev MessagesAll : MessagesView → List Message → Type 0
  MessagesAll views.no_messages [] = Unit {0}
  MessagesAll views.no_messages (m ∷ ms) = ⊥
  MessagesAll (views.message s es ms) [] = ⊥
  MessagesAll (views.message s es ms) (m ∷ rest) = (m.selector ≡ s) × AllNest es m.arguments × MessagesAll ms rest

  messages_nest : (above : Bool) (ms : MessagesView) (m : Message) (rest : List Message) → MessagesAll ms (m ∷ rest) → Makes (MessagesNest ms) (message_nodes above m rest)
  messages_nest above views.no_messages m rest h = absurd h
  messages_nest above (views.message s es views.no_messages) m (o ∷ rest) h = absurd h.2
  messages_nest above (views.message s es (views.message s' es' ms)) m [] h = absurd h.2
  messages_nest above (views.message s es views.no_messages) m [] h =
      makes_then (NodesNest es) (MessagesNest (views.message s es no_messages)) (all_nodes m.arguments) (λ ns. sending above m.selector >>= λ t. given (nodes.only t ns)) (nodes_nest es m.arguments h.1)
      (λ ns q. makes_end (λ (t : Sending). t.selector ≡ m.selector) (MessagesNest (views.message s es no_messages)) (sending above m.selector) (λ t. nodes.only t ns) (makes_sending above m.selector)
      (λ t e. only_nests s es t ns (e ∙ h.0) q))
  messages_nest above (views.message s es (views.message s' es' ms)) m (o ∷ rest) h =
      makes_then (NodesNest es) (MessagesNest (views.message s es (views.message s' es' ms))) (all_nodes m.arguments) (λ ns. sending above m.selector >>= λ t. (message_nodes above o rest >>= λ x. given (nodes.also t ns x))) (nodes_nest es m.arguments h.1)
      (λ ns q. makes_then (λ (t : Sending). t.selector ≡ m.selector) (MessagesNest (views.message s es (views.message s' es' ms))) (sending above m.selector) (λ t. message_nodes above o rest >>= λ x. given (nodes.also t ns x)) (makes_sending above m.selector)
      (λ t e. makes_end (MessagesNest (views.message s' es' ms)) (MessagesNest (views.message s es (views.message s' es' ms))) (message_nodes above o rest) (nodes.also t ns) (messages_nest above (views.message s' es' ms) o rest h.2)
      (λ x k. also_nests s es s' es' ms t ns x (e ∙ h.0) q k)))

  plain_nests : (above : Bool) (e : ExpressionView) (ms : MessagesView) (m : Message) (rest : List Message) → MessagesAll ms (m ∷ rest) → Makes (TailNests e (views.send e ms)) (plain_tail above m rest)
  plain_nests above e ms m rest h = makes_end (MessagesNest ms) (TailNests e (views.send e ms)) (message_nodes above m rest) (nodes.sent above) (messages_nest above ms m rest h) (λ x q. sent_nests above e ms x q)

  abbrev AreTwo : ExpressionsView → Type 0
  AreTwo (views.expression a (views.expression b views.no_expressions)) = Unit {0}
  AreTwo es = ⊥

  two_expressions : (es : ExpressionsView) (m o : Naming Node) → AllNest es (m ∷ o ∷ []) → AreTwo es
  two_expressions views.no_expressions m o h = h
  two_expressions (views.expression a views.no_expressions) m o h = h.1
  two_expressions (views.expression a (views.expression b views.no_expressions)) m o h = tt
  two_expressions (views.expression a (views.expression b (views.expression c es))) m o h = h.1.1

  formed_nests : (form : Form) (e : ExpressionView) (s : List ℕ) (es : ExpressionsView) (ms : List (Naming Node)) (otherwise : Naming Tail) → HasForm form s → all_plain es ≡ true → AllNest es ms
      → Makes (TailNests e (views.send e (views.message s es no_messages))) otherwise → Makes (TailNests e (views.send e (views.message s es no_messages))) (formed form (is_plain e) ms otherwise)
  formed_nests (One side) e s (views.expression a views.no_expressions) (m ∷ []) otherwise w p h k =
      makes_end (Nests a) (TailNests e (views.send e (views.message s (views.expression a no_expressions) no_messages))) m (λ n. nodes.sided side (body_of n)) h.0
      (λ n q. sided_nests side e s a n w (and_parts (is_plain a) true p).0 q)
  formed_nests (One side) e s views.no_expressions (m ∷ []) otherwise w p h k = absurd h
  formed_nests (One side) e s (views.expression a (views.expression b es)) (m ∷ []) otherwise w p h k = absurd h.1
  formed_nests (Two TrueFirst) e s (views.expression a (views.expression b views.no_expressions)) (m ∷ o ∷ []) otherwise w p h k =
      let pa = and_parts (is_plain a) (is_plain b && true) p in
      makes_then (Nests a) (TailNests e (with_two e s a b)) m (λ x. o >>= λ y. given (nodes.chosen TrueFirst (body_of x) (body_of y))) h.0
      (λ x q. makes_end (Nests b) (TailNests e (with_two e s a b)) o (λ y. nodes.chosen TrueFirst (body_of x) (body_of y)) h.1.0 (λ y r. true_nests e s a b x y w pa.0 (and_parts (is_plain b) true pa.1).0 q r))
  formed_nests (Two TrueFirst) e s es (m ∷ o ∷ []) otherwise w p h k = absurd (two_expressions es m o h)
  formed_nests (Two FalseFirst) e s (views.expression a (views.expression b views.no_expressions)) (m ∷ o ∷ []) otherwise w p h k =
      let pa = and_parts (is_plain a) (is_plain b && true) p in
      makes_then (Nests b) (TailNests e (with_two e s a b)) o (λ y. m >>= λ x. given (nodes.chosen FalseFirst (body_of x) (body_of y))) h.1.0
      (λ y r. makes_end (Nests a) (TailNests e (with_two e s a b)) m (λ x. nodes.chosen FalseFirst (body_of x) (body_of y)) h.0 (λ x q. false_nests e s a b x y w pa.0 (and_parts (is_plain b) true pa.1).0 q r))
  formed_nests (Two FalseFirst) e s es (m ∷ o ∷ []) otherwise w p h k = absurd (two_expressions es m o h)
  formed_nests (Repeated kind) e s es ms otherwise w p h k = by_block (is_plain e) refl ms es p h k
    where
      by_block : (b : Bool) → is_plain e ≡ b → (ms : List (Naming Node)) (es : ExpressionsView) → all_plain es ≡ true → AllNest es ms
          → Makes (TailNests e (views.send e (views.message s es no_messages))) otherwise → Makes (TailNests e (views.send e (views.message s es no_messages))) (formed (Repeated kind) b ms otherwise)
      by_block false pe ms es p h k = k
      by_block true pe [] es p h k = k
      by_block true pe (m ∷ []) views.no_expressions p h k = absurd h
      by_block true pe (m ∷ []) (views.expression a views.no_expressions) p h k =
          makes_end (Nests a) (TailNests e (views.send e (views.message s (views.expression a no_expressions) no_messages))) m (λ n. nodes.looped kind (body_of n)) h.0
          (λ n q. looped_nests kind e s a n w pe (and_parts (is_plain a) true p).0 q)
      by_block true pe (m ∷ []) (views.expression a (views.expression b es)) p h k = absurd h.1
      by_block true pe (m ∷ o ∷ ms) es p h k = k
  formed_nests form e s es ms otherwise w p h k = k

  abbrev message_of : List ℕ → List (Naming Node) → ExpressionsView → Message
  message_of s ms es = record { selector = s; arguments = ms; all_blocks = all_plain es }

  single_nests : (above : Bool) (e : ExpressionView) (s : List ℕ) (es : ExpressionsView) (ms : List (Naming Node)) → AllNest es ms
      → Makes (TailNests e (views.send e (views.message s es no_messages))) (single_tail above (is_plain e) (record { selector = s; arguments = ms; all_blocks = all_plain es }))
  single_nests above e s es ms h = by_test (not above && all_plain es) refl
    where
      otherwise : Makes (TailNests e (views.send e (views.message s es no_messages))) (plain_tail above (message_of s ms es) [])
      otherwise = plain_nests above e (views.message s es no_messages) (message_of s ms es) [] (refl, h, tt)

      by_test : (b : Bool) → (not above && all_plain es) ≡ b → Makes (TailNests e (views.send e (views.message s es no_messages))) (if b then formed (form_named s) (is_plain e) ms (plain_tail above (message_of s ms es) []) else plain_tail above (message_of s ms es) [])
      by_test true t = formed_nests (form_named s) e s es ms (plain_tail above (message_of s ms es) []) (has_form s) (and_parts (not above) (all_plain es) t).1 h otherwise
      by_test false t = otherwise

  mutual
    expression_nests : (e : ExpressionView) (c : Context) → ReceiverFormed e → Makes (Nests e) (expression_node e c)
    expression_nests (views.variable n) c f = leaf_nests (views.variable n) (constant_named n.text) (place_of_name c n) refl
    expression_nests (views.literal e) c f = content_nests e.what (views.literal e) refl refl
    expression_nests (views.block ns body) c f =
        makes_then (λ (x : Node). Unit {0}) (Nests (views.block ns body)) (count_node (length ns)) (λ n. statements_body body (inside c ns) >>= λ b. given (nodes.block c.next (length ns) n b)) (record { by = λ ls. tt })
        (λ n p. makes_end (BodyNests body) (Nests (views.block ns body)) (statements_body body (inside c ns)) (nodes.block c.next (length ns) n) (statements_nest body (inside c ns) f.1) (λ b q. block_nests ns body c.next (length ns) n b q))
    expression_nests (views.assign target e) c f =
        tailed_nests e (views.assign target e) (expression_node e c) (assign_tail c target) (expression_nests e c f.1)
        (makes_end (λ (p : InstructionOperand). Unit {0}) (TailNests e (views.assign target e)) (place_of_name c target) nodes.assigned (record { by = λ ls. tt }) (λ p i. assign_nests target e p))
    expression_nests (views.send x views.no_messages) c f = absurd f.1
    expression_nests (views.send x (views.message s es views.no_messages)) c f =
        tailed_nests x (views.send x (views.message s es views.no_messages)) (expression_node x c) (sends_tail (is_super x) (is_plain x) (messages_of (views.message s es views.no_messages) (behind c (names_in x)))) (expression_nests x c f.0)
        (single_nests (is_super x) x s es (nodes_of es (behind c (names_in x))) (all_nest es (behind c (names_in x)) f.2.1))
    expression_nests (views.send x (views.message s es (views.message s' es' ms))) c f =
        tailed_nests x (views.send x (views.message s es (views.message s' es' ms))) (expression_node x c) (sends_tail (is_super x) (is_plain x) (messages_of (views.message s es (views.message s' es' ms)) (behind c (names_in x)))) (expression_nests x c f.0)
        (plain_nests (is_super x) x (views.message s es (views.message s' es' ms)) (message_of s (nodes_of es (behind c (names_in x))) es) (messages_of (views.message s' es' ms) (behind (behind c (names_in x)) (names_in_all es))) (messages_all (views.message s es (views.message s' es' ms)) (behind c (names_in x)) f.2))

    statements_nest : (ss : StatementsView) (c : Context) → StatementsFormed ss → Makes (BodyNests ss) (statements_body ss c)
    statements_nest views.no_statements c f = record { by = λ ls. (omega arith, omega arith) }
    statements_nest (views.statement true e ss) c f = makes_end (Nests e) (BodyNests (views.statement true e ss)) (expression_node e c) nodes.returned (expression_nests e c f.0) (λ n p. (omega (arith, p.low), omega (arith, p.height, loose_few (rank_of e))))
    statements_nest (views.statement false e ss) c f =
        makes_then (Nests e) (BodyNests (views.statement false e ss)) (expression_node e c) (λ n. statements_body ss (behind c (names_in e)) >>= λ b. given (before n b)) (expression_nests e c f.0)
        (λ n p. makes_end (BodyNests ss) (BodyNests (views.statement false e ss)) (statements_body ss (behind c (names_in e))) (before n) (statements_nest ss (behind c (names_in e)) f.3) (λ b q. before_nests e ss n b p q))

    messages_all : (ms : MessagesView) (c : Context) → MessagesFormed ms → MessagesAll ms (messages_of ms c)
    messages_all views.no_messages c f = tt
    messages_all (views.message s es ms) c f = (refl, all_nest es c f.1, messages_all ms (behind c (names_in_all es)) f.2)

    all_nest : (es : ExpressionsView) (c : Context) → ArgumentsFormed es → AllNest es (nodes_of es c)
    all_nest views.no_expressions c f = tt
    all_nest (views.expression e es) c f = (expression_nests e c f.0, all_nest es (behind c (names_in e)) f.2)

  -- METHODS

  without_low : (ss : StatementsView) → statements_nesting (without_self ss) ≤ statements_nesting ss
  without_low views.no_statements = omega arith
  without_low (views.statement true e ss) = by_self (is_self e)
    where
      by_self : (t : Bool) → statements_nesting (if t then no_statements else statement true e no_statements) ≤ statements_nesting (statement true e ss)
      by_self true = omega arith
      by_self false = omega arith
  without_low (views.statement false e ss) = omega (arith, without_low ss)

  method_low : (b : Body) → statements_nesting (method_tree name_of b no_statements) ≤ statements_nesting (body_tree name_of b no_statements)
  method_low nodes.nothing = omega arith
  method_low (nodes.last n) = omega arith
  method_low (nodes.next n b) = omega (arith, method_low b)
  method_low (nodes.returned n) = omega arith

  method_nests : (ss : StatementsView) (b : Body) → BodyNests ss b → statements_nesting (without_self (method_tree name_of b no_statements)) ≤ statements_nesting ss
  method_nests ss b h = omega (arith, without_low (method_tree name_of b no_statements), method_low b, h.0)

  -- the statements that are read of what statements are resolved to
  pub read_nests : (ss : StatementsView) (c : Context) (ls : List LiteralView) → StatementsFormed ss → statements_nesting (without_self (method_tree name_of (statements_body ss c ls).part no_statements)) ≤ statements_nesting ss
  read_nests ss c ls f = method_nests ss (statements_body ss c ls).part ((statements_nest ss c f).by ls)

  -- and what they are resolved to is no higher than a text may have
  pub body_few : (ss : StatementsView) (c : Context) (ls : List LiteralView) → StatementsFormed ss → statements_nesting ss ≤ most → body_high (statements_body ss c ls).part 0 ≤ most_high
  body_few ss c ls f shallow = let h = ((statements_nest ss c f).by ls).1 in omega (arith, h, shallow)

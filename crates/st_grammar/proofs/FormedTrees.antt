-- The trees of phrases are well-formed.
use Rattle.std.proofs.Common.{◌≡◌, ℕ, zero, suc, List, [], ◌∷◌, ◌++◌, length, None, inl, inr, refl, sym, ap, ◌∙◌, subst, append_assoc}
use Rattle.std.specs.Prelude.{IsTrue, IsFalse}
use Rattle.std.specs.List.{list_all}
use Rattle.std.specs.Str.{byte}
use Rattle.std.proofs.lemmas.Bool.{and_from}
use Rattle.st_scan.specs.Views.{NameView, ExpressionView, ExpressionsView, MessagesView, StatementsView, MethodView, with_message, with_sent, is_super}
use Rattle.st_scan.specs.Views as views
use Rattle.st_scan.specs.Pieces.{is_name, keywords_text}
use Rattle.st_scan.proofs.Spans.{are_tokens}
use Rattle.st_grammar.specs.declared.leaf.Kind.TheVariants.{Joined}
use Rattle.st_grammar.specs.Leaves.{leaves_of, keywords}
use Rattle.st_grammar.specs.Phrases.{One, names, first_keywords, Element, plain, keyword_symbol, nested, Elements, no_elements, element, Literal, constant, array, Parameter, Target, Primary, name, literal, block, group, Block, plain_block, full_block, empty_block, Unary, unary, Binary, binary, Operations, no_operations, operation, keyworded, Parts, no_parts, part, Cascade, cascade, Messages, no_messages, message, Message, unary_message, binary_message, keyword_message, Expression, expression, Statements, no_statements, last, next, returned, returned_ended, KeywordName, Pattern, unary_pattern, binary_pattern, keyword_pattern, Options, no_options, with_temporaries, with_primitive, temporaries_first, primitive_first, Method, method, ones_text, element_text, elements_text, literal_text, parameters_text, targets_text, primary_text, block_text, unary_text, binary_text, operations_text, parts_text, cascade_text, messages_text, message_text, expression_text, statements_text, keyword_names_text, pattern_text, temporaries_text, primitive_text, options_text, method_text}
use Rattle.st_grammar.specs.Trees.{bytes, sent, sent_if, joined_bytes, names_of, element_tree, elements_tree, literal_tree, parameters_tree, assigned, after_names, selector_of, primary_tree, block_tree, unary_tree, binary_tree, after_operations, keyworded_tree, arguments_of, cascade_tree, after_messages, with_one, expression_tree, statements_tree, keyword_selector, keyword_arguments, pattern_selector, pattern_arguments, options_temporaries, options_primitive, method_tree, PrimaryFits, BlockFits, UnaryFits, BinaryFits, OperationsFit, PartsFit, CascadeFits, MessagesFit, MessageFits, ExpressionFits, StatementsFit, MethodFits}
use Rattle.st_grammar.specs.inside.Meant.{Means}
use Rattle.st_grammar.specs.inside.Formed.{AreKeywords, IsSelector, ContentFormed, ElementsFormed, LiteralFormed, NamesFormed, HasMessage, count_of, ReceiverFormed, StatementsFormed, MessagesFormed, ArgumentsFormed, PrimitiveFormed, IsWellFormed}
use Rattle.st_grammar.proofs.KindSets.{within}
use Rattle.st_grammar.proofs.FormedLeaves.{Each, each_front, each_back, each_leaf, name_formed, keyword_formed, operator_formed, number_formed, plain_formed, constant_formed}

-- one more keyword before others
keywords_cons : (b rest : List ℕ) (count : ℕ) → ((n : List ℕ) × IsTrue (is_name n) × (n ++ byte ":" ∷ [] ≡ b)) → AreKeywords rest count → AreKeywords (b ++ rest) (suc count)
keywords_cons b rest count k ks = record {
  names = k.0 ∷ ks.names;
  are_names = and_from (is_name k.0) (list_all is_name ks.names) k.1 ks.are_names;
  is_joined = sym (append_assoc k.0 (byte ":" ∷ []) (keywords_text ks.names)) ∙ ap (λ (l : List ℕ). l ++ keywords_text ks.names) k.2 ∙ ap (λ (l : List ℕ). b ++ l) ks.is_joined;
  counted = ap (λ (n : ℕ). suc n) ks.counted;
}

keywords_none : AreKeywords [] zero
keywords_none = record { names = []; are_names = refl; is_joined = refl; counted = refl }

-- one more message to what receives some
sent_formed : (t : ExpressionView) (s : List ℕ) (es : ExpressionsView) → ReceiverFormed t → IsSelector s (count_of es) → ArgumentsFormed es → ReceiverFormed (with_sent t s es)
sent_formed (views.send r ms) s es f k a = (f.0, some ms, all ms f.2)
  where
    some : (ms : MessagesView) → HasMessage (with_message ms s es)
    some views.no_messages = tt
    some (views.message t fs ms) = tt

    all : (ms : MessagesView) → MessagesFormed ms → MessagesFormed (with_message ms s es)
    all views.no_messages f = (k, a, tt)
    all (views.message t fs ms) f = (f.0, f.1, all ms f.2)
sent_formed (views.variable n) s es f k a = f
sent_formed (views.literal e) s es f k a = f
sent_formed (views.block ns body) s es f k a = f
sent_formed (views.assign target e) s es f k a = f

-- and it is `super` as before
with_sent-super : (t : ExpressionView) (s : List ℕ) (es : ExpressionsView) → is_super (with_sent t s es) ≡ is_super t
with_sent-super (views.send r ms) s es = refl
with_sent-super (views.variable n) s es = refl
with_sent-super (views.literal e) s es = refl
with_sent-super (views.block ns body) s es = refl
with_sent-super (views.assign target e) s es = refl

module _ (text : List ℕ) where
  -- LITERALS

  joined_formed : (ks : List (One (Joined ∷ []))) → Each text (ones_text ks) → AreKeywords (joined_bytes text ks) (length ks)
  joined_formed [] e = keywords_none
  joined_formed (k ∷ ks) e = keywords_cons (bytes text k.leaf) (joined_bytes text ks) (length ks) (keyword_formed text k.leaf e.0 (within (Joined ∷ []) keywords refl k.leaf k.fits)) (joined_formed ks e.1)

  mutual
    element_formed : (x : Element) → Each text (element_text x) → ContentFormed (element_tree text x).what
    element_formed (plain o) e = plain_formed text o.leaf e.0 o.fits
    element_formed (keyword_symbol k ks) e =
        (suc (length ks), inr (keywords_cons (bytes text k.leaf) (joined_bytes text ks) (length ks) (keyword_formed text k.leaf e.0 (within first_keywords keywords refl k.leaf k.fits)) (joined_formed ks e.1)))
    element_formed (nested o es c) e = elements_formed es (each_front text (elements_text es) (c.leaf ∷ []) e.1)

    elements_formed : (es : Elements) → Each text (elements_text es) → ElementsFormed (elements_tree text es)
    elements_formed no_elements e = tt
    elements_formed (element x es) e = (element_formed x (each_front text (element_text x) (elements_text es) e), elements_formed es (each_back text (element_text x) (elements_text es) e))

  literal_formed : (l : Literal) → Each text (literal_text l) → LiteralFormed (literal_tree text l).what
  literal_formed (constant o) e = constant_formed text o.leaf e.0 o.fits
  literal_formed (array o es c) e = elements_formed es (each_front text (elements_text es) (c.leaf ∷ []) e.1)

  -- NAMES

  parameters_formed : (ps : List Parameter) → Each text (parameters_text ps) → NamesFormed (parameters_tree text ps)
  parameters_formed [] e = tt
  parameters_formed (p ∷ ps) e = (name_formed text p.name.leaf e.1.0 p.name.fits, parameters_formed ps e.1.1)

  names_formed : (os : List (One names)) → Each text (ones_text os) → NamesFormed (names_of text os)
  names_formed [] e = tt
  names_formed (o ∷ os) e = (name_formed text o.leaf e.0 o.fits, names_formed os e.1)

  -- EXPRESSIONS

  after_names-formed : (t : ExpressionView) (ns : List (One names)) → ReceiverFormed t → Each text (ones_text ns) → ReceiverFormed (after_names text t ns)
  after_names-formed t [] f e = f
  after_names-formed t (n ∷ ns) f e = after_names-formed (sent t (bytes text n.leaf) views.no_expressions) ns (f, tt, (name_formed text n.leaf e.0 n.fits, tt, tt)) e.1

  -- what the arguments of a keyword message are
  record PartsFormed (ks : Parts) : Type 0 where
    keywords_are : AreKeywords (selector_of text ks) (count_of (arguments_of text ks))
    arguments_are : ArgumentsFormed (arguments_of text ks)

  keyworded_formed : (t : ExpressionView) (ks : Parts) → ReceiverFormed t → PartsFormed ks → ReceiverFormed (sent_if t (selector_of text ks) (arguments_of text ks))
  keyworded_formed t no_parts f p = f
  keyworded_formed t (part k b ks) f p = (f, tt, (inr p.keywords_are, p.arguments_are, tt))

  assigned_formed : (ts : List Target) (t : ExpressionView) → Each text (targets_text ts) → ReceiverFormed t → IsFalse (is_super t) → ReceiverFormed (assigned text ts t) × IsFalse (is_super (assigned text ts t))
  assigned_formed [] t e f s = (f, s)
  assigned_formed (x ∷ xs) t e f s = let more = assigned_formed xs t e.1.1 f s in ((name_formed text x.name.leaf e.0 x.name.fits, more.0, more.1), refl)

  after_messages-super : (t : ExpressionView) (ms : Messages) → is_super (after_messages text t ms) ≡ is_super t
  after_messages-super t no_messages = refl
  after_messages-super t (message s (unary_message n) ms) = after_messages-super (with_one text t (unary_message n)) ms ∙ with_sent-super t (bytes text n.leaf) views.no_expressions
  after_messages-super t (message s (binary_message o u) ms) = after_messages-super (with_one text t (binary_message o u)) ms ∙ with_sent-super t (bytes text o.leaf) (views.expression (unary_tree text u) views.no_expressions)
  after_messages-super t (message s (keyword_message k b ks) ms) = after_messages-super (with_one text t (keyword_message k b ks)) ms ∙ with_sent-super t (bytes text k.leaf ++ selector_of text ks) (views.expression (binary_tree text b) (arguments_of text ks))

  mutual
    primary_formed : (p : Primary) → PrimaryFits text p → Each text (primary_text p) → ReceiverFormed (primary_tree text p)
    primary_formed (name o) f e = name_formed text o.leaf e.0 o.fits
    primary_formed (literal l) f e = literal_formed l e
    primary_formed (block o b c) f e = block_formed b f (each_front text (block_text b) (c.leaf ∷ []) e.1)
    primary_formed (group o x c) f e = (expression_formed x f (each_front text (expression_text x) (c.leaf ∷ []) e.1)).0

    block_formed : (b : Block) → BlockFits text b → Each text (block_text b) → ReceiverFormed (block_tree text b)
    block_formed (plain_block ss) f e = (tt, statements_formed ss f e)
    block_formed (full_block p ps b ss) f e = (parameters_formed (p ∷ ps) (each_front text (parameters_text (p ∷ ps)) (b.leaf ∷ statements_text ss) e), statements_formed ss f (each_back text (parameters_text (p ∷ ps)) (b.leaf ∷ statements_text ss) e).1)
    block_formed (empty_block p ps) f e = (parameters_formed (p ∷ ps) e, tt)

    unary_formed : (u : Unary) → UnaryFits text u → Each text (unary_text u) → ReceiverFormed (unary_tree text u) × IsFalse (is_super (unary_tree text u))
    unary_formed (unary p ns) f e = (after_names-formed (primary_tree text p) ns (primary_formed p f.0 (each_front text (primary_text p) (ones_text ns) e)) (each_back text (primary_text p) (ones_text ns) e), f.1)

    operations_formed : (t : ExpressionView) (os : Operations) → ReceiverFormed t → OperationsFit text os → Each text (operations_text os) → ReceiverFormed (after_operations text t os)
    operations_formed t no_operations g f e = g
    operations_formed t (operation o u os) g f e =
        let a = unary_formed u f.0 (each_front text (unary_text u) (operations_text os) e.1) in
        operations_formed (sent t (bytes text o.leaf) (views.expression (unary_tree text u) views.no_expressions)) os
        (g, tt, (inl (operator_formed text o.leaf e.0 o.fits, refl), (a.0, a.1, tt), tt)) f.1 (each_back text (unary_text u) (operations_text os) e.1)

    binary_formed : (b : Binary) → BinaryFits text b → Each text (binary_text b) → ReceiverFormed (binary_tree text b) × IsFalse (is_super (binary_tree text b))
    binary_formed (binary (unary p ns) os) f e =
        let front = each_front text (primary_text p ++ ones_text ns) (operations_text os) e in
        let receiver = after_names-formed (primary_tree text p) ns (primary_formed p f.0 (each_front text (primary_text p) (ones_text ns) front)) (each_back text (primary_text p) (ones_text ns) front) in
        (operations_formed (after_names text (primary_tree text p) ns) os receiver f.1 (each_back text (primary_text p ++ ones_text ns) (operations_text os) e), f.2)

    parts_formed : (ks : Parts) → PartsFit text ks → Each text (parts_text ks) → PartsFormed ks
    parts_formed no_parts f e = record { keywords_are = keywords_none; arguments_are = tt }
    parts_formed (part k b ks) f e =
        let a = binary_formed b f.0 (each_front text (binary_text b) (parts_text ks) e.1) in
        let more = parts_formed ks f.1 (each_back text (binary_text b) (parts_text ks) e.1) in
        record {
          keywords_are = keywords_cons (bytes text k.leaf) (selector_of text ks) (count_of (arguments_of text ks)) (keyword_formed text k.leaf e.0 k.fits) more.keywords_are;
          arguments_are = (a.0, a.1, more.arguments_are);
        }

    messages_formed : (t : ExpressionView) (ms : Messages) → ReceiverFormed t → MessagesFit text ms → Each text (messages_text ms) → ReceiverFormed (after_messages text t ms)
    messages_formed t no_messages g f e = g
    messages_formed t (message s m ms) g f e = messages_formed (with_one text t m) ms (message_formed t m g f.0 (each_front text (message_text m) (messages_text ms) e.1)) f.1 (each_back text (message_text m) (messages_text ms) e.1)

    message_formed : (t : ExpressionView) (m : Message) → ReceiverFormed t → MessageFits text m → Each text (message_text m) → ReceiverFormed (with_one text t m)
    message_formed t (unary_message n) g f e = sent_formed t (bytes text n.leaf) views.no_expressions g (name_formed text n.leaf e.0 n.fits) tt
    message_formed t (binary_message o u) g f e =
        let a = unary_formed u f e.1 in
        sent_formed t (bytes text o.leaf) (views.expression (unary_tree text u) views.no_expressions) g (inl (operator_formed text o.leaf e.0 o.fits, refl)) (a.0, a.1, tt)
    message_formed t (keyword_message k b ks) g f e =
        let a = binary_formed b f.0 (each_front text (binary_text b) (parts_text ks) e.1) in
        let more = parts_formed ks f.1 (each_back text (binary_text b) (parts_text ks) e.1) in
        sent_formed t (bytes text k.leaf ++ selector_of text ks) (views.expression (binary_tree text b) (arguments_of text ks)) g
        (inr (keywords_cons (bytes text k.leaf) (selector_of text ks) (count_of (arguments_of text ks)) (keyword_formed text k.leaf e.0 k.fits) more.keywords_are))
        (a.0, a.1, more.arguments_are)

    pub cascade_formed : (c : Cascade) → CascadeFits text c → Each text (cascade_text c) → ReceiverFormed (cascade_tree text c) × IsFalse (is_super (cascade_tree text c))
    cascade_formed (cascade (keyworded (binary (unary p ns) os) ks) ms) f e =
        let words = ((primary_text p ++ ones_text ns) ++ operations_text os) ++ parts_text ks in
        let one = each_front text words (messages_text ms) e in
        let two = each_front text ((primary_text p ++ ones_text ns) ++ operations_text os) (parts_text ks) one in
        let three = each_front text (primary_text p ++ ones_text ns) (operations_text os) two in
        let receiver = after_names-formed (primary_tree text p) ns (primary_formed p f.0 (each_front text (primary_text p) (ones_text ns) three)) (each_back text (primary_text p) (ones_text ns) three) in
        let binaries = operations_formed (after_names text (primary_tree text p) ns) os receiver f.1 (each_back text (primary_text p ++ ones_text ns) (operations_text os) two) in
        let parts = parts_formed ks f.2 (each_back text ((primary_text p ++ ones_text ns) ++ operations_text os) (parts_text ks) one) in
        let first = keyworded_formed (binary_tree text (binary (unary p ns) os)) ks binaries parts in (
          messages_formed (keyworded_tree text (keyworded (binary (unary p ns) os) ks)) ms first f.3 (each_back text words (messages_text ms) e),
          after_messages-super (keyworded_tree text (keyworded (binary (unary p ns) os) ks)) ms ∙ f.4,
        )

    expression_formed : (x : Expression) → ExpressionFits text x → Each text (expression_text x) → ReceiverFormed (expression_tree text x) × IsFalse (is_super (expression_tree text x))
    expression_formed (expression ts c) f e =
        let value = cascade_formed c f (each_back text (targets_text ts) (cascade_text c) e) in
        assigned_formed ts (cascade_tree text c) (each_front text (targets_text ts) (cascade_text c) e) value.0 value.1

    statements_formed : (ss : Statements) → StatementsFit text ss → Each text (statements_text ss) → StatementsFormed (statements_tree text ss)
    statements_formed no_statements f e = tt
    statements_formed (last x) f e = let v = expression_formed x f e in (v.0, v.1, tt, tt)
    statements_formed (next x p ss) f e =
        let v = expression_formed x f.0 (each_front text (expression_text x) (p.leaf ∷ statements_text ss) e) in
        (v.0, v.1, tt, statements_formed ss f.1 (each_back text (expression_text x) (p.leaf ∷ statements_text ss) e).1)
    statements_formed (returned r x) f e = let v = expression_formed x f e.1 in (v.0, v.1, tt, tt)
    statements_formed (returned_ended r x p) f e = let v = expression_formed x f (each_front text (expression_text x) (p.leaf ∷ []) e.1) in (v.0, v.1, tt, tt)

  -- METHODS

  record PatternFormed (p : Pattern) : Type 0 where
    selector_is : IsSelector (pattern_selector text p) (length (pattern_arguments text p))
    arguments_are : NamesFormed (pattern_arguments text p)

  record KeywordsFormed (ks : List KeywordName) : Type 0 where
    keywords_are : AreKeywords (keyword_selector text ks) (length (keyword_arguments text ks))
    arguments_are : NamesFormed (keyword_arguments text ks)

  keyword_names-formed : (ks : List KeywordName) → Each text (keyword_names_text ks) → KeywordsFormed ks
  keyword_names-formed [] e = record { keywords_are = keywords_none; arguments_are = tt }
  keyword_names-formed (k ∷ ks) e =
      let more = keyword_names-formed ks e.1.1 in
      record {
        keywords_are = keywords_cons (bytes text k.keyword.leaf) (keyword_selector text ks) (length (keyword_arguments text ks)) (keyword_formed text k.keyword.leaf e.0 k.keyword.fits) more.keywords_are;
        arguments_are = (name_formed text k.name.leaf e.1.0 k.name.fits, more.arguments_are);
      }

  pattern_formed : (p : Pattern) → Each text (pattern_text p) → PatternFormed p
  pattern_formed (unary_pattern n) e = record { selector_is = name_formed text n.leaf e.0 n.fits; arguments_are = tt }
  pattern_formed (binary_pattern o n) e = record { selector_is = inl (operator_formed text o.leaf e.0 o.fits, refl); arguments_are = (name_formed text n.leaf e.1.0 n.fits, tt) }
  pattern_formed (keyword_pattern k ks) e = let f = keyword_names-formed (k ∷ ks) e in record { selector_is = inr f.keywords_are; arguments_are = f.arguments_are }

  record OptionsFormed (o : Options) : Type 0 where
    temporaries_are : NamesFormed (options_temporaries text o)
    primitive_is : PrimitiveFormed (options_primitive text o)

  options_formed : (o : Options) → Each text (options_text o) → OptionsFormed o
  options_formed no_options e = record { temporaries_are = tt; primitive_is = tt }
  options_formed (with_temporaries t) e = record { temporaries_are = names_formed t.inside (each_front text (ones_text t.inside) (t.close_bar.leaf ∷ []) e.1); primitive_is = tt }
  options_formed (with_primitive p) e = record { temporaries_are = tt; primitive_is = number_formed text p.number.leaf e.1.1.0 p.number.fits }
  options_formed (temporaries_first t p) e =
      let front = each_front text (temporaries_text t) (primitive_text p) e in
      let back = each_back text (temporaries_text t) (primitive_text p) e in
      record { temporaries_are = names_formed t.inside (each_front text (ones_text t.inside) (t.close_bar.leaf ∷ []) front.1); primitive_is = number_formed text p.number.leaf back.1.1.0 p.number.fits }
  options_formed (primitive_first p t) e =
      let front = each_front text (primitive_text p) (temporaries_text t) e in
      let back = each_back text (primitive_text p) (temporaries_text t) e in
      record { temporaries_are = names_formed t.inside (each_front text (ones_text t.inside) (t.close_bar.leaf ∷ []) back.1); primitive_is = number_formed text p.number.leaf front.1.1.0 p.number.fits }

  method_formed : (m : Method) → MethodFits text m → Each text (method_text m) → IsWellFormed (method_tree text m)
  method_formed (method p o ss) f e =
      let rest = each_back text (pattern_text p) (options_text o ++ statements_text ss) e in
      let pattern = pattern_formed p (each_front text (pattern_text p) (options_text o ++ statements_text ss) e) in
      let options = options_formed o (each_front text (options_text o) (statements_text ss) rest) in
      record {
        selector = pattern.selector_is;
        arguments = pattern.arguments_are;
        temporaries = options.temporaries_are;
        primitive = options.primitive_is;
        body = statements_formed ss f (each_back text (options_text o) (statements_text ss) rest);
      }

-- the leaves of a text
pub each_of : (text : List ℕ) (t : MethodView) (m : Means text t) → Each text (leaves_of text m.tokens)
each_of text t m = each_leaf text None m.tokens (are_tokens text m.tokens None m.scan)

pub means_formed : (text : List ℕ) (t : MethodView) → Means text t → IsWellFormed t
means_formed text t m =
    let (p, f, e, is) = m.method in
    subst IsWellFormed is (method_formed text p f (subst (Each text) (sym e) (each_of text t m)))

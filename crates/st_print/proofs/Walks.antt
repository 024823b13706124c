-- What is printed of a tree, word after word.
use Rattle.std.proofs.Common.{◌≡◌, ℕ, ◌+◌, ◌<◌, ◌≤◌, Bool, true, false, not, List, [], ◌∷◌, ◌++◌, length, inl, inr, refl, sym, ◌∙◌, subst, append_assoc, arith}
use Rattle.std.specs.Prelude.{Option, Some, None, codes, if◌then◌else◌}
use Rattle.std.specs.Str.{byte}
use Rattle.std.proofs.lemmas.Bool.{lt-ltb}
use Rattle.st_scan.specs.declared.token.Signed.{Signed}
use Rattle.st_scan.specs.Views.{NameView, ContentView, ElementsView, ExpressionView, StatementsView, MessagesView, ExpressionsView, MethodView, is_super}
use Rattle.st_scan.specs.Views as views
use Rattle.st_scan.specs.Scans.{Context, signs}
use Rattle.st_scan.proofs.Classes.{or_second}
use Rattle.st_grammar.specs.inside.Formed.{AreKeywords, IsSelector, ContentFormed, ElementsFormed, LiteralFormed, NamesFormed, HasMessage, count_of, ReceiverFormed, StatementsFormed, MessagesFormed, ArgumentsFormed, PrimitiveFormed, IsWellFormed}
use Rattle.st_print.specs.declared.rank.Rank.{Rank}
use Rattle.st_print.specs.declared.rank.Rank.TheVariants.{Unary, Binary}
use Rattle.st_print.specs.Words.{Word, name, keyword, operator, number, character, string, symbol, opening, mark, bar, wrapped, other_keywords}
use Rattle.st_print.specs.Printed.{content_words, elements_words, is_loose, rank_of, receiver_rank, parameter_words, parameters_words, return_words, expression_words, statements_words, next_statements, messages_words, next_messages, message_words, keyword_words, placed, names_words, keyword_pattern, pattern_words, temporaries_words, primitive_words, options_words, first_signed, apart, behind_pattern, method_words}
use Rattle.st_print.proofs.Selectors.{FirstOf, first_of_some, operator_no_word}
use Rattle.st_print.proofs.Nesting.{content_nesting, elements_nesting, wrapped_nesting, argument_rank, nesting, statements_nesting, messages_nesting, arguments_nesting}
use Rattle.st_print.proofs.Going.{WordFormed, Goes, goes_append, before, behind, outside, in_parentheses, in_block, in_array}

-- in a literal array a sign may stand anywhere
signs_in : (c : Context) → 0 < c.depth → signs c ≡ true
signs_in c pos = or_second (not c.operand) _ (lt-ltb 0 c.depth pos)

-- elements end in a context of the same array
record GoesIn (m : ℕ) (c : Context) (h : ℕ) (ws : List Word) : Type 0 where
  last : Context
  goes : Goes m c h ws last h
  same : last.depth ≡ c.depth

module _ (m : ℕ) where
  mutual
    content_goes : (what : ContentView) → ContentFormed what → (c : Context) → signs c ≡ true → (h : ℕ) → h + content_nesting what ≤ m → Goes m c h (content_words what) (record { operand = true; depth = c.depth }) h
    content_goes (views.number n) f c s h le = ((f, λ t. s), omega arith, (refl, refl))
    content_goes (views.character b) f c s h le = (tt, omega arith, (refl, refl))
    content_goes (views.bytes text) f c s h le = (tt, omega arith, (refl, refl))
    content_goes (views.symbol text) f c s h le = (f, omega arith, (refl, refl))
    content_goes (views.array es) f c s h le =
        let inside = elements_goes es f (record { operand = false; depth = c.depth + 1 }) (omega arith) (h + 1) (omega arith) in
        in_array m h c inside.last (elements_words es) (omega arith) inside.same inside.goes
    content_goes views.nil_object f c s h le = (refl, omega arith, (refl, refl))
    content_goes views.false_object f c s h le = (refl, omega arith, (refl, refl))
    content_goes views.true_object f c s h le = (refl, omega arith, (refl, refl))

    elements_goes : (es : ElementsView) → ElementsFormed es → (c : Context) → 0 < c.depth → (h : ℕ) → h + elements_nesting es ≤ m → GoesIn m c h (elements_words es)
    elements_goes views.no_elements f c pos h le = record { last = c; goes = (refl, refl); same = refl }
    elements_goes (views.element place what es) f c pos h le =
        let next : Context = record { operand = true; depth = c.depth } in
        let first = content_goes what f.0 c (signs_in c pos) h (omega arith) in
        let others = elements_goes es f.1 next pos h (omega arith) in
        record { last = others.last; goes = goes_append m c h (content_words what) next h (elements_words es) others.last h first others.goes; same = others.same }

  literal_formed : (what : ContentView) → LiteralFormed what → ContentFormed what
  literal_formed (views.number n) f = f
  literal_formed (views.character b) f = f
  literal_formed (views.bytes text) f = f
  literal_formed (views.symbol text) f = f
  literal_formed (views.array es) f = f
  literal_formed views.nil_object f = absurd f
  literal_formed views.false_object f = absurd f
  literal_formed views.true_object f = absurd f

  -- words that end where an operand stands before, or where none does
  pub record GoesOut (c : Context) (h : ℕ) (ws : List Word) : Type 0 where
    pub operand : Bool
    pub goes : Goes m c h ws (outside operand) h

  out_append : (c d : Context) (h : ℕ) (ws vs : List Word) → Goes m c h ws d h → GoesOut d h vs → GoesOut c h (ws ++ vs)
  out_append c d h ws vs x y = record { operand = y.operand; goes = goes_append m c h ws d h vs (outside y.operand) h x y.goes }

  -- an expression in parentheses, or without
  wrapped_goes : (loose : Bool) (n h : ℕ) (ws : List Word) → h + wrapped_nesting loose n ≤ m → ((k : ℕ) → k + n ≤ m → Goes m before k ws behind k) → Goes m before h (wrapped loose ws) behind h
  wrapped_goes true n h ws le g = in_parentheses m h false ws (omega arith) (g (h + 1) (omega arith))
  wrapped_goes false n h ws le g = g h le

  parameter_goes : (o : Bool) (n : NameView) (ns : List NameView) (h : ℕ) → NamesFormed (n ∷ ns) → h ≤ m → Goes m (outside o) h (parameter_words (n ∷ ns)) behind h
  parameter_goes o n [] h f le = (refl, le, (f.0, le, (refl, refl)))
  parameter_goes o n (p ∷ ns) h f le = (refl, le, (f.0, le, parameter_goes true p ns h f.1 le))

  parameters_goes : (ns : List NameView) (h : ℕ) → NamesFormed ns → h ≤ m → Goes m before h (parameters_words ns) before h
  parameters_goes [] h f le = (refl, refl)
  parameters_goes (n ∷ ns) h f le = goes_append m before h (parameter_words (n ∷ ns)) behind h (bar ∷ []) before h (parameter_goes false n ns h f le) (refl, le, (refl, refl))

  return_goes : (returns : Bool) (h : ℕ) → h ≤ m → Goes m before h (return_words returns) before h
  return_goes true h le = (refl, le, (refl, refl))
  return_goes false h le = (refl, refl)

  keyword_goes : (selector : List ℕ) (e : ExpressionView) (es : ExpressionsView) → FirstOf selector (count_of es) → (o : Bool) (h : ℕ) → h ≤ m
      → Goes m before h (placed Binary e) behind h → Goes m behind h (keyword_words (other_keywords selector) es) behind h → Goes m (outside o) h (keyword_words selector (views.expression e es)) behind h
  keyword_goes selector e es k o h le first others =
      ((k.name, k.is_name, k.first), le, goes_append m before h (placed Binary e) behind h (keyword_words (other_keywords selector) es) behind h first others)

  mutual
    pub expression_goes : (e : ExpressionView) → ReceiverFormed e → (h : ℕ) → h + nesting e ≤ m → Goes m before h (expression_words e) behind h
    expression_goes (views.variable n) f h le = (f, omega arith, (refl, refl))
    expression_goes (views.literal e) f h le = content_goes e.what (literal_formed e.what f) before refl h le
    expression_goes (views.block names body) f h le =
        let inside = out_append before before (h + 1) (parameters_words names) (statements_words body) (parameters_goes names (h + 1) f.0 (omega arith)) (statements_go body f.1 (h + 1) (omega arith)) in
        subst (λ ws. Goes m before h (mark (byte "[") ∷ ws) behind h) (append_assoc (parameters_words names) (statements_words body) (mark (byte "]") ∷ []))
        (in_block m h false inside.operand (parameters_words names ++ statements_words body) (omega arith) inside.goes)
    expression_goes (views.assign target e) f h le = (f.0, omega arith, (refl, omega arith, expression_goes e f.1 h le))
    expression_goes (views.send receiver ms) f h le =
        goes_append m before h (wrapped (is_loose (receiver_rank ms) (rank_of receiver)) (expression_words receiver)) behind h (messages_words ms) behind h
        (wrapped_goes (is_loose (receiver_rank ms) (rank_of receiver)) (nesting receiver) h (expression_words receiver) (omega arith) (λ k less. expression_goes receiver f.0 k less))
        (messages_go ms f.1 f.2 true h (omega arith))

    pub statements_go : (ss : StatementsView) → StatementsFormed ss → (h : ℕ) → h + statements_nesting ss ≤ m → GoesOut before h (statements_words ss)
    statements_go views.no_statements f h le = record { operand = false; goes = (refl, refl) }
    statements_go (views.statement returns e ss) f h le =
        out_append before before h (return_words returns) (expression_words e ++ next_statements ss) (return_goes returns h (omega arith))
        (out_append before behind h (expression_words e) (next_statements ss) (expression_goes e f.0 h (omega arith)) (next_go ss f.3 h (omega arith)))

    next_go : (ss : StatementsView) → StatementsFormed ss → (h : ℕ) → h + statements_nesting ss ≤ m → GoesOut behind h (next_statements ss)
    next_go views.no_statements f h le = record { operand = true; goes = (refl, refl) }
    next_go (views.statement returns e ss) f h le =
        let more = out_append before before h (return_words returns) (expression_words e ++ next_statements ss) (return_goes returns h (omega arith))
        (out_append before behind h (expression_words e) (next_statements ss) (expression_goes e f.0 h (omega arith)) (next_go ss f.3 h (omega arith))) in
        record { operand = more.operand; goes = (refl, omega arith, more.goes) }

    messages_go : (ms : MessagesView) → HasMessage ms → MessagesFormed ms → (o : Bool) (h : ℕ) → h + messages_nesting ms ≤ m → Goes m (outside o) h (messages_words ms) behind h
    messages_go views.no_messages some f o h le = absurd some
    messages_go (views.message selector es ms) some f o h le =
        goes_append m (outside o) h (message_words selector es) behind h (next_messages ms) behind h (message_goes selector es f.0 f.1 o h (omega arith)) (next_messages_go ms f.2 h (omega arith))

    next_messages_go : (ms : MessagesView) → MessagesFormed ms → (h : ℕ) → h + messages_nesting ms ≤ m → Goes m behind h (next_messages ms) behind h
    next_messages_go views.no_messages f h le = (refl, refl)
    next_messages_go (views.message selector es ms) f h le = (
      refl,
      omega arith,
      goes_append m before h (message_words selector es) behind h (next_messages ms) behind h (message_goes selector es f.0 f.1 false h (omega arith)) (next_messages_go ms f.2 h (omega arith)),
    )

    message_goes : (selector : List ℕ) (es : ExpressionsView) → IsSelector selector (count_of es) → ArgumentsFormed es → (o : Bool) (h : ℕ) → h + arguments_nesting (argument_rank selector) es ≤ m → Goes m (outside o) h (message_words selector es) behind h
    message_goes selector views.no_expressions s f o h le = (s, omega arith, (refl, refl))
    message_goes selector (views.expression e es) (inl s) f o h le =
        let no = operator_no_word selector s.0 in
        let unary : argument_rank selector ≡ Unary = rw no refl in
        let less = subst (λ (r : Rank). h + arguments_nesting r (views.expression e es) ≤ m) unary le in
        let words : operator selector ∷ placed Unary e ≡ message_words selector (views.expression e es) = rw no refl in
        subst (λ ws. Goes m (outside o) h ws behind h) words
        (s.0, omega arith, wrapped_goes (is_loose Unary (rank_of e)) (nesting e) h (expression_words e) (omega arith) (λ k low. expression_goes e f.0 k low))
    message_goes selector (views.expression e es) (inr s) f o h le =
        let k = first_of_some selector (count_of es) s in
        let binary : argument_rank selector ≡ Binary = rw k.begins refl in
        let less = subst (λ (r : Rank). h + arguments_nesting r (views.expression e es) ≤ m) binary le in
        let words : keyword_words selector (views.expression e es) ≡ message_words selector (views.expression e es) = rw k.begins refl in
        subst (λ ws. Goes m (outside o) h ws behind h) words
        (keyword_goes selector e es k o h (omega arith)
        (wrapped_goes (is_loose Binary (rank_of e)) (nesting e) h (expression_words e) (omega arith) (λ j low. expression_goes e f.0 j low))
        (keywords_go (other_keywords selector) es k.others f.2 h (omega arith)))

    keywords_go : (selector : List ℕ) (es : ExpressionsView) → AreKeywords selector (count_of es) → ArgumentsFormed es → (h : ℕ) → h + arguments_nesting Binary es ≤ m → Goes m behind h (keyword_words selector es) behind h
    keywords_go selector views.no_expressions s f h le = (refl, refl)
    keywords_go selector (views.expression e es) s f h le =
        let k = first_of_some selector (count_of es) s in
        keyword_goes selector e es k true h (omega arith)
        (wrapped_goes (is_loose Binary (rank_of e)) (nesting e) h (expression_words e) (omega arith) (λ j low. expression_goes e f.0 j low))
        (keywords_go (other_keywords selector) es k.others f.2 h (omega arith))

  names_go : (ns : List NameView) (o : Bool) (h : ℕ) → NamesFormed ns → h ≤ m → GoesOut (outside o) h (names_words ns)
  names_go [] o h f le = record { operand = o; goes = (refl, refl) }
  names_go (n ∷ ns) o h f le = let more = names_go ns true h f.1 le in record { operand = more.operand; goes = (f.0, le, more.goes) }

  keyword_pattern_goes : (selector : List ℕ) (ns : List NameView) (o : Bool) (h : ℕ) → AreKeywords selector (length ns) → NamesFormed ns → h ≤ m → GoesOut (outside o) h (keyword_pattern selector ns)
  keyword_pattern_goes selector [] o h s f le = record { operand = o; goes = (refl, refl) }
  keyword_pattern_goes selector (n ∷ ns) o h s f le =
      let k = first_of_some selector (length ns) s in
      let more = keyword_pattern_goes (other_keywords selector) ns true h k.others f.1 le in
      record { operand = more.operand; goes = ((k.name, k.is_name, k.first), le, (f.0, le, more.goes)) }

  pattern_goes : (selector : List ℕ) (ns : List NameView) (h : ℕ) → IsSelector selector (length ns) → NamesFormed ns → h ≤ m → GoesOut before h (pattern_words selector ns)
  pattern_goes selector [] h s f le = record { operand = true; goes = (s, le, (refl, refl)) }
  pattern_goes selector (n ∷ ns) h (inl s) f le =
      let words : operator selector ∷ name n.text ∷ [] ≡ pattern_words selector (n ∷ ns) = rw (operator_no_word selector s.0) refl in
      subst (λ ws. GoesOut before h ws) words (record { operand = true; goes = (s.0, le, (f.0, le, (refl, refl))) })
  pattern_goes selector (n ∷ ns) h (inr s) f le =
      let words : keyword_pattern selector (n ∷ ns) ≡ pattern_words selector (n ∷ ns) = rw (first_of_some selector (length ns) s).begins refl in
      subst (λ ws. GoesOut before h ws) words (keyword_pattern_goes selector (n ∷ ns) false h s f le)

  temporaries_go : (ns : List NameView) (h : ℕ) → NamesFormed ns → h ≤ m → Goes m before h (temporaries_words ns) before h
  temporaries_go [] h f le = (refl, refl)
  temporaries_go (n ∷ ns) h f le =
      let inside = names_go (n ∷ ns) false h f le in
      (refl, le, goes_append m before h (names_words (n ∷ ns)) (outside inside.operand) h (bar ∷ []) before h inside.goes (refl, le, (refl, refl)))

  primitive_goes : (p : Option Signed) (h : ℕ) → PrimitiveFormed p → h ≤ m → Goes m before h (primitive_words p) before h
  primitive_goes None h f le = (refl, refl)
  primitive_goes (Some n) h f le = (refl, le, ((codes "primitive", refl, refl), le, ((f, λ t. refl), le, (refl, le, (refl, refl)))))

  options_go : (ns : List NameView) (p : Option Signed) (h : ℕ) → NamesFormed ns → PrimitiveFormed p → h ≤ m → Goes m before h (options_words ns p) before h
  options_go ns p h f g le = goes_append m before h (temporaries_words ns) before h (primitive_words p) before h (temporaries_go ns h f le) (primitive_goes p h g le)

  -- a word that is no number with a sign is formed anywhere
  word_anywhere : (s : Bool) (w : Word) → first_signed (w ∷ []) ≡ None → WordFormed true w → WordFormed s w
  word_anywhere s (name text) e f = f
  word_anywhere s (keyword text) e f = f
  word_anywhere s (operator text) e f = f
  word_anywhere s (number n) e f = (f.0, λ t. let no : Some n ≡ None = sym (rw t refl) ∙ e in absurd cc)
  word_anywhere s (character b) e f = f
  word_anywhere s (string text) e f = f
  word_anywhere s (symbol text) e f = f
  word_anywhere s opening e f = f
  word_anywhere s (mark b) e f = f

  anywhere : (o : Bool) (h : ℕ) (w : Word) (ws : List Word) → first_signed (w ∷ []) ≡ None → GoesOut before h (w ∷ ws) → GoesOut (outside o) h (w ∷ ws)
  anywhere o h w ws e g = record { operand = g.operand; goes = (word_anywhere (signs (outside o)) w e g.goes.0, g.goes.1, g.goes.2) }

  number_goes : (o : Bool) (n : Signed) (ws : List Word) (minus : Bool) → n.minus ≡ minus → 1 ≤ m → GoesOut before 0 (number n ∷ ws) → GoesOut (outside o) 0 (apart (if minus then Some n else None) (number n ∷ ws))
  number_goes o n ws true e le g = record { operand = g.operand; goes = (refl, le, ((g.goes.0.0, λ t. refl), le, (refl, omega arith, g.goes.2))) }
  number_goes o n ws false e le g = anywhere o 0 (number n) ws (rw e refl) g

  apart_goes : (o : Bool) (ws : List Word) → 1 ≤ m → GoesOut before 0 ws → GoesOut (outside o) 0 (apart (first_signed ws) ws)
  apart_goes o [] le g = record { operand = o; goes = (refl, refl) }
  apart_goes o (number n ∷ ws) le g = number_goes o n ws n.minus refl le g
  apart_goes o (w ∷ ws) le g = anywhere o 0 w ws refl g

  options_behind : (ns : List NameView) (p : Option Signed) (body : List Word) (o : Bool) → NamesFormed ns → PrimitiveFormed p → 1 ≤ m → GoesOut before 0 body → GoesOut (outside o) 0 (behind_pattern (options_words ns p) body)
  options_behind [] None body o f g le b = apart_goes o body le b
  options_behind [] (Some n) body o f g le b = anywhere o 0 (operator (codes "<")) _ refl (out_append before before 0 (options_words [] (Some n)) body (options_go [] (Some n) 0 f g (omega arith)) b)
  options_behind (n ∷ ns) p body o f g le b = anywhere o 0 bar _ refl (out_append before before 0 (options_words (n ∷ ns) p) body (options_go (n ∷ ns) p 0 f g (omega arith)) b)

  pub method_goes : (t : MethodView) → IsWellFormed t → 1 ≤ m → statements_nesting t.body ≤ m → GoesOut before 0 (method_words t)
  method_goes t f le low =
      let pattern = pattern_goes t.selector t.arguments 0 f.selector f.arguments (omega arith) in
      out_append before (outside pattern.operand) 0 (pattern_words t.selector t.arguments) (behind_pattern (options_words t.temporaries t.primitive) (statements_words t.body)) pattern.goes
      (options_behind t.temporaries t.primitive (statements_words t.body) pattern.operand f.temporaries f.primitive le (statements_go t.body f.body 0 (omega arith)))

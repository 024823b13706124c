-- Messages' words are read as those messages.
use Rattle.std.proofs.Common.{◌≡◌, ℕ, true, false, List, [], ◌∷◌, ◌++◌, inl, inr, refl, sym, ap, ◌∙◌, subst, append_assoc}
use Rattle.std.specs.Prelude.{IsFalse}
use Rattle.std.specs.Str.{byte}
use Rattle.std.proofs.lemmas.List.{append-nil}
use Rattle.st_scan.specs.Views.{ExpressionView, MessagesView, ExpressionsView, with_message, with_sent, is_super}
use Rattle.st_scan.specs.Views as views
use Rattle.st_scan.specs.inside.Placeless.{placeless, placeless_messages, placeless_expressions}
use Rattle.st_grammar.specs.declared.leaf.Leaf.{Leaf}
use Rattle.st_grammar.specs.declared.leaf.Kind.TheVariants as kinds
use Rattle.st_grammar.specs.Leaves.{operators}
use Rattle.st_grammar.specs.Phrases.{One, names, Primary, Unary, Operations, Parts, Keyworded, Message, Messages, primary_text, unary_text, binary_text, operations_text, ones_text, parts_text, keyworded_text, message_text, messages_text}
use Rattle.st_grammar.specs.Phrases as phrases
use Rattle.st_grammar.specs.Trees.{bytes, sent, primary_tree, unary_tree, binary_tree, keyworded_tree, after_messages, with_one, selector_of, arguments_of, has_message, MayCascade, PrimaryFits, UnaryFits, OperationsFit, PartsFit, MessageFits, MessagesFit}
use Rattle.st_grammar.specs.inside.Formed.{AreKeywords, IsSelector, HasMessage, count_of}
use Rattle.st_print.specs.declared.rank.Rank.{Rank}
use Rattle.st_print.specs.declared.rank.Rank.TheVariants.{Binary, Any}
use Rattle.st_print.specs.declared.rank.Rank.TheVariants as ranks
use Rattle.st_print.specs.Words.{name, keyword, operator, mark, first_keyword, other_keywords}
use Rattle.st_print.specs.Printed.{is_word, receiver_rank, expression_words, next_messages, message_words, keyword_words, placed}
use Rattle.st_print.proofs.Selectors.{first_of_some, no_keywords, operator_no_word}
use Rattle.st_print.proofs.Spelled.{IsWord, Spells, first_of, spells_nothing, parted, last_of, one_of, keyword_fits, operator_fits}
use Rattle.st_print.proofs.Trees.{super_same, operations_end, operations_end-text, operations_end-fit, messages_append, messages_append-nil, with_message-append, name_has, operation_has, HasPart, part_has, after_names-end, after_operations-end}
use Rattle.st_print.proofs.Backs.{UnaryBack, BinaryBack, AnyBack, Back, from_unary, from_binary, from_any}
use Rattle.st_grammar.proofs.Expressions.{ones_text-append}

no_more : (es : ExpressionsView) → count_of es ≡ 0 → views.no_expressions ≡ es
no_more views.no_expressions e = refl
no_more (views.expression x es) e = absurd cc

may_cascade : (text : List ℕ) (k : Keyworded) (ms : Messages) → has_message text k ≡ true → MayCascade text k ms
may_cascade text k phrases.no_messages h = tt
may_cascade text k (phrases.message s m ms) h = h

module _ (text : List ℕ) where
  -- each argument is read back
  abbrev pub ArgumentsBack : ExpressionsView → Type 0
  ArgumentsBack views.no_expressions = Unit {0}
  ArgumentsBack (views.expression e es) = Back text e × IsFalse (is_super e) × ArgumentsBack es

  -- each message has a selector for its arguments, and they are read back
  abbrev pub MessagesAll : MessagesView → Type 0
  MessagesAll views.no_messages = Unit {0}
  MessagesAll (views.message s es ms) = IsSelector s (count_of es) × ArgumentsBack es × MessagesAll ms

  -- KEYWORDS

  record PartsBack (selector : List ℕ) (es : ExpressionsView) (ts : List Leaf) : Type 0 where
    phrase : Parts
    fits : PartsFit text phrase
    text_is : parts_text phrase ≡ ts
    selector_is : selector_of text phrase ≡ selector
    arguments_are : placeless_expressions (arguments_of text phrase) ≡ placeless_expressions es

  parts_back : (selector : List ℕ) (es : ExpressionsView) → AreKeywords selector (count_of es) → ArgumentsBack es → (ts : List Leaf) → Spells text ts (keyword_words selector es) → PartsBack selector es ts
  parts_back selector views.no_expressions k a ts s = record { phrase = phrases.no_parts; fits = tt; text_is = spells_nothing text ts s; selector_is = sym (no_keywords selector k); arguments_are = refl }
  parts_back selector (views.expression e es) k a ts s =
      let first = first_of_some selector (count_of es) k in
      let f = first_of text ts (keyword (first_keyword selector)) (placed Binary e ++ keyword_words (other_keywords selector) es) s in
      let p = parted text (placed Binary e) (keyword_words (other_keywords selector) es) f.others f.rest in
      let b = a.0.binary p.front p.first in
      let more = parts_back (other_keywords selector) es first.others a.2 p.back p.second in
      let argument = phrases.binary (phrases.unary b.primary b.names) b.operations in
      record {
        phrase = phrases.part (record { leaf = f.leaf; fits = keyword_fits text (first_keyword selector) f.leaf f.is }) argument more.phrase;
        fits = ((b.fits, b.operations_fit, super_same (binary_tree text argument) e b.tree_is a.1), more.fits);
        text_is = ap (λ (l : List Leaf). f.leaf ∷ (l ++ parts_text more.phrase)) b.text_is ∙ ap (λ (l : List Leaf). f.leaf ∷ (p.front ++ l)) more.text_is ∙ ap (λ (l : List Leaf). f.leaf ∷ l) p.parts ∙ f.parts;
        selector_is = ap (λ (l : List ℕ). l ++ selector_of text more.phrase) f.is.bytes_are ∙ ap (λ (l : List ℕ). first_keyword selector ++ l) more.selector_is ∙ first.whole;
        arguments_are = ap (λ (t : ExpressionView). views.expression t (placeless_expressions (arguments_of text more.phrase))) b.tree_is ∙ ap (λ (l : ExpressionsView). views.expression (placeless e) l) more.arguments_are;
      }

  some_part : (ks : Parts) (e : ExpressionView) (es : ExpressionsView) → placeless_expressions (arguments_of text ks) ≡ views.expression e es → HasPart ks
  some_part phrases.no_parts e es is = absurd cc
  some_part (phrases.part k b ks) e es is = tt

  -- THE FIRST MESSAGE

  -- a keyword expression that ends with a message
  record FirstBack (r : ExpressionView) (sel : List ℕ) (es : ExpressionsView) (ts : List Leaf) : Type 0 where
    primary : Primary
    names : List (One names)
    operations : Operations
    parts : Parts
    fits : PrimaryFits text primary
    operations_fit : OperationsFit text operations
    parts_fit : PartsFit text parts
    has : has_message text (phrases.keyworded (phrases.binary (phrases.unary primary names) operations) parts) ≡ true
    text_is : keyworded_text (phrases.keyworded (phrases.binary (phrases.unary primary names) operations) parts) ≡ ts
    receiver : ExpressionView
    selector : List ℕ
    arguments : ExpressionsView
    tree_is : keyworded_tree text (phrases.keyworded (phrases.binary (phrases.unary primary names) operations) parts) ≡ sent receiver selector arguments
    receiver_is : placeless receiver ≡ placeless r
    selector_is : selector ≡ sel
    arguments_are : placeless_expressions arguments ≡ placeless_expressions es

  sent_same : (r t : ExpressionView) (sel s : List ℕ) (es fs : ExpressionsView) (ms ns : MessagesView) → placeless r ≡ placeless t → sel ≡ s → placeless_expressions es ≡ placeless_expressions fs → placeless_messages ms ≡ placeless_messages ns
      → placeless (views.send r (views.message sel es ms)) ≡ placeless (views.send t (views.message s fs ns))
  sent_same r t sel s es fs ms ns x y z w =
      ap (λ (v : ExpressionView). views.send v (views.message sel (placeless_expressions es) (placeless_messages ms))) x
      ∙ ap (λ (l : List ℕ). views.send (placeless t) (views.message l (placeless_expressions es) (placeless_messages ms))) y
      ∙ ap (λ (l : ExpressionsView). views.send (placeless t) (views.message s l (placeless_messages ms))) z
      ∙ ap (λ (l : MessagesView). views.send (placeless t) (views.message s (placeless_expressions fs) l)) w

  module _ (r : ExpressionView) (sel : List ℕ) (fs : List Leaf) (u : UnaryBack text r fs) (x : Leaf) (is : IsWord text (name sel) x) where
    abbrev last_name : One names
    last_name = one_of text names kinds.Name x is.kind_is refl

    unary_text_is : unary_text (phrases.unary u.primary (u.names ++ last_name ∷ [])) ≡ fs ++ x ∷ []
    unary_text_is =
        ap (λ (l : List Leaf). primary_text u.primary ++ l) (ones_text-append u.names (last_name ∷ []))
        ∙ sym (append_assoc (primary_text u.primary) (ones_text u.names) (x ∷ []))
        ∙ ap (λ (l : List Leaf). l ++ x ∷ []) u.text_is

    unary_tree_is : unary_tree text (phrases.unary u.primary (u.names ++ last_name ∷ [])) ≡ sent (unary_tree text (phrases.unary u.primary u.names)) (bytes text x) views.no_expressions
    unary_tree_is = after_names-end text (primary_tree text u.primary) u.names last_name

    unary_sent : UnaryBack text (views.send r (views.message sel views.no_expressions views.no_messages)) (fs ++ x ∷ [])
    unary_sent = record {
      primary = u.primary;
      names = u.names ++ last_name ∷ [];
      fits = u.fits;
      text_is = unary_text_is;
      tree_is = ap placeless unary_tree_is ∙ sent_same (unary_tree text (phrases.unary u.primary u.names)) r (bytes text x) sel views.no_expressions views.no_expressions views.no_messages views.no_messages u.tree_is is.bytes_are refl refl;
    }

    unary_first : FirstBack r sel views.no_expressions (fs ++ x ∷ [])
    unary_first = record {
      primary = u.primary;
      names = u.names ++ last_name ∷ [];
      operations = phrases.no_operations;
      parts = phrases.no_parts;
      fits = u.fits;
      operations_fit = tt;
      parts_fit = tt;
      has = name_has text u.primary u.names last_name;
      text_is = append-nil (unary_text (phrases.unary u.primary (u.names ++ last_name ∷ [])) ++ []) ∙ append-nil (unary_text (phrases.unary u.primary (u.names ++ last_name ∷ []))) ∙ unary_text_is;
      receiver = unary_tree text (phrases.unary u.primary u.names);
      selector = bytes text x;
      arguments = views.no_expressions;
      tree_is = unary_tree_is;
      receiver_is = u.tree_is;
      selector_is = is.bytes_are;
      arguments_are = refl;
    }

  module _ (r : ExpressionView) (sel : List ℕ) (a : ExpressionView) (fs : List Leaf) (b : BinaryBack text r fs) (x : Leaf) (is : IsWord text (operator sel) x) (us : List Leaf) (u : UnaryBack text a us) (plain : is_super a ≡ false) where
    abbrev last_operator : One operators
    last_operator = record { leaf = x; fits = operator_fits text sel x is }

    abbrev argument : Unary
    argument = phrases.unary u.primary u.names

    abbrev receiver_tree : ExpressionView
    receiver_tree = binary_tree text (phrases.binary (phrases.unary b.primary b.names) b.operations)

    argument_fits : UnaryFits text argument
    argument_fits = (u.fits, super_same (unary_tree text argument) a u.tree_is plain)

    binary_text_is : binary_text (phrases.binary (phrases.unary b.primary b.names) (operations_end b.operations last_operator argument)) ≡ fs ++ x ∷ us
    binary_text_is =
        ap (λ (l : List Leaf). unary_text (phrases.unary b.primary b.names) ++ l) (operations_end-text b.operations last_operator argument)
        ∙ sym (append_assoc (unary_text (phrases.unary b.primary b.names)) (operations_text b.operations) (x ∷ unary_text argument))
        ∙ ap (λ (l : List Leaf). l ++ x ∷ unary_text argument) b.text_is
        ∙ ap (λ (l : List Leaf). fs ++ x ∷ l) u.text_is

    binary_tree_is : binary_tree text (phrases.binary (phrases.unary b.primary b.names) (operations_end b.operations last_operator argument)) ≡ sent receiver_tree (bytes text x) (views.expression (unary_tree text argument) views.no_expressions)
    binary_tree_is = after_operations-end text (unary_tree text (phrases.unary b.primary b.names)) b.operations last_operator argument

    arguments_same : placeless_expressions (views.expression (unary_tree text argument) views.no_expressions) ≡ placeless_expressions (views.expression a views.no_expressions)
    arguments_same = ap (λ (t : ExpressionView). views.expression t views.no_expressions) u.tree_is

    binary_sent : BinaryBack text (views.send r (views.message sel (views.expression a views.no_expressions) views.no_messages)) (fs ++ x ∷ us)
    binary_sent = record {
      primary = b.primary;
      names = b.names;
      operations = operations_end b.operations last_operator argument;
      fits = b.fits;
      operations_fit = operations_end-fit text b.operations last_operator argument b.operations_fit argument_fits;
      text_is = binary_text_is;
      tree_is = ap placeless binary_tree_is
          ∙ sent_same receiver_tree r (bytes text x) sel (views.expression (unary_tree text argument) views.no_expressions) (views.expression a views.no_expressions) views.no_messages views.no_messages b.tree_is is.bytes_are arguments_same refl;
    }

    binary_first : FirstBack r sel (views.expression a views.no_expressions) (fs ++ x ∷ us)
    binary_first = record {
      primary = b.primary;
      names = b.names;
      operations = operations_end b.operations last_operator argument;
      parts = phrases.no_parts;
      fits = b.fits;
      operations_fit = operations_end-fit text b.operations last_operator argument b.operations_fit argument_fits;
      parts_fit = tt;
      has = operation_has text b.primary b.names b.operations last_operator argument;
      text_is = append-nil (binary_text (phrases.binary (phrases.unary b.primary b.names) (operations_end b.operations last_operator argument))) ∙ binary_text_is;
      receiver = receiver_tree;
      selector = bytes text x;
      arguments = views.expression (unary_tree text argument) views.no_expressions;
      tree_is = binary_tree_is;
      receiver_is = b.tree_is;
      selector_is = is.bytes_are;
      arguments_are = arguments_same;
    }

  module _ (r : ExpressionView) (sel : List ℕ) (es : ExpressionsView) (fs : List Leaf) (b : BinaryBack text r fs) (ts : List Leaf) where
    keyword_first : (ks : Parts) → HasPart ks → PartsFit text ks → parts_text ks ≡ ts → selector_of text ks ≡ sel → placeless_expressions (arguments_of text ks) ≡ placeless_expressions es → FirstBack r sel es (fs ++ ts)
    keyword_first phrases.no_parts h f t s a = absurd h
    keyword_first (phrases.part k c ks) h f t s a = record {
      primary = b.primary;
      names = b.names;
      operations = b.operations;
      parts = phrases.part k c ks;
      fits = b.fits;
      operations_fit = b.operations_fit;
      parts_fit = f;
      has = part_has text b.primary b.names b.operations (phrases.part k c ks) tt;
      text_is = ap (λ (l : List Leaf). l ++ parts_text (phrases.part k c ks)) b.text_is ∙ ap (λ (l : List Leaf). fs ++ l) t;
      receiver = binary_tree text (phrases.binary (phrases.unary b.primary b.names) b.operations);
      selector = selector_of text (phrases.part k c ks);
      arguments = arguments_of text (phrases.part k c ks);
      tree_is = refl;
      receiver_is = b.tree_is;
      selector_is = s;
      arguments_are = a;
    }

  -- where the receiver's words end, and the message's begin
  first_back : (r : ExpressionView) (sel : List ℕ) (es : ExpressionsView) → Back text r → IsSelector sel (count_of es) → ArgumentsBack es
      → (fs bs : List Leaf) → Spells text fs (placed (receiver_rank (views.message sel es views.no_messages)) r) → Spells text bs (message_words sel es) → FirstBack r sel es (fs ++ bs)
  first_back r sel views.no_expressions back k a fs bs s t =
      let f = first_of text bs (name sel) [] t in
      subst (λ (l : List Leaf). FirstBack r sel views.no_expressions (fs ++ l)) (ap (λ (l : List Leaf). f.leaf ∷ l) (spells_nothing text f.others f.rest) ∙ f.parts)
      (unary_first r sel fs (back.unary fs s) f.leaf f.is)
  first_back r sel (views.expression e es) back (inl k) a fs bs s t =
      let words : message_words sel (views.expression e es) ≡ operator sel ∷ placed ranks.Unary e = rw (operator_no_word sel k.0) refl in
      let f = first_of text bs (operator sel) (placed ranks.Unary e) (subst (Spells text bs) words t) in
      let one = subst (λ (l : List Leaf). FirstBack r sel (views.expression e views.no_expressions) (fs ++ l)) f.parts
      (binary_first r sel e fs (back.binary fs s) f.leaf f.is f.others (a.0.unary f.others f.rest) a.1) in
      subst (λ (l : ExpressionsView). FirstBack r sel (views.expression e l) (fs ++ bs)) (no_more es k.1) one
  first_back r sel (views.expression e es) back (inr k) a fs bs s t =
      let words : message_words sel (views.expression e es) ≡ keyword_words sel (views.expression e es) = rw (first_of_some sel (count_of es) k).begins refl in
      let p = parts_back sel (views.expression e es) k a bs (subst (Spells text bs) words t) in
      keyword_first r sel (views.expression e es) fs (back.binary fs s) bs p.phrase (some_part p.phrase (placeless e) (placeless_expressions es) p.arguments_are) p.fits p.text_is p.selector_is p.arguments_are

  -- THE OTHER MESSAGES

  record OneBack (sel : List ℕ) (es : ExpressionsView) (ts : List Leaf) : Type 0 where
    phrase : Message
    fits : MessageFits text phrase
    text_is : message_text phrase ≡ ts
    selector : List ℕ
    arguments : ExpressionsView
    tree_is : (t : ExpressionView) → with_one text t phrase ≡ with_sent t selector arguments
    selector_is : selector ≡ sel
    arguments_are : placeless_expressions arguments ≡ placeless_expressions es

  keyword_one : (sel : List ℕ) (es : ExpressionsView) (ts : List Leaf) (ks : Parts) → HasPart ks → PartsFit text ks → parts_text ks ≡ ts → selector_of text ks ≡ sel → placeless_expressions (arguments_of text ks) ≡ placeless_expressions es → OneBack sel es ts
  keyword_one sel es ts phrases.no_parts h f t s a = absurd h
  keyword_one sel es ts (phrases.part k b ks) h f t s a = record {
    phrase = phrases.keyword_message k b ks;
    fits = f;
    text_is = t;
    selector = selector_of text (phrases.part k b ks);
    arguments = arguments_of text (phrases.part k b ks);
    tree_is = λ v. refl;
    selector_is = s;
    arguments_are = a;
  }

  one_back : (sel : List ℕ) (es : ExpressionsView) → IsSelector sel (count_of es) → ArgumentsBack es → (ts : List Leaf) → Spells text ts (message_words sel es) → OneBack sel es ts
  one_back sel views.no_expressions k a ts s =
      let f = first_of text ts (name sel) [] s in
      record {
        phrase = phrases.unary_message (one_of text names kinds.Name f.leaf f.is.kind_is refl);
        fits = tt;
        text_is = ap (λ (l : List Leaf). f.leaf ∷ l) (spells_nothing text f.others f.rest) ∙ f.parts;
        selector = bytes text f.leaf;
        arguments = views.no_expressions;
        tree_is = λ v. refl;
        selector_is = f.is.bytes_are;
        arguments_are = refl;
      }
  one_back sel (views.expression e es) (inl k) a ts s =
      let words : message_words sel (views.expression e es) ≡ operator sel ∷ placed ranks.Unary e = rw (operator_no_word sel k.0) refl in
      let f = first_of text ts (operator sel) (placed ranks.Unary e) (subst (Spells text ts) words s) in
      let u = a.0.unary f.others f.rest in
      let argument = phrases.unary u.primary u.names in
      record {
        phrase = phrases.binary_message (record { leaf = f.leaf; fits = operator_fits text sel f.leaf f.is }) argument;
        fits = (u.fits, super_same (unary_tree text argument) e u.tree_is a.1);
        text_is = ap (λ (l : List Leaf). f.leaf ∷ l) u.text_is ∙ f.parts;
        selector = bytes text f.leaf;
        arguments = views.expression (unary_tree text argument) views.no_expressions;
        tree_is = λ v. refl;
        selector_is = f.is.bytes_are;
        arguments_are = ap (λ (t : ExpressionView). views.expression t views.no_expressions) u.tree_is ∙ ap (λ (l : ExpressionsView). views.expression (placeless e) (placeless_expressions l)) (no_more es k.1);
      }
  one_back sel (views.expression e es) (inr k) a ts s =
      let words : message_words sel (views.expression e es) ≡ keyword_words sel (views.expression e es) = rw (first_of_some sel (count_of es) k).begins refl in
      let p = parts_back sel (views.expression e es) k a ts (subst (Spells text ts) words s) in
      keyword_one sel (views.expression e es) ts p.phrase (some_part p.phrase (placeless e) (placeless_expressions es) p.arguments_are) p.fits p.text_is p.selector_is p.arguments_are

  record MessagesBack (ms : MessagesView) (ts : List Leaf) : Type 0 where
    phrase : Messages
    fits : MessagesFit text phrase
    text_is : messages_text phrase ≡ ts
    added : MessagesView
    tree_is : (r : ExpressionView) (sofar : MessagesView) → after_messages text (views.send r sofar) phrase ≡ views.send r (messages_append sofar added)
    same : placeless_messages added ≡ placeless_messages ms

  messages_back : (ms : MessagesView) → MessagesAll ms → (ts : List Leaf) → Spells text ts (next_messages ms) → MessagesBack ms ts
  messages_back views.no_messages all ts s = record {
    phrase = phrases.no_messages;
    fits = tt;
    text_is = spells_nothing text ts s;
    added = views.no_messages;
    tree_is = λ r sofar. ap (λ (l : MessagesView). views.send r l) (sym (messages_append-nil sofar));
    same = refl;
  }
  messages_back (views.message sel es ms) all ts s =
      let f = first_of text ts (mark (byte ";")) (message_words sel es ++ next_messages ms) s in
      let p = parted text (message_words sel es) (next_messages ms) f.others f.rest in
      let one = one_back sel es all.0 all.1 p.front p.first in
      let more = messages_back ms all.2 p.back p.second in
      record {
        phrase = phrases.message (one_of text (kinds.Semicolon ∷ []) kinds.Semicolon f.leaf f.is.kind_is refl) one.phrase more.phrase;
        fits = (one.fits, more.fits);
        text_is = ap (λ (l : List Leaf). f.leaf ∷ (l ++ messages_text more.phrase)) one.text_is ∙ ap (λ (l : List Leaf). f.leaf ∷ (p.front ++ l)) more.text_is ∙ ap (λ (l : List Leaf). f.leaf ∷ l) p.parts ∙ f.parts;
        added = views.message one.selector one.arguments more.added;
        tree_is = λ r sofar.
            ap (λ (t : ExpressionView). after_messages text t more.phrase) (one.tree_is (views.send r sofar))
            ∙ more.tree_is r (with_message sofar one.selector one.arguments)
            ∙ ap (λ (l : MessagesView). views.send r l) (with_message-append sofar one.selector one.arguments more.added);
        same = ap (λ (l : List ℕ). views.message l (placeless_expressions one.arguments) (placeless_messages more.added)) one.selector_is
            ∙ ap (λ (l : ExpressionsView). views.message sel l (placeless_messages more.added)) one.arguments_are
            ∙ ap (λ (l : MessagesView). views.message sel (placeless_expressions es) l) more.same;
      }

  -- ALL MESSAGES

  sends_any : (r : ExpressionView) (sel : List ℕ) (es : ExpressionsView) (ms : MessagesView) (fs bs : List Leaf) → FirstBack r sel es fs → MessagesBack ms bs → AnyBack text (views.send r (views.message sel es ms)) (fs ++ bs)
  sends_any r sel es ms fs bs f m =
      let k = phrases.keyworded (phrases.binary (phrases.unary f.primary f.names) f.operations) f.parts in
      record {
        phrase = phrases.expression [] (phrases.cascade k m.phrase);
        fits = (f.fits, f.operations_fit, f.parts_fit, m.fits, ap is_super f.tree_is, may_cascade text k m.phrase f.has);
        text_is = ap (λ (l : List Leaf). l ++ messages_text m.phrase) f.text_is ∙ ap (λ (l : List Leaf). fs ++ l) m.text_is;
        tree_is = ap (λ (t : ExpressionView). placeless (after_messages text t m.phrase)) f.tree_is
            ∙ ap placeless (m.tree_is f.receiver (views.message f.selector f.arguments views.no_messages))
            ∙ sent_same f.receiver r f.selector sel f.arguments es m.added ms f.receiver_is f.selector_is f.arguments_are m.same;
      }

  module _ (r : ExpressionView) (back : Back text r) where
    any_back : (sel : List ℕ) (es : ExpressionsView) (ms : MessagesView) → receiver_rank (views.message sel es ms) ≡ receiver_rank (views.message sel es views.no_messages) → MessagesAll (views.message sel es ms)
        → (ts : List Leaf) → Spells text ts (expression_words (views.send r (views.message sel es ms))) → AnyBack text (views.send r (views.message sel es ms)) ts
    any_back sel es ms same all ts s =
        let p = parted text (placed (receiver_rank (views.message sel es ms)) r) (message_words sel es ++ next_messages ms) ts s in
        let q = parted text (message_words sel es) (next_messages ms) p.back p.second in
        let receiver = subst (λ (k : Rank). Spells text p.front (placed k r)) same p.first in
        let whole : (p.front ++ q.front) ++ q.back ≡ ts = append_assoc p.front q.front q.back ∙ ap (λ (l : List Leaf). p.front ++ l) q.parts ∙ p.parts in
        subst (AnyBack text (views.send r (views.message sel es ms))) whole
        (sends_any r sel es ms (p.front ++ q.front) q.back (first_back r sel es back all.0 all.1 p.front q.front receiver q.first) (messages_back ms all.2 q.back q.second))

    unary_back : (sel : List ℕ) (ts : List Leaf) → Spells text ts (placed ranks.Unary r ++ name sel ∷ []) → UnaryBack text (views.send r (views.message sel views.no_expressions views.no_messages)) ts
    unary_back sel ts s =
        let l = last_of text (placed ranks.Unary r) (name sel) ts s in
        subst (UnaryBack text (views.send r (views.message sel views.no_expressions views.no_messages))) l.parts (unary_sent r sel l.front (back.unary l.front l.first) l.leaf l.is)

    binary_back : (sel : List ℕ) (a : ExpressionView) → Back text a → is_super a ≡ false → (ts : List Leaf) → Spells text ts (placed Binary r ++ operator sel ∷ placed ranks.Unary a)
        → BinaryBack text (views.send r (views.message sel (views.expression a views.no_expressions) views.no_messages)) ts
    binary_back sel a argument plain ts s =
        let p = parted text (placed Binary r) (operator sel ∷ placed ranks.Unary a) ts s in
        let f = first_of text p.back (operator sel) (placed ranks.Unary a) p.second in
        let whole : p.front ++ f.leaf ∷ f.others ≡ ts = ap (λ (l : List Leaf). p.front ++ l) f.parts ∙ p.parts in
        subst (BinaryBack text (views.send r (views.message sel (views.expression a views.no_expressions) views.no_messages))) whole
        (binary_sent r sel a p.front (back.binary p.front p.first) f.leaf f.is f.others (argument.unary f.others f.rest) plain)

    operator_back : (sel : List ℕ) (e : ExpressionView) → is_word sel ≡ false → Back text e → is_super e ≡ false → Back text (views.send r (views.message sel (views.expression e views.no_expressions) views.no_messages))
    operator_back sel e other argument plain =
        let words : message_words sel (views.expression e views.no_expressions) ++ [] ≡ operator sel ∷ placed ranks.Unary e = append-nil (message_words sel (views.expression e views.no_expressions)) ∙ rw other refl in
        from_binary text (views.send r (views.message sel (views.expression e views.no_expressions) views.no_messages)) (rw other refl) refl
        (λ ts s. binary_back sel e argument plain ts (subst (λ ws. Spells text ts (placed Binary r ++ ws)) words s))

    keyword_back : (sel : List ℕ) (e : ExpressionView) (es : ExpressionsView) → is_word sel ≡ true → MessagesAll (views.message sel (views.expression e es) views.no_messages) → Back text (views.send r (views.message sel (views.expression e es) views.no_messages))
    keyword_back sel e es word all =
        from_any text (views.send r (views.message sel (views.expression e es) views.no_messages)) (rw word refl) (any_back sel (views.expression e es) views.no_messages refl all)

    pub sends_back : (ms : MessagesView) → HasMessage ms → MessagesAll ms → Back text (views.send r ms)
    sends_back views.no_messages some all = absurd some
    sends_back (views.message sel views.no_expressions views.no_messages) some all =
        from_unary text (views.send r (views.message sel views.no_expressions views.no_messages)) refl (unary_back sel)
    sends_back (views.message sel (views.expression e es) views.no_messages) some (inl k, a, _) =
        subst (λ (l : ExpressionsView). Back text (views.send r (views.message sel (views.expression e l) views.no_messages))) (no_more es k.1) (operator_back sel e (operator_no_word sel k.0) a.0 a.1)
    sends_back (views.message sel (views.expression e es) views.no_messages) some (inr k, a, _) = keyword_back sel e es (first_of_some sel (count_of es) k).begins (inr k, a, tt)
    sends_back (views.message sel views.no_expressions (views.message s fs ms)) some all =
        from_any text (views.send r (views.message sel views.no_expressions (views.message s fs ms))) refl (any_back sel views.no_expressions (views.message s fs ms) refl all)
    sends_back (views.message sel (views.expression e es) (views.message s fs ms)) some all =
        from_any text (views.send r (views.message sel (views.expression e es) (views.message s fs ms))) refl (any_back sel (views.expression e es) (views.message s fs ms) refl all)

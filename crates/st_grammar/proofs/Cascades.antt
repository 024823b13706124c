-- What is read of keyword expressions, messages and cascades.
use Rattle.std.proofs.Common.{◌≡◌, ℕ, ◌<◌, Bool, true, false, ◌||◌, ◌&&◌, List, [], ◌∷◌, ◌++◌, ◌⊎◌, inl, inr, length, Ok, refl, sym, ap, ◌∙◌, append_assoc, length-append, arith}
use Rattle.std.proofs.lemmas.List.{append-nil}
use Rattle.std.proofs.lemmas.Bool.{cases_Bool, or_from}
use Rattle.st_scan.specs.Views.{is_super, NameView, ExpressionView, ExpressionsView, with_expression, with_sent}
use Rattle.st_scan.specs.Views as views
use Rattle.st_grammar.specs.declared.leaf.Leaf.{Leaf}
use Rattle.st_grammar.specs.declared.leaf.Kind.{Kind}
use Rattle.st_grammar.specs.declared.leaf.Kind.TheVariants.{Semicolon}
use Rattle.st_grammar.specs.Leaves.{among, keywords, operators}
use Rattle.st_grammar.specs.Phrases.{One, names, one_text, ones_text, name, Unary, unary, binary, Operations, no_operations, operation, Parts, no_parts, part, keyworded, Cascade, cascade, Messages, no_messages, message, Message, unary_message, binary_message, keyword_message, primary_text, unary_text, binary_text, operations_text, parts_text, messages_text, message_text, cascade_text}
use Rattle.st_grammar.specs.Trees.{bytes, sent, sent_if, primary_tree, after_names, unary_tree, binary_tree, after_operations, selector_of, arguments_of, after_messages, with_one, cascade_tree, has_message, MayCascade, PartsFit, MessageFits, MessagesFit, CascadeFits}
use Rattle.st_grammar.specs.Reading.{◌>>=◌, first, primary_starts, message_starts, PartsView, no_parts_yet, array_at, bracket_at, names_step, names_at, unary_at, operations_step, operations_at, binary_at, parts_step, parts_at, keyword_at, messages_at, unary_message_at, binary_message_at, keyword_message_at, message_at, cascade_step, cascades_at, sends_at, any_cascade_at, cascade_at}
use Rattle.st_grammar.proofs.Loops.{many_stop}
use Rattle.st_grammar.proofs.KindSets.{apart, within, covered, neutral, sample, one_name, one_operator, one_keyword}
use Rattle.st_grammar.proofs.Balanced.{parts_balanced, messages_balanced}
use Rattle.st_grammar.proofs.Readers.{Reads, nothing, first_nothing, is_nil, mapped, renamed, token_reads, both, either, anyway, nonempty, pure, tested, text_both, goes_both, text_either, tree_either, goes_either, or_left}
use Rattle.st_grammar.proofs.Repeats.{IsRepeat, IsMore, repeated}
use Rattle.st_grammar.proofs.Lists.{and_false, or_false, or_and_false}
use Rattle.st_grammar.proofs.Expressions.{Inner, FitPrimary, FitUnary, FitBinary, FitOperations, one_unary, primary_some, primary_reads, names_reads, unary_reads, binary_reads, operations_reads, operations_last, operations_goes, operations_no_name, binary_goes, or_assoc}

abbrev pub joined_expressions : ExpressionsView → ExpressionsView → ExpressionsView
joined_expressions views.no_expressions ys = ys
joined_expressions (views.expression x xs) ys = views.expression x (joined_expressions xs ys)

joined_none : (xs : ExpressionsView) → joined_expressions xs views.no_expressions ≡ xs
joined_none views.no_expressions = refl
joined_none (views.expression x xs) = ap (views.expression x) (joined_none xs)

joined_one : (xs ys : ExpressionsView) (e : ExpressionView) → joined_expressions (with_expression xs e) ys ≡ joined_expressions xs (views.expression e ys)
joined_one views.no_expressions ys e = refl
joined_one (views.expression x xs) ys e = ap (views.expression x) (joined_one xs ys e)

parts_equal : (s t : List ℕ) (xs ys : ExpressionsView) → s ≡ t → xs ≡ ys → (let p : PartsView = record { selector = s; arguments = xs } in p) ≡ (let q : PartsView = record { selector = t; arguments = ys } in q)
parts_equal s t xs ys p q = cc

-- what messages go on with
abbrev pub tail_goes : Leaf → Bool
tail_goes x = among keywords x || (among operators x || among names x)

starts_tail : (x : Leaf) → among message_starts x ≡ true → tail_goes x ≡ true
starts_tail x e = elim (cases_Bool (among keywords x)) [
  | inl k ↦ left (among keywords x) _ k
  | inr k ↦
      let rest = covered message_starts keywords (operators ++ names) refl x e k in
      elim (cases_Bool (among operators x)) [
        | inl o ↦ right (among keywords x) _ (left (among operators x) _ o)
        | inr o ↦ right (among keywords x) _ (right (among operators x) _ (covered (operators ++ names) operators names refl x rest o))
      ]
]
  where
    left : (a b : Bool) → a ≡ true → (a || b) ≡ true
    left true b e = refl
    left false b e = absurd cc

    right : (a b : Bool) → b ≡ true → (a || b) ≡ true
    right true b e = refl
    right false b e = e

module _ (text : List ℕ) where
  -- KEYWORDS

  abbrev pub FitParts : Type 0
  FitParts = (ks : Parts) × PartsFit text ks

  abbrev one_binary : FitBinary text
  one_binary = (binary (unary (name one_name) (one_name ∷ [])) no_operations, (tt, tt, refl))

  abbrev PartPair : Type 0
  PartPair = One keywords × FitBinary text

  abbrev with_part : PartPair → PartsView → PartsView
  with_part k s = record { selector = s.selector ++ bytes text k.0.leaf; arguments = with_expression s.arguments (binary_tree text k.1.0) }

  abbrev with_parts : Parts → PartsView → PartsView
  with_parts ks s = record { selector = s.selector ++ selector_of text ks; arguments = joined_expressions s.arguments (arguments_of text ks) }

  abbrev pub parts_last : Parts → Leaf → Bool
  parts_last no_parts x = false
  parts_last (part k b ks) x = parts_last ks x || (is_nil (parts_text ks) && binary_goes text x)

  -- behind a binary expression
  parts_goes : (ks : Parts) (x : Leaf) → (parts_last ks x || (is_nil (parts_text ks) && binary_goes text x)) ≡ binary_goes text x
  parts_goes no_parts x = refl
  parts_goes (part k b ks) x = or_false (parts_last ks x || (is_nil (parts_text ks) && binary_goes text x)) ∙ parts_goes ks x

  more_parts : (k : One keywords) (b : FitBinary text) (ks : Parts) (s : PartsView) → with_parts (part k b.0 ks) s ≡ with_parts ks (with_part (k, b) s)
  more_parts k b ks s =
      parts_equal (s.selector ++ (bytes text k.leaf ++ selector_of text ks)) ((s.selector ++ bytes text k.leaf) ++ selector_of text ks) (joined_expressions s.arguments (views.expression (binary_tree text b.0) (arguments_of text ks))) (joined_expressions (with_expression s.arguments (binary_tree text b.0)) (arguments_of text ks))
      (sym (append_assoc s.selector (bytes text k.leaf) (selector_of text ks))) (sym (joined_one s.arguments (arguments_of text ks) (binary_tree text b.0)))

  no_more_parts : (s : PartsView) → with_parts no_parts s ≡ s
  no_more_parts s = parts_equal (s.selector ++ []) s.selector (joined_expressions s.arguments views.no_expressions) s.arguments (append-nil s.selector) (joined_none s.arguments)

  binary_goes_not : (x : Leaf) → among keywords x ≡ true → binary_goes text x ≡ false
  binary_goes_not x e = or_from (among operators x) (among names x) (apart keywords operators refl x e) (apart keywords names refl x e)

  parts_repeat : IsRepeat (λ (t : PartsView). among keywords) (λ (k : PartPair). k.0.leaf ∷ binary_text k.1.0) with_part (λ k. binary_goes text) (λ t ks. PartsFit text ks) parts_text with_parts parts_last
  parts_repeat = record {
    some = λ p. omega arith;
    nil = no_parts;
    nil_valid = λ a. tt;
    nil_text = refl;
    nil_is = no_more_parts;
    nil_last = λ x. refl;
    cons = λ k ks. part k.0 k.1.0 ks;
    cons_more = λ a k ks x e v. ((k.1.1, v), refl, more_parts k.0 k.1 ks a);
    cons_last = λ a k ks x v. refl;
    uncons = uncons;
  }
    where
      uncons : (s : PartsView) (ks : Parts) → PartsFit text ks → ((parts_text ks ≡ []) × (with_parts ks s ≡ s))
          ⊎ IsMore (λ (t : PartsView). among keywords) (λ (k : PartPair). k.0.leaf ∷ binary_text k.1.0) with_part (λ k. binary_goes text) (λ t ks. PartsFit text ks) parts_text with_parts parts_last s ks
      uncons s no_parts v = inl (refl, no_more_parts s)
      uncons s (part k b ks) v = inr (record {
        p = (k, (b, v.0));
        rest = ks;
        valid = v.1;
        parts = refl;
        is = more_parts k (b, v.0) ks s;
        last_is = λ x. refl;
        starts = λ l. k.fits;
        ends = λ x e. binary_goes_not x e;
      })

  -- MESSAGES TO A RECEIVER

  abbrev pub Tail : Type 0
  Tail = List (One names) × (FitOperations text × FitParts)

  abbrev pub tail_text : Tail → List Leaf
  tail_text = text_both ones_text (text_both (λ os. operations_text os.0) (λ ks. parts_text ks.0))

  abbrev pub tail_tree : Tail → ExpressionView → ExpressionView
  tail_tree q t = sent_if (after_operations text (after_names text t q.0) q.1.0.0) (selector_of text q.1.1.0) (arguments_of text q.1.1.0)

  abbrev ops_goes : FitOperations text → Leaf → Bool
  ops_goes os x = among operators x || operations_last text os.0 x

  abbrev keys_goes : FitParts → Leaf → Bool
  keys_goes ks x = among keywords x || parts_last ks.0 x

  abbrev rest_goes : FitOperations text × FitParts → Leaf → Bool
  rest_goes = goes_both ops_goes (λ (ks : FitParts). parts_text ks.0) keys_goes

  any_tail_goes : Tail → Leaf → Bool
  any_tail_goes = goes_both (λ (l : List (One names)). among names) (text_both (λ (os : FitOperations text). operations_text os.0) (λ (ks : FitParts). parts_text ks.0)) rest_goes

  shape1 : (k o n : Bool) → (((k || false) || (o || false)) || n) ≡ (k || (o || n))
  shape1 true o n = refl
  shape1 false true n = refl
  shape1 false false n = refl

  shape2 : (k o n : Bool) → (((k || false) || (o || n)) || false) ≡ (k || (o || n))
  shape2 true o n = refl
  shape2 false o n = or_false (o || n)

  shape3 : (k b : Bool) → (((k || b) || false) || false) ≡ (k || b)
  shape3 true b = refl
  shape3 false b = or_false (b || false) ∙ or_false b

  goes_tail : (q : Tail) (x : Leaf) → any_tail_goes q x ≡ tail_goes x
  unfolding any_tail_goes
  goes_tail (ns, ((no_operations, f), (no_parts, g))) x = shape1 (among keywords x) (among operators x) (among names x)
  goes_tail (ns, ((operation o u os, f), (no_parts, g))) x =
      ap (λ (n : Bool). ((among keywords x || false) || (among operators x || n)) || false) (operations_goes text os x) ∙ shape2 (among keywords x) (among operators x) (among names x)
  goes_tail (ns, ((no_operations, f), (part k b ks, g))) x =
      ap (λ (n : Bool). ((among keywords x || n) || false) || false) (parts_goes ks x) ∙ shape3 (among keywords x) (binary_goes text x)
  goes_tail (ns, ((operation o u os, f), (part k b ks, g))) x =
      ap (λ (n : Bool). ((among keywords x || n) || false) || false) (parts_goes ks x) ∙ shape3 (among keywords x) (binary_goes text x)

  operations_last_not : (os : Operations) (x : Leaf) → among names x ≡ false → operations_last text os x ≡ false
  operations_last_not no_operations x e = refl
  operations_last_not (operation o u os) x e = or_from (operations_last text os x) _ (operations_last_not os x e) (ap (λ (b : Bool). is_nil (operations_text os) && b) e ∙ and_false (is_nil (operations_text os)))

  -- a keyword ends operations and names
  between_parts : (os : FitOperations text) (ks : FitParts) (l : List Leaf) → first (ops_goes os) l ≡ false → first (ops_goes os) (parts_text ks.0 ++ l) ≡ false
  between_parts os (no_parts, g) l e = e
  between_parts os (part k b ks, g) l e = or_from (among operators k.leaf) _ (apart keywords operators refl k.leaf k.fits) (operations_last_not os.0 k.leaf (apart keywords names refl k.leaf k.fits))

  parts_no_name : (ks : Parts) (l : List Leaf) → first (among names) l ≡ false → first (among names) (parts_text ks ++ l) ≡ false
  parts_no_name no_parts l e = e
  parts_no_name (part k b ks) l e = apart keywords names refl k.leaf k.fits

  between_names : (q : FitOperations text × FitParts) (l : List Leaf) → first (among names) l ≡ false → first (among names) ((operations_text q.0.0 ++ parts_text q.1.0) ++ l) ≡ false
  between_names q l e =
      ap (first (among names)) (append_assoc (operations_text q.0.0) (parts_text q.1.0) l) ∙ operations_no_name text q.0.0 (parts_text q.1.0 ++ l) (parts_no_name q.1.0 l e)

  abbrev rest_starts : List Kind
  rest_starts = keywords ++ operators

  takes_operations : (os : FitOperations text) (x : Leaf) → among rest_starts x ≡ true → (0 < length (operations_text os.0)) ⊎ (ops_goes os x ≡ false → among keywords x ≡ true)
  takes_operations (no_operations, f) x e = inr (λ no. covered rest_starts operators keywords refl x e (or_left (among operators x) _ no))
  takes_operations (operation o u os, f) x e = inl (omega arith)

  takes_names : (ns : List (One names)) (x : Leaf) → among message_starts x ≡ true → (0 < length (ones_text ns)) ⊎ (among names x ≡ false → among rest_starts x ≡ true)
  takes_names [] x e = inr (λ no. covered message_starts names rest_starts refl x e no)
  takes_names (n ∷ ns) x e = inl (omega arith)

  -- MESSAGES OF A CASCADE

  abbrev FitMessage : Type 0
  FitMessage = (m : Message) × MessageFits text m

  abbrev FitMessages : Type 0
  FitMessages = (ms : Messages) × MessagesFit text ms

  abbrev MessageSum : Type 0
  MessageSum = One names ⊎ ((One operators × FitUnary text) ⊎ (PartPair × FitParts))

  abbrev binary_part_text : One operators × FitUnary text → List Leaf
  binary_part_text o = o.0.leaf ∷ unary_text o.1.0

  abbrev keyword_part_text : PartPair × FitParts → List Leaf
  keyword_part_text = text_both (λ k. k.0.leaf ∷ binary_text k.1.0) (λ ks. parts_text ks.0)

  abbrev message_sum_text : MessageSum → List Leaf
  message_sum_text = text_either (one_text {kinds = names}) (text_either binary_part_text keyword_part_text)

  abbrev message_sum_tree : ExpressionView → MessageSum → ExpressionView
  message_sum_tree t =
      tree_either (λ k. with_sent t (bytes text k.leaf) views.no_expressions)
      (tree_either (λ o. with_sent t (bytes text o.0.leaf) (views.expression (unary_tree text o.1.0) views.no_expressions)) (λ k. with_sent t (bytes text k.0.0.leaf ++ selector_of text k.1.0) (views.expression (binary_tree text k.0.1.0) (arguments_of text k.1.0))))

  message_sum_goes : MessageSum → Leaf → Bool
  message_sum_goes =
      goes_either (among names) (λ o. nothing) (text_either binary_part_text keyword_part_text)
      (goes_either (among operators) (goes_both (λ o. nothing) (λ (u : FitUnary text). unary_text u.0) (λ u. among names)) keyword_part_text (goes_both (λ (k : PartPair). binary_goes text) (λ (ks : FitParts). parts_text ks.0) keys_goes))

  abbrev pub message_goes : Message → Leaf → Bool
  message_goes (unary_message k) x = false
  message_goes (binary_message o u) x = among names x
  message_goes (keyword_message k b ks) x = tail_goes x

  abbrev to_message : MessageSum → FitMessage
  to_message (inl k) = (unary_message k, tt)
  to_message (inr (inl o)) = (binary_message o.0 o.1.0, o.1.1)
  to_message (inr (inr k)) = (keyword_message k.0.0 k.0.1.0 k.1.0, (k.0.1.1, k.1.1))

  abbrev from_message : FitMessage → MessageSum
  from_message (unary_message k, f) = inl k
  from_message (binary_message o u, f) = inr (inl (o, (u, f)))
  from_message (keyword_message k b ks, f) = inr (inr ((k, (b, f.0)), (ks, f.1)))

  message_text_to : (s : MessageSum) → message_text (to_message s).0 ≡ message_sum_text s
  message_text_to (inl k) = refl
  message_text_to (inr (inl o)) = refl
  message_text_to (inr (inr k)) = refl

  message_tree_to : (t : ExpressionView) (s : MessageSum) → with_one text t (to_message s).0 ≡ message_sum_tree t s
  message_tree_to t (inl k) = refl
  message_tree_to t (inr (inl o)) = refl
  message_tree_to t (inr (inr k)) = refl

  message_goes_to : (s : MessageSum) (x : Leaf) → message_goes (to_message s).0 x ≡ message_sum_goes s x
  unfolding message_sum_goes
  message_goes_to (inl k) x = refl
  message_goes_to (inr (inl o)) x = sym (or_false (among names x || (is_nil (unary_text o.1.0) && false)) ∙ or_and_false (among names x) (is_nil (unary_text o.1.0)))
  message_goes_to (inr (inr k)) x =
      sym (
      or_false ((((among keywords x || parts_last k.1.0 x) || (is_nil (parts_text k.1.0) && binary_goes text x)) || false))
      ∙ or_false ((among keywords x || parts_last k.1.0 x) || (is_nil (parts_text k.1.0) && binary_goes text x))
      ∙ or_assoc text (among keywords x) (parts_last k.1.0 x) (is_nil (parts_text k.1.0) && binary_goes text x)
      ∙ ap (λ (b : Bool). among keywords x || b) (parts_goes k.1.0 x)
      )

  message_text_from : (f : FitMessage) → message_sum_text (from_message f) ≡ message_text f.0
  message_text_from (unary_message k, f) = refl
  message_text_from (binary_message o u, f) = refl
  message_text_from (keyword_message k b ks, f) = refl

  message_tree_from : (t : ExpressionView) (f : FitMessage) → message_sum_tree t (from_message f) ≡ with_one text t f.0
  message_tree_from t (unary_message k, f) = refl
  message_tree_from t (binary_message o u, f) = refl
  message_tree_from t (keyword_message k b ks, f) = refl

  message_goes_from : (f : FitMessage) (x : Leaf) → message_sum_goes (from_message f) x ≡ message_goes f.0 x
  message_goes_from (unary_message k, f) x = sym (message_goes_to (inl k) x)
  message_goes_from (binary_message o u, f) x = sym (message_goes_to (inr (inl (o, (u, f)))) x)
  message_goes_from (keyword_message k b ks, f) x = sym (message_goes_to (inr (inr ((k, (b, f.0)), (ks, f.1)))) x)

  not_names : (q : (One operators × FitUnary text) ⊎ (PartPair × FitParts)) (x : Leaf) (us : List Leaf) → text_either binary_part_text keyword_part_text q ≡ x ∷ us → among names x ≡ false
  not_names (inl o) x us e = let same : o.0.leaf ≡ x = cc in ap (among names) (sym same) ∙ apart operators names refl o.0.leaf o.0.fits
  not_names (inr k) x us e = let same : k.0.0.leaf ≡ x = cc in ap (among names) (sym same) ∙ apart keywords names refl k.0.0.leaf k.0.0.fits

  not_operators : (k : PartPair × FitParts) (x : Leaf) (us : List Leaf) → keyword_part_text k ≡ x ∷ us → among operators x ≡ false
  not_operators k x us e = let same : k.0.0.leaf ≡ x = cc in ap (among operators) (sym same) ∙ apart keywords operators refl k.0.0.leaf k.0.0.fits

  abbrev semicolon : List Kind
  semicolon = Semicolon ∷ []

  abbrev one_semicolon : One semicolon
  one_semicolon = record { leaf = sample Semicolon; fits = refl }

  abbrev CascadePair : Type 0
  CascadePair = One semicolon × FitMessage

  abbrev pub messages_last : Messages → Leaf → Bool
  messages_last no_messages x = false
  messages_last (message s k ms) x = messages_last ms x || (is_nil (messages_text ms) && message_goes k x)

  message_ends : (k : Message) (x : Leaf) → among semicolon x ≡ true → message_goes k x ≡ false
  message_ends (unary_message k) x e = refl
  message_ends (binary_message o u) x e = apart semicolon names refl x e
  message_ends (keyword_message k b ks) x e = or_from (among keywords x) _ (apart semicolon keywords refl x e) (or_from (among operators x) _ (apart semicolon operators refl x e) (apart semicolon names refl x e))

  messages_repeat : IsRepeat (λ (t : ExpressionView). among semicolon) (λ (c : CascadePair). c.0.leaf ∷ message_text c.1.0) (λ c t. with_one text t c.1.0) (λ c. message_goes c.1.0) (λ t ms. MessagesFit text ms) messages_text (λ ms t. after_messages text t ms) messages_last
  messages_repeat = record {
    some = λ p. omega arith;
    nil = no_messages;
    nil_valid = λ a. tt;
    nil_text = refl;
    nil_is = λ a. refl;
    nil_last = λ x. refl;
    cons = λ c ms. message c.0 c.1.0 ms;
    cons_more = λ a c ms x e v. ((c.1.1, v), refl, refl);
    cons_last = λ a c ms x v. refl;
    uncons = uncons;
  }
    where
      uncons : (t : ExpressionView) (ms : Messages) → MessagesFit text ms → ((messages_text ms ≡ []) × (after_messages text t ms ≡ t))
          ⊎ IsMore (λ (t : ExpressionView). among semicolon) (λ (c : CascadePair). c.0.leaf ∷ message_text c.1.0) (λ c t. with_one text t c.1.0) (λ c. message_goes c.1.0) (λ t ms. MessagesFit text ms) messages_text (λ ms t. after_messages text t ms) messages_last t ms
      uncons t no_messages v = inl (refl, refl)
      uncons t (message s k ms) v = inr (record {
        p = (s, (k, v.0));
        rest = ms;
        valid = v.1;
        parts = refl;
        is = refl;
        last_is = λ x. refl;
        starts = λ l. s.fits;
        ends = λ x e. message_ends k x e;
      })

  -- CASCADES

  abbrev AnySends : Type 0
  AnySends = Tail × FitMessages

  abbrev sends_text : AnySends → List Leaf
  sends_text = text_both tail_text (λ ms. messages_text ms.0)

  abbrev sends_tree : ExpressionView → AnySends → ExpressionView
  sends_tree t s = after_messages text (tail_tree s.0 t) s.1.0

  abbrev sends_goes : AnySends → Leaf → Bool
  sends_goes = goes_both (λ (q : Tail). tail_goes) (λ (ms : FitMessages). messages_text ms.0) (λ ms x. among semicolon x || messages_last ms.0 x)

  right_true : (a b : Bool) → b ≡ true → (a || b) ≡ true
  right_true true b e = refl
  right_true false b e = e

  sends_empty : (s : AnySends) (x : Leaf) → sends_text s ≡ [] → among message_starts x ≡ true → sends_goes s x ≡ true
  sends_empty (q, (no_messages, f)) x e l = right_true (among semicolon x || false) _ (starts_tail x l)
  sends_empty (q, (message s k ms, f)) x e l = absurd (omega (arith, ap length e, length-append (tail_text q) (s.leaf ∷ (message_text k ++ messages_text ms))))

  -- messages, at least one of them to the receiver itself
  abbrev Sends : Type 0
  Sends = (s : AnySends) × (first (among message_starts) (sends_text s) ≡ true)

  abbrev SendSum : Type 0
  SendSum = Sends ⊎ Unit {0}

  abbrev send_text : SendSum → List Leaf
  send_text = text_either (λ s. sends_text s.0) (λ u. [])

  abbrev send_tree : ExpressionView → SendSum → ExpressionView
  send_tree t = tree_either (λ s. sends_tree t s.0) (λ u. t)

  abbrev send_goes : SendSum → Leaf → Bool
  send_goes = goes_either (among message_starts) (λ s. sends_goes s.0) (λ u. []) (λ u. nothing)

  pub IsSend : ExpressionView → Type 0
  IsSend t = (r : ExpressionView) × (ms : views.MessagesView) × (t ≡ views.send r ms)

  messages_sent : (ms : Messages) (r : ExpressionView) (vs : views.MessagesView) → is_super (after_messages text (views.send r vs) ms) ≡ false
  messages_sent no_messages r vs = refl
  messages_sent (message s (unary_message k) ms) r vs = messages_sent ms r _
  messages_sent (message s (binary_message o u) ms) r vs = messages_sent ms r _
  messages_sent (message s (keyword_message k b ks) ms) r vs = messages_sent ms r _

  names_send : (t : ExpressionView) (k : One names) (ns : List (One names)) → IsSend (after_names text t (k ∷ ns))
  unfolding IsSend
  names_send t k [] = (t, _, refl)
  names_send t k (l ∷ ns) = names_send (sent t (bytes text k.leaf) views.no_expressions) l ns

  operations_send : (t : ExpressionView) (o : One operators) (u : Unary) (os : Operations) → IsSend (after_operations text t (operation o u os))
  unfolding IsSend
  operations_send t o u no_operations = (t, _, refl)
  operations_send t o u (operation p v os) = operations_send (sent t (bytes text o.leaf) (views.expression (unary_tree text u) views.no_expressions)) p v os

  abbrev is_empty : Tail → Bool
  is_empty ([], ((no_operations, f), (no_parts, g))) = true
  is_empty q = false

  tail_send : (q : Tail) (t : ExpressionView) → is_empty q ≡ false → IsSend (tail_tree q t)
  unfolding IsSend
  tail_send ([], ((no_operations, f), (no_parts, g))) t e = absurd cc
  tail_send (ns, (os, (part k b ks, g))) t e = (after_operations text (after_names text t ns) os.0, _, refl)
  tail_send (ns, ((operation o u os, f), (no_parts, g))) t e = operations_send (after_names text t ns) o u os
  tail_send (k ∷ ns, ((no_operations, f), (no_parts, g))) t e = names_send t k ns

  after_send : (t : ExpressionView) (ms : Messages) → IsSend t → is_super (after_messages text t ms) ≡ false
  unfolding IsSend
  after_send t ms s = ap (λ (u : ExpressionView). is_super (after_messages text u ms)) s.2 ∙ messages_sent ms s.0 s.1

  -- what begins with a message has one
  sends_some : (s : Sends) → is_empty s.0.0 ≡ false
  sends_some ((([], ((no_operations, f), (no_parts, g))), (no_messages, h)), e) = absurd cc
  sends_some ((([], ((no_operations, f), (no_parts, g))), (message s k ms, h)), e) =
      let no = apart semicolon message_starts refl s.leaf s.fits in
      absurd cc
  sends_some ((([], ((no_operations, f), (part k b ks, g))), ms), e) = refl
  sends_some ((([], ((operation o u os, f), ks)), ms), e) = refl
  sends_some (((k ∷ ns, (os, ks)), ms), e) = refl

  abbrev AnyCascade : Type 0
  AnyCascade = FitPrimary text × SendSum

  abbrev any_cascade_text : AnyCascade → List Leaf
  any_cascade_text = text_both (λ p. primary_text p.0) send_text

  abbrev any_cascade_tree : AnyCascade → ExpressionView
  any_cascade_tree c = send_tree (primary_tree text c.0.0) c.1

  any_cascade_goes : AnyCascade → Leaf → Bool
  any_cascade_goes = goes_both (λ (p : FitPrimary text). nothing) send_text send_goes

  any_cascade_some : (c : AnyCascade) → 0 < length (any_cascade_text c)
  any_cascade_some c = omega (arith, primary_some c.0.0, length-append (primary_text c.0.0) (send_text c.1))

  cascade_longer : (c : AnyCascade) → is_super (any_cascade_tree c) ≡ true → (d : AnyCascade) × (more : List Leaf) × (any_cascade_text d ≡ any_cascade_text c ++ more) × (is_super (any_cascade_tree d) ≡ false)
  cascade_longer (p, inr u) e = (
    (p, inl (((one_name ∷ [], ((no_operations, tt), (no_parts, tt))), (no_messages, tt)), refl)),
    one_name.leaf ∷ [],
    ap (λ (l : List Leaf). l ++ one_name.leaf ∷ []) (sym (append-nil (primary_text p.0))),
    refl,
  )
  cascade_longer (p, inl s) e =
      let no = after_send (tail_tree s.0.0 (primary_tree text p.0)) s.0.1.0 (tail_send s.0.0 (primary_tree text p.0) (sends_some s)) in
      absurd cc

  abbrev GoodCascade : Type 0
  GoodCascade = (c : AnyCascade) × (is_super (any_cascade_tree c) ≡ false)

  abbrev pub FitCascade : Type 0
  FitCascade = (c : Cascade) × CascadeFits text c

  -- a tail has a message
  tail_message : (p : FitPrimary text) (q : Tail) → is_empty q ≡ false → (has_message text (keyworded (binary (unary p.0 q.0) q.1.0.0) q.1.1.0) ≡ true)
  tail_message p ([], ((no_operations, f), (no_parts, g))) e = absurd cc
  tail_message p ([], ((no_operations, f), (part k b ks, g))) e = refl
  tail_message p ([], ((operation o u os, f), ks)) e = refl
  tail_message p (k ∷ ns, (os, ks)) e = refl

  may_cascade : (p : FitPrimary text) (q : Tail) (ms : Messages) → is_empty q ≡ false → MayCascade text (keyworded (binary (unary p.0 q.0) q.1.0.0) q.1.1.0) ms
  may_cascade p q no_messages e = tt
  may_cascade p q (message s k ms) e = tail_message p q e

  super_not : (t : ExpressionView) → IsSend t → is_super t ≡ false
  unfolding IsSend
  super_not t s = ap is_super s.2

  abbrev to_cascade : GoodCascade → FitCascade
  to_cascade ((p, inl s), g) = (
    cascade (keyworded (binary (unary p.0 s.0.0.0) s.0.0.1.0.0) s.0.0.1.1.0) s.0.1.0,
    (p.1, s.0.0.1.0.1, s.0.0.1.1.1, s.0.1.1, super_not (tail_tree s.0.0 (primary_tree text p.0)) (tail_send s.0.0 (primary_tree text p.0) (sends_some s)), may_cascade p s.0.0 s.0.1.0 (sends_some s)),
  )
  to_cascade ((p, inr u), g) = (cascade (keyworded (binary (unary p.0 []) no_operations) no_parts) no_messages, (p.1, tt, tt, tt, g, tt))

  pub from_cascade : FitCascade → GoodCascade
  from_cascade (cascade (keyworded (binary (unary p []) no_operations) no_parts) no_messages, f) = (((p, f.0), inr tt), f.4)
  from_cascade (cascade (keyworded (binary (unary p []) no_operations) no_parts) (message s k ms), f) = absurd (let no = f.5 in cc)
  from_cascade (cascade (keyworded (binary (unary p []) no_operations) (part k b ks)) ms, f) =
      let q : Tail = ([], ((no_operations, tt), (part k b ks, f.2))) in
      (((p, f.0), inl ((q, (ms, f.3)), within keywords message_starts refl k.leaf k.fits)), after_send (tail_tree q (primary_tree text p)) ms (tail_send q (primary_tree text p) refl))
  from_cascade (cascade (keyworded (binary (unary p []) (operation o u os)) ks) ms, f) =
      let q : Tail = ([], ((operation o u os, f.1), (ks, f.2))) in
      (((p, f.0), inl ((q, (ms, f.3)), within operators message_starts refl o.leaf o.fits)), after_send (tail_tree q (primary_tree text p)) ms (tail_send q (primary_tree text p) refl))
  from_cascade (cascade (keyworded (binary (unary p (n ∷ ns)) os) ks) ms, f) =
      let q : Tail = (n ∷ ns, ((os, f.1), (ks, f.2))) in
      (((p, f.0), inl ((q, (ms, f.3)), within names message_starts refl n.leaf n.fits)), after_send (tail_tree q (primary_tree text p)) ms (tail_send q (primary_tree text p) refl))

  -- what a cascade goes on with
  abbrev pub cascade_goes : Cascade → Leaf → Bool
  cascade_goes (cascade (keyworded (binary (unary p []) no_operations) no_parts) ms) x = among message_starts x
  cascade_goes (cascade k ms) x = (among semicolon x || messages_last ms x) || (is_nil (messages_text ms) && tail_goes x)

  cascade_text_to : (c : GoodCascade) → cascade_text (to_cascade c).0 ≡ any_cascade_text c.0
  cascade_text_to ((p, inl s), g) =
      let p : List Leaf = primary_text p.0 in
      let ns : List Leaf = ones_text s.0.0.0 in
      let os : List Leaf = operations_text s.0.0.1.0.0 in
      let ks : List Leaf = parts_text s.0.0.1.1.0 in
      let ms : List Leaf = messages_text s.0.1.0 in
      regroup p ns os ks ms
    where
      regroup : (p ns os ks ms : List Leaf) → (((p ++ ns) ++ os) ++ ks) ++ ms ≡ p ++ ((ns ++ (os ++ ks)) ++ ms)
      regroup p ns os ks ms = simp append_assoc
  cascade_text_to ((p, inr u), g) = simp append-nil

  cascade_tree_to : (c : GoodCascade) → cascade_tree text (to_cascade c).0 ≡ any_cascade_tree c.0
  cascade_tree_to ((p, inl s), g) = refl
  cascade_tree_to ((p, inr u), g) = refl

  cascade_goes_to : (c : GoodCascade) (x : Leaf) → cascade_goes (to_cascade c).0 x ≡ any_cascade_goes c.0 x
  unfolding any_cascade_goes
  cascade_goes_to ((p, inr u), g) x = sym (or_false (among message_starts x))
  cascade_goes_to ((p, inl s), g) x = sym (or_and_false (sends_goes s.0 x) (is_nil (sends_text s.0)) ∙ some s)
    where
      some : (s : Sends) → sends_goes s.0 x ≡ cascade_goes (cascade (keyworded (binary (unary p.0 s.0.0.0) s.0.0.1.0.0) s.0.0.1.1.0) s.0.1.0) x
      some s = tails s.0.0 s.0.1.0 (sends_some s)
        where
          tails : (q : Tail) (ms : Messages) → is_empty q ≡ false → ((among semicolon x || messages_last ms x) || (is_nil (messages_text ms) && tail_goes x)) ≡ cascade_goes (cascade (keyworded (binary (unary p.0 q.0) q.1.0.0) q.1.1.0) ms) x
          tails ([], ((no_operations, f), (no_parts, g))) ms e = absurd cc
          tails ([], ((no_operations, f), (part k b ks, g))) ms e = refl
          tails ([], ((operation o u os, f), ks)) ms e = refl
          tails (k ∷ ns, (os, ks)) ms e = refl

  cascade_text_from : (c : FitCascade) → any_cascade_text (from_cascade c).0 ≡ cascade_text c.0
  unfolding from_cascade
  cascade_text_from (cascade (keyworded (binary (unary p []) no_operations) no_parts) no_messages, f) = simp append-nil
  cascade_text_from (cascade (keyworded (binary (unary p []) no_operations) no_parts) (message s k ms), f) = absurd (let no = f.5 in cc)
  cascade_text_from (cascade (keyworded (binary (unary p []) no_operations) (part k b ks)) ms, f) = simp (append_assoc, append-nil)
  cascade_text_from (cascade (keyworded (binary (unary p []) (operation o u os)) ks) ms, f) = simp (append_assoc, append-nil)
  cascade_text_from (cascade (keyworded (binary (unary p (n ∷ ns)) os) ks) ms, f) = simp append_assoc

  cascade_tree_from : (c : FitCascade) → any_cascade_tree (from_cascade c).0 ≡ cascade_tree text c.0
  unfolding from_cascade
  cascade_tree_from (cascade (keyworded (binary (unary p []) no_operations) no_parts) no_messages, f) = refl
  cascade_tree_from (cascade (keyworded (binary (unary p []) no_operations) no_parts) (message s k ms), f) = absurd (let no = f.5 in cc)
  cascade_tree_from (cascade (keyworded (binary (unary p []) no_operations) (part k b ks)) ms, f) = refl
  cascade_tree_from (cascade (keyworded (binary (unary p []) (operation o u os)) ks) ms, f) = refl
  cascade_tree_from (cascade (keyworded (binary (unary p (n ∷ ns)) os) ks) ms, f) = refl

  any_goes : (c : AnyCascade) (x : Leaf) → any_cascade_goes c x ≡ send_goes c.1 x
  unfolding any_cascade_goes
  any_goes c x = or_and_false (send_goes c.1 x) (is_nil (send_text c.1))

  cascade_goes_from : (c : FitCascade) (x : Leaf) → any_cascade_goes (from_cascade c).0 x ≡ cascade_goes c.0 x
  unfolding from_cascade
  cascade_goes_from (cascade (keyworded (binary (unary p []) no_operations) no_parts) no_messages, f) x = any_goes (from_cascade (cascade (keyworded (binary (unary p []) no_operations) no_parts) no_messages, f)).0 x
  cascade_goes_from (cascade (keyworded (binary (unary p []) no_operations) no_parts) (message s k ms), f) x = absurd (let no = f.5 in cc)
  cascade_goes_from (cascade (keyworded (binary (unary p []) no_operations) (part k b ks)) ms, f) x = any_goes (from_cascade (cascade (keyworded (binary (unary p []) no_operations) (part k b ks)) ms, f)).0 x
  cascade_goes_from (cascade (keyworded (binary (unary p []) (operation o u os)) ks) ms, f) x = any_goes (from_cascade (cascade (keyworded (binary (unary p []) (operation o u os)) ks) ms, f)).0 x
  cascade_goes_from (cascade (keyworded (binary (unary p (n ∷ ns)) os) ks) ms, f) x = any_goes (from_cascade (cascade (keyworded (binary (unary p (n ∷ ns)) os) ks) ms, f)).0 x

  sends_begin : (s : Sends) (l : List Leaf) → first (among message_starts) (sends_text s.0 ++ l) ≡ true
  sends_begin s l = more (sends_text s.0) l s.1
    where
      more : (us l : List Leaf) → first (among message_starts) us ≡ true → first (among message_starts) (us ++ l) ≡ true
      more [] l e = absurd cc
      more (u ∷ us) l e = e

  -- a ; ends messages
  between_messages : (ms : FitMessages) (l : List Leaf) → first tail_goes l ≡ false → first tail_goes (messages_text ms.0 ++ l) ≡ false
  between_messages (no_messages, f) l e = e
  between_messages (message s k ms, f) l e = message_ends (keyword_message one_keyword one_binary.0 no_parts) s.leaf s.fits

  module _ (n m : ℕ) (I : Inner text n m) where
    pub part_reads : (s : PartsView) → Reads {P = PartPair} (λ k. k.0.leaf ∷ binary_text k.1.0) (λ k. with_part k s) (λ k. binary_goes text) (among keywords) n m (parts_step text (array_at text n) (bracket_at text n) s) (parts_step text (array_at text m) (bracket_at text m) s)
    unfolding parts_step
    part_reads s =
        renamed (both (token_reads keywords one_keyword (neutral keywords refl) n m I.fewer) (λ (b : FitBinary text). binary_text b.0)
        (λ b k. let p : PartsView = record { selector = s.selector ++ bytes text k; arguments = with_expression s.arguments (binary_tree text b.0) } in p) (λ b. binary_goes text) (among primary_starts)
        (λ k ts. binary_at text (array_at text n) (bracket_at text n) ts >>= λ b. Ok (record { selector = s.selector ++ bytes text k; arguments = with_expression s.arguments b.0 }, b.1))
        (λ k ts. binary_at text (array_at text m) (bracket_at text m) ts >>= λ b. Ok (record { selector = s.selector ++ bytes text k; arguments = with_expression s.arguments b.0 }, b.1))
        (λ k. mapped (λ b. record { selector = s.selector ++ bytes text k; arguments = with_expression s.arguments b }) (binary_reads text n m I))
        one_binary (among keywords) (λ p q l e. first_nothing (binary_text q.0 ++ l)) (λ x ts e. inl e) (λ p x e. inl (omega arith)))
        (λ k. k.0.leaf ∷ binary_text k.1.0) (λ k. with_part k s) (λ k. binary_goes text)
        (λ k. k) (λ k. refl) (λ k. refl) (λ k x. sym (or_and_false (binary_goes text x) (is_nil (binary_text k.1.0)))) (λ k. k) (λ k. refl) (λ k. refl) (λ k x. or_and_false (binary_goes text x) (is_nil (binary_text k.1.0)))

    pub parts_reads : (s : PartsView) → Reads {P = FitParts} (λ ks. parts_text ks.0) (λ ks. with_parts ks.0 s) keys_goes (among keywords) n m (parts_at text (array_at text n) (bracket_at text n) s) (parts_at text (array_at text m) (bracket_at text m) s)
    unfolding parts_at
    parts_reads s = repeated parts_repeat n m I.fewer (parts_step text (array_at text n) (bracket_at text n)) (parts_step text (array_at text m) (bracket_at text m)) part_reads parts_balanced s

    keyword_reads : (t : ExpressionView) → Reads {P = FitParts} (λ ks. parts_text ks.0) (λ ks. sent_if t (selector_of text ks.0) (arguments_of text ks.0)) keys_goes (among keywords) n m (keyword_at text (array_at text n) (bracket_at text n) t) (keyword_at text (array_at text m) (bracket_at text m) t)
    unfolding keyword_at
    keyword_reads t = mapped (λ s. sent_if t s.selector s.arguments) (parts_reads no_parts_yet)

    operations_go : (t : ExpressionView) (x : Leaf) (ts : List Leaf) → among operators x ≡ false → operations_at text (array_at text n) (bracket_at text n) t (x ∷ ts) ≡ Ok (t, x ∷ ts)
    unfolding operations_at
    operations_go t x ts e = many_stop (λ (b : ExpressionView). among operators) (operations_step text (array_at text n) (bracket_at text n)) (length (x ∷ ts)) t (x ∷ ts) e

    names_go : (t : ExpressionView) (x : Leaf) (ts : List Leaf) → among names x ≡ false → names_at text t (x ∷ ts) ≡ Ok (t, x ∷ ts)
    unfolding names_at
    names_go t x ts e = many_stop (λ (b : ExpressionView). among names) (names_step text) (length (x ∷ ts)) t (x ∷ ts) e

    rest_reads : (t : ExpressionView) → Reads {P = FitOperations text × FitParts} (text_both (λ os. operations_text os.0) (λ ks. parts_text ks.0)) (λ q. sent_if (after_operations text t q.0.0) (selector_of text q.1.0) (arguments_of text q.1.0)) rest_goes (among rest_starts) n m
        (λ ts. operations_at text (array_at text n) (bracket_at text n) t ts >>= λ b. keyword_at text (array_at text n) (bracket_at text n) b.0 b.1)
        (λ ts. operations_at text (array_at text m) (bracket_at text m) t ts >>= λ b. keyword_at text (array_at text m) (bracket_at text m) b.0 b.1)
    rest_reads t =
        both (operations_reads text n m I t) (λ (ks : FitParts). parts_text ks.0) (λ ks b. sent_if b (selector_of text ks.0) (arguments_of text ks.0)) keys_goes (among keywords)
        (keyword_at text (array_at text n) (bracket_at text n)) (keyword_at text (array_at text m) (bracket_at text m)) keyword_reads (no_parts, tt) (among rest_starts) between_parts
        (λ x ts e. elim (cases_Bool (among operators x)) [
          | inl o ↦ inl o
          | inr o ↦ inr (λ s was. let no = operations_go t x ts o in absurd cc)
        ])
        takes_operations

    pub messages_reads : (t : ExpressionView) → Reads {P = Tail} tail_text (λ q. tail_tree q t) (λ q. tail_goes) (among message_starts) n m (messages_at text (array_at text n) (bracket_at text n) t) (messages_at text (array_at text m) (bracket_at text m) t)
    unfolding messages_at any_tail_goes
    messages_reads t =
        renamed (both (names_reads text n m I t) (text_both (λ (os : FitOperations text). operations_text os.0) (λ (ks : FitParts). parts_text ks.0)) (λ q u. sent_if (after_operations text u q.0.0) (selector_of text q.1.0) (arguments_of text q.1.0)) rest_goes (among rest_starts)
        (λ u ts. operations_at text (array_at text n) (bracket_at text n) u ts >>= λ b. keyword_at text (array_at text n) (bracket_at text n) b.0 b.1)
        (λ u ts. operations_at text (array_at text m) (bracket_at text m) u ts >>= λ b. keyword_at text (array_at text m) (bracket_at text m) b.0 b.1)
        rest_reads ((no_operations, tt), (no_parts, tt)) (among message_starts) (λ p q l e. between_names q l e)
        (λ x ts e. elim (cases_Bool (among names x)) [
          | inl o ↦ inl o
          | inr o ↦ inr (λ s was. let no = names_go t x ts o in absurd cc)
        ])
        takes_names)
        tail_text (λ q. tail_tree q t) (λ q. tail_goes) (λ q. q) (λ q. refl) (λ q. refl) (λ q x. sym (goes_tail q x)) (λ q. q) (λ q. refl) (λ q. refl) goes_tail

    -- MESSAGES OF A CASCADE

    unary_message_reads : (t : ExpressionView) → Reads (one_text {kinds = names}) (λ k. with_sent t (bytes text k.leaf) views.no_expressions) (λ k. nothing) (among names) n m (unary_message_at text t) (unary_message_at text t)
    unfolding unary_message_at
    unary_message_reads t = mapped (λ k. with_sent t (bytes text k) views.no_expressions) (token_reads names one_name (neutral names refl) n m I.fewer)

    binary_message_reads : (t : ExpressionView) → Reads {P = One operators × FitUnary text} binary_part_text (λ o. with_sent t (bytes text o.0.leaf) (views.expression (unary_tree text o.1.0) views.no_expressions)) (goes_both (λ o. nothing) (λ (u : FitUnary text). unary_text u.0) (λ u. among names)) (among operators) n m
        (binary_message_at text (array_at text n) (bracket_at text n) t) (binary_message_at text (array_at text m) (bracket_at text m) t)
    unfolding binary_message_at
    binary_message_reads t =
        both (token_reads operators one_operator (neutral operators refl) n m I.fewer) (λ (u : FitUnary text). unary_text u.0) (λ u o. with_sent t (bytes text o) (views.expression (unary_tree text u.0) views.no_expressions)) (λ u. among names) (among primary_starts)
        (λ o ts. unary_at text (array_at text n) (bracket_at text n) ts >>= λ u. Ok (with_sent t (bytes text o) (views.expression u.0 views.no_expressions), u.1))
        (λ o ts. unary_at text (array_at text m) (bracket_at text m) ts >>= λ u. Ok (with_sent t (bytes text o) (views.expression u.0 views.no_expressions), u.1))
        (λ o. mapped (λ u. with_sent t (bytes text o) (views.expression u views.no_expressions)) (unary_reads text n m I))
        (one_unary text) (among operators) (λ p q l e. first_nothing (unary_text q.0 ++ l)) (λ x ts e. inl e) (λ p x e. inl (omega arith))

    keyword_message_reads : (t : ExpressionView) → Reads {P = PartPair × FitParts} keyword_part_text (λ k. with_sent t (bytes text k.0.0.leaf ++ selector_of text k.1.0) (views.expression (binary_tree text k.0.1.0) (arguments_of text k.1.0))) (goes_both (λ (k : PartPair). binary_goes text) (λ (ks : FitParts). parts_text ks.0) keys_goes) (among keywords) n m
        (keyword_message_at text (array_at text n) (bracket_at text n) t) (keyword_message_at text (array_at text m) (bracket_at text m) t)
    unfolding keyword_message_at
    keyword_message_reads t =
        both (part_reads no_parts_yet) (λ (ks : FitParts). parts_text ks.0) (λ ks s. with_sent t (s.selector ++ selector_of text ks.0) (joined_expressions s.arguments (arguments_of text ks.0))) keys_goes (among keywords)
        (λ s ts. parts_at text (array_at text n) (bracket_at text n) s ts >>= λ ks. Ok (with_sent t ks.0.selector ks.0.arguments, ks.1))
        (λ s ts. parts_at text (array_at text m) (bracket_at text m) s ts >>= λ ks. Ok (with_sent t ks.0.selector ks.0.arguments, ks.1))
        (λ s. mapped (λ (ks : PartsView). with_sent t ks.selector ks.arguments) (parts_reads s))
        (no_parts, tt) (among keywords) (λ p q l e. between_keys q l e) (λ x ts e. inl e) (λ p x e. inl (omega arith))
      where
        between_keys : (ks : FitParts) (l : List Leaf) → first (binary_goes text) l ≡ false → first (binary_goes text) (parts_text ks.0 ++ l) ≡ false
        between_keys (no_parts, g) l e = e
        between_keys (part k b ks, g) l e = binary_goes_not k.leaf k.fits

    message_reads : (t : ExpressionView) → Reads {P = FitMessage} (λ k. message_text k.0) (λ k. with_one text t k.0) (λ k. message_goes k.0) nothing n m (message_at text (array_at text n) (bracket_at text n) t) (message_at text (array_at text m) (bracket_at text m) t)
    unfolding message_at message_sum_goes
    message_reads t =
        renamed (either (among names) (anyway (among names) (unary_message_reads t))
        (either (among operators) (anyway (among operators) (binary_message_reads t)) (keyword_message_reads t) nothing (λ x e. e) (λ p l. p.0.fits) not_operators (λ x e f. absurd cc))
        nothing (λ x e. e) (λ p l. p.fits) not_names (λ x e f. absurd cc))
        (λ k. message_text k.0) (λ k. with_one text t k.0) (λ k. message_goes k.0) to_message message_text_to (message_tree_to t) message_goes_to from_message message_text_from (message_tree_from t) message_goes_from

    pub cascade_step_reads : (t : ExpressionView) → Reads {P = CascadePair} (λ c. c.0.leaf ∷ message_text c.1.0) (λ c. with_one text t c.1.0) (λ c. message_goes c.1.0) (among semicolon) n m (cascade_step text (array_at text n) (bracket_at text n) t) (cascade_step text (array_at text m) (bracket_at text m) t)
    unfolding cascade_step
    cascade_step_reads t =
        renamed (both (token_reads semicolon one_semicolon (neutral semicolon refl) n m I.fewer) (λ (k : FitMessage). message_text k.0) (λ k s. with_one text t k.0) (λ k. message_goes k.0) nothing
        (λ s ts. message_at text (array_at text n) (bracket_at text n) t ts) (λ s ts. message_at text (array_at text m) (bracket_at text m) t ts) (λ s. message_reads t)
        (unary_message one_name, tt) (among semicolon) (λ p q l e. first_nothing (message_text q.0 ++ l)) (λ x ts e. inl e) (λ p x e. inl (omega arith)))
        (λ c. c.0.leaf ∷ message_text c.1.0) (λ c. with_one text t c.1.0) (λ c. message_goes c.1.0)
        (λ c. c) (λ c. refl) (λ c. refl) (λ c x. sym (or_and_false (message_goes c.1.0 x) (is_nil (message_text c.1.0)))) (λ c. c) (λ c. refl) (λ c. refl) (λ c x. or_and_false (message_goes c.1.0 x) (is_nil (message_text c.1.0)))

    cascades_reads : (t : ExpressionView) → Reads {P = FitMessages} (λ ms. messages_text ms.0) (λ ms. after_messages text t ms.0) (λ ms x. among semicolon x || messages_last ms.0 x) (among semicolon) n m (cascades_at text (array_at text n) (bracket_at text n) t) (cascades_at text (array_at text m) (bracket_at text m) t)
    unfolding cascades_at
    cascades_reads t = repeated messages_repeat n m I.fewer (cascade_step text (array_at text n) (bracket_at text n)) (cascade_step text (array_at text m) (bracket_at text m)) cascade_step_reads messages_balanced t

    -- CASCADES

    any_sends_reads : (t : ExpressionView) → Reads {P = AnySends} sends_text (sends_tree t) sends_goes (among message_starts) n m
        (λ ts. messages_at text (array_at text n) (bracket_at text n) t ts >>= λ k. cascades_at text (array_at text n) (bracket_at text n) k.0 k.1)
        (λ ts. messages_at text (array_at text m) (bracket_at text m) t ts >>= λ k. cascades_at text (array_at text m) (bracket_at text m) k.0 k.1)
    any_sends_reads t =
        both (messages_reads t) (λ (ms : FitMessages). messages_text ms.0) (λ ms k. after_messages text k ms.0) (λ ms x. among semicolon x || messages_last ms.0 x) (among semicolon)
        (cascades_at text (array_at text n) (bracket_at text n)) (cascades_at text (array_at text m) (bracket_at text m)) cascades_reads
        (no_messages, tt) (among message_starts) (λ p q l e. between_messages q l e) (λ x ts e. inl e) (λ p x e. inr (λ no. let yes = starts_tail x e in absurd cc))

    sends_reads : (t : ExpressionView) → Reads {P = SendSum} send_text (send_tree t) send_goes nothing n m (sends_at text (array_at text n) (bracket_at text n) t) (sends_at text (array_at text m) (bracket_at text m) t)
    unfolding sends_at
    sends_reads t =
        either (among message_starts) (nonempty (among message_starts) (any_sends_reads t) sends_empty) (pure t nothing n m I.fewer) nothing (λ x e. e) sends_begin (λ q x us e. absurd cc) (λ x e f. absurd cc)

    any_cascade_reads : Reads {P = AnyCascade} any_cascade_text any_cascade_tree any_cascade_goes (among primary_starts) n m (any_cascade_at text (array_at text n) (bracket_at text n)) (any_cascade_at text (array_at text m) (bracket_at text m))
    unfolding any_cascade_at any_cascade_goes
    any_cascade_reads =
        both (primary_reads text n m I) send_text (λ s t. send_tree t s) send_goes nothing (sends_at text (array_at text n) (bracket_at text n)) (sends_at text (array_at text m) (bracket_at text m)) sends_reads
        (inr tt) (among primary_starts) (λ p q l e. first_nothing (send_text q ++ l)) (λ x ts e. inl e) (λ p x e. inl (primary_some p.0))

    pub cascade_reads : Reads {P = FitCascade} (λ c. cascade_text c.0) (λ c. cascade_tree text c.0) (λ c. cascade_goes c.0) (among primary_starts) n m (cascade_at text (array_at text n) (bracket_at text n)) (cascade_at text (array_at text m) (bracket_at text m))
    unfolding cascade_at
    cascade_reads =
        renamed (tested any_cascade_reads is_super any_cascade_some cascade_longer) (λ c. cascade_text c.0) (λ c. cascade_tree text c.0) (λ c. cascade_goes c.0)
        to_cascade cascade_text_to cascade_tree_to cascade_goes_to from_cascade cascade_text_from cascade_tree_from cascade_goes_from

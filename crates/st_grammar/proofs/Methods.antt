-- What is read of methods.
use Rattle.std.proofs.Common.{◌≡◌, ℕ, Bool, true, false, cond, ◌||◌, ◌&&◌, List, [], ◌∷◌, ◌++◌, ◌⊎◌, inl, inr, Option, Some, None, Ok, refl, sym, ap, ◌∙◌, append_assoc, arith}
use Rattle.std.proofs.lemmas.List.{append-nil}
use Rattle.st_scan.specs.declared.token.Signed.{Signed}
use Rattle.st_scan.specs.Views.{NameView, MethodView}
use Rattle.st_grammar.specs.declared.leaf.Leaf.{Leaf}
use Rattle.st_grammar.specs.declared.leaf.Kind.{Kind}
use Rattle.st_grammar.specs.declared.leaf.Kind.TheVariants.{Primitive, Bar, Less, Greater, Number}
use Rattle.st_grammar.specs.Leaves.{among, keywords, operators}
use Rattle.st_grammar.specs.Phrases.{One, names, one_text, ones_text, KeywordName, Pattern, unary_pattern, binary_pattern, keyword_pattern, Temporaries, Primitive', Options, no_options, with_temporaries, with_primitive, temporaries_first, primitive_first, Method, method, Statements, no_statements, keyword_names_text, pattern_text, temporaries_text, primitive_text, options_text, statements_text, method_text}
use Rattle.st_grammar.specs.Trees.{bytes, name_at, names_of, number_of, keyword_selector, keyword_arguments, pattern_selector, pattern_arguments, primitive_number, options_temporaries, options_primitive, statements_tree, method_tree, MethodFits}
use Rattle.st_grammar.specs.Reading.{◌>>=◌, first, token_at, statement_starts, PatternView, OptionsView, array_at, bracket_at, statements_at, pattern_step, keyword_names_at, unary_pattern_at, binary_pattern_at, keyword_pattern_at, pattern_at, name_step, name_list_at, temporaries_at, primitive_at, temporaries_first_at, primitive_first_at, options_at, method_at}
use Rattle.st_grammar.proofs.KindSets.{apart, neutral, one_of, one_name, one_operator, one_keyword}
use Rattle.st_grammar.proofs.Balanced.{keyword_names_balanced}
use Rattle.st_grammar.proofs.Readers.{Reads, nothing, first_nothing, is_nil, mapped, renamed, token_reads, both, either, anyway, pure, weaker, text_both, goes_both, text_either, tree_either, goes_either}
use Rattle.st_grammar.proofs.Repeats.{IsRepeat, repeated}
use Rattle.st_grammar.proofs.Lists.{and_false, lists_repeat, lists_repeat, or_false, or_and_false, ones_reads}
use Rattle.st_grammar.proofs.Expressions.{Inner}
use Rattle.st_grammar.proofs.Bodies.{FitStatements, statements_goes, statements_reads}
use Rattle.st_grammar.proofs.Blocks.{statement_begins}
use Rattle.std.proofs.lemmas.Bool.{or_from}

abbrev bar : List Kind
bar = Bar ∷ []

abbrev less : List Kind
less = Less ∷ []

abbrev pattern_view : List ℕ → List NameView → PatternView
pattern_view selector arguments = record { selector = selector; arguments = arguments }

abbrev options_view : List NameView → Option Signed → OptionsView
options_view temporaries primitive = record { temporaries = temporaries; primitive = primitive }

pattern_equal : (s t : List ℕ) (xs ys : List NameView) → s ≡ t → xs ≡ ys → pattern_view s xs ≡ pattern_view t ys
pattern_equal s t xs ys p q = cc

module _ (text : List ℕ) where
  -- PATTERNS

  abbrev keyword_name_text : KeywordName → List Leaf
  keyword_name_text k = k.keyword.leaf ∷ k.name.leaf ∷ []

  abbrev with_keyword : KeywordName → PatternView → PatternView
  with_keyword k p = pattern_view (p.selector ++ bytes text k.keyword.leaf) (p.arguments ++ name_at text k.name.leaf ∷ [])

  abbrev with_keywords : List KeywordName → PatternView → PatternView
  with_keywords ks p = pattern_view (p.selector ++ keyword_selector text ks) (p.arguments ++ keyword_arguments text ks)

  no_more : (p : PatternView) → with_keywords [] p ≡ p
  no_more p = pattern_equal (p.selector ++ []) p.selector (p.arguments ++ []) p.arguments (append-nil p.selector) (append-nil p.arguments)

  one_more : (k : KeywordName) (ks : List KeywordName) (p : PatternView) → with_keywords (k ∷ ks) p ≡ with_keywords ks (with_keyword k p)
  one_more k ks p =
      pattern_equal (p.selector ++ (bytes text k.keyword.leaf ++ keyword_selector text ks)) ((p.selector ++ bytes text k.keyword.leaf) ++ keyword_selector text ks) (p.arguments ++ (name_at text k.name.leaf ∷ keyword_arguments text ks)) ((p.arguments ++ name_at text k.name.leaf ∷ []) ++ keyword_arguments text ks)
      (sym (append_assoc p.selector (bytes text k.keyword.leaf) (keyword_selector text ks))) (sym (append_assoc p.arguments (name_at text k.name.leaf ∷ []) (keyword_arguments text ks)))

  keyword_names_repeat : IsRepeat (λ (p : PatternView). among keywords) keyword_name_text with_keyword (λ k. nothing) (λ p ks. Unit {0}) keyword_names_text with_keywords (λ ks. nothing)
  keyword_names_repeat = lists_repeat (among keywords) keyword_name_text with_keyword keyword_names_text with_keywords (λ p. omega arith) refl (λ p l. refl) (λ k l. k.keyword.fits) no_more one_more

  abbrev PatternSum : Type 0
  PatternSum = One names ⊎ ((One operators × One names) ⊎ (KeywordName × List KeywordName))

  abbrev binary_text' : One operators × One names → List Leaf
  binary_text' = text_both one_text one_text

  abbrev keyword_text' : KeywordName × List KeywordName → List Leaf
  keyword_text' = text_both keyword_name_text keyword_names_text

  abbrev pattern_sum_text : PatternSum → List Leaf
  pattern_sum_text = text_either one_text (text_either binary_text' keyword_text')

  abbrev keyword_tree' : KeywordName × List KeywordName → PatternView
  keyword_tree' k = with_keywords k.1 (with_keyword k.0 (pattern_view [] []))

  abbrev pattern_sum_tree : PatternSum → PatternView
  pattern_sum_tree = tree_either (λ o. pattern_view (bytes text o.leaf) []) (tree_either (λ o. pattern_view (bytes text o.0.leaf) (name_at text o.1.leaf ∷ [])) keyword_tree')

  pattern_sum_goes : PatternSum → Leaf → Bool
  pattern_sum_goes =
      goes_either (among names) (λ o. nothing) (text_either binary_text' keyword_text')
      (goes_either (among operators) (goes_both (λ (o : One operators). nothing) (one_text {kinds = names}) (λ o. nothing)) keyword_text' (goes_both (λ (k : KeywordName). nothing) keyword_names_text (λ ks. among keywords)))

  abbrev pattern_tree : Pattern → PatternView
  pattern_tree p = pattern_view (pattern_selector text p) (pattern_arguments text p)

  -- what a pattern goes on with
  abbrev pattern_goes : Pattern → Leaf → Bool
  pattern_goes (unary_pattern k) x = false
  pattern_goes (binary_pattern o k) x = false
  pattern_goes (keyword_pattern k ks) x = among keywords x

  abbrev to_pattern : PatternSum → Pattern
  to_pattern (inl o) = unary_pattern o
  to_pattern (inr (inl o)) = binary_pattern o.0 o.1
  to_pattern (inr (inr k)) = keyword_pattern k.0 k.1

  abbrev from_pattern : Pattern → PatternSum
  from_pattern (unary_pattern k) = inl k
  from_pattern (binary_pattern o k) = inr (inl (o, k))
  from_pattern (keyword_pattern k ks) = inr (inr (k, ks))

  pattern_text_to : (s : PatternSum) → pattern_text (to_pattern s) ≡ pattern_sum_text s
  pattern_text_to (inl o) = refl
  pattern_text_to (inr (inl o)) = refl
  pattern_text_to (inr (inr k)) = refl

  pattern_tree_to : (s : PatternSum) → pattern_tree (to_pattern s) ≡ pattern_sum_tree s
  pattern_tree_to (inl o) = refl
  pattern_tree_to (inr (inl o)) = refl
  pattern_tree_to (inr (inr k)) = refl

  pattern_goes_to : (s : PatternSum) (x : Leaf) → pattern_goes (to_pattern s) x ≡ pattern_sum_goes s x
  unfolding pattern_sum_goes
  pattern_goes_to (inl o) x = refl
  pattern_goes_to (inr (inl o)) x = refl
  pattern_goes_to (inr (inr k)) x =
      sym (or_false ((among keywords x || (is_nil (keyword_names_text k.1) && false)) || false) ∙ or_false (among keywords x || (is_nil (keyword_names_text k.1) && false)) ∙ or_and_false (among keywords x) (is_nil (keyword_names_text k.1)))

  pattern_text_from : (p : Pattern) → pattern_sum_text (from_pattern p) ≡ pattern_text p
  pattern_text_from (unary_pattern k) = refl
  pattern_text_from (binary_pattern o k) = refl
  pattern_text_from (keyword_pattern k ks) = refl

  pattern_tree_from : (p : Pattern) → pattern_sum_tree (from_pattern p) ≡ pattern_tree p
  pattern_tree_from (unary_pattern k) = refl
  pattern_tree_from (binary_pattern o k) = refl
  pattern_tree_from (keyword_pattern k ks) = refl

  pattern_goes_from : (p : Pattern) (x : Leaf) → pattern_sum_goes (from_pattern p) x ≡ pattern_goes p x
  pattern_goes_from (unary_pattern k) x = sym (pattern_goes_to (inl k) x)
  pattern_goes_from (binary_pattern o k) x = sym (pattern_goes_to (inr (inl (o, k))) x)
  pattern_goes_from (keyword_pattern k ks) x = sym (pattern_goes_to (inr (inr (k, ks))) x)

  not_names : (q : (One operators × One names) ⊎ (KeywordName × List KeywordName)) (x : Leaf) (us : List Leaf) → text_either binary_text' keyword_text' q ≡ x ∷ us → among names x ≡ false
  not_names (inl o) x us e = let same : o.0.leaf ≡ x = cc in ap (among names) (sym same) ∙ apart operators names refl o.0.leaf o.0.fits
  not_names (inr k) x us e = let same : k.0.keyword.leaf ≡ x = cc in ap (among names) (sym same) ∙ apart keywords names refl k.0.keyword.leaf k.0.keyword.fits

  not_operators : (k : KeywordName × List KeywordName) (x : Leaf) (us : List Leaf) → keyword_text' k ≡ x ∷ us → among operators x ≡ false
  not_operators k x us e = let same : k.0.keyword.leaf ≡ x = cc in ap (among operators) (sym same) ∙ apart keywords operators refl k.0.keyword.leaf k.0.keyword.fits

  -- OPTIONS

  abbrev TemporariesFirst : Type 0
  TemporariesFirst = Temporaries × (Primitive' ⊎ Unit {0})

  abbrev PrimitiveFirst : Type 0
  PrimitiveFirst = Primitive' × (Temporaries ⊎ Unit {0})

  abbrev OptionsSum : Type 0
  OptionsSum = TemporariesFirst ⊎ (PrimitiveFirst ⊎ Unit {0})

  abbrev maybe_primitive_text : Primitive' ⊎ Unit {0} → List Leaf
  maybe_primitive_text = text_either primitive_text (λ u. [])

  abbrev maybe_temporaries_text : Temporaries ⊎ Unit {0} → List Leaf
  maybe_temporaries_text = text_either temporaries_text (λ u. [])

  abbrev maybe_primitive_goes : Primitive' ⊎ Unit {0} → Leaf → Bool
  maybe_primitive_goes = goes_either (among less) (λ p. nothing) (λ u. []) (λ u. nothing)

  abbrev maybe_temporaries_goes : Temporaries ⊎ Unit {0} → Leaf → Bool
  maybe_temporaries_goes = goes_either (among bar) (λ p. nothing) (λ u. []) (λ u. nothing)

  abbrev first_text : TemporariesFirst → List Leaf
  first_text = text_both temporaries_text maybe_primitive_text

  abbrev second_text : PrimitiveFirst → List Leaf
  second_text = text_both primitive_text maybe_temporaries_text

  abbrev options_sum_text : OptionsSum → List Leaf
  options_sum_text = text_either first_text (text_either second_text (λ u. []))

  abbrev first_tree : TemporariesFirst → OptionsView
  first_tree t = tree_either (λ p. options_view (names_of text t.0.inside) (Some (primitive_number text p))) (λ u. options_view (names_of text t.0.inside) None) t.1

  abbrev second_tree : PrimitiveFirst → OptionsView
  second_tree p = tree_either (λ t. options_view (names_of text t.inside) (Some (primitive_number text p.0))) (λ u. options_view [] (Some (primitive_number text p.0))) p.1

  abbrev options_sum_tree : OptionsSum → OptionsView
  options_sum_tree = tree_either first_tree (tree_either second_tree (λ u. options_view [] None))

  options_sum_goes : OptionsSum → Leaf → Bool
  options_sum_goes =
      goes_either (among bar) (goes_both (λ (t : Temporaries). nothing) maybe_primitive_text maybe_primitive_goes) (text_either second_text (λ u. []))
      (goes_either (among less) (goes_both (λ (p : Primitive'). nothing) maybe_temporaries_text maybe_temporaries_goes) (λ u. []) (λ u. nothing))

  abbrev options_tree : Options → OptionsView
  options_tree o = options_view (options_temporaries text o) (options_primitive text o)

  -- what options go on with
  abbrev options_goes : Options → Leaf → Bool
  options_goes no_options x = among less x || among bar x
  options_goes (with_temporaries t) x = among less x
  options_goes (with_primitive p) x = among bar x
  options_goes (temporaries_first t p) x = false
  options_goes (primitive_first p t) x = false

  abbrev to_options : OptionsSum → Options
  to_options (inl (t, inl p)) = temporaries_first t p
  to_options (inl (t, inr u)) = with_temporaries t
  to_options (inr (inl (p, inl t))) = primitive_first p t
  to_options (inr (inl (p, inr u))) = with_primitive p
  to_options (inr (inr u)) = no_options

  abbrev from_options : Options → OptionsSum
  from_options no_options = inr (inr tt)
  from_options (with_temporaries t) = inl (t, inr tt)
  from_options (with_primitive p) = inr (inl (p, inr tt))
  from_options (temporaries_first t p) = inl (t, inl p)
  from_options (primitive_first p t) = inr (inl (p, inl t))

  options_text_to : (s : OptionsSum) → options_text (to_options s) ≡ options_sum_text s
  options_text_to (inl (t, inl p)) = refl
  options_text_to (inl (t, inr u)) = sym (append-nil (temporaries_text t))
  options_text_to (inr (inl (p, inl t))) = refl
  options_text_to (inr (inl (p, inr u))) = sym (append-nil (primitive_text p))
  options_text_to (inr (inr u)) = refl

  options_tree_to : (s : OptionsSum) → options_tree (to_options s) ≡ options_sum_tree s
  options_tree_to (inl (t, inl p)) = refl
  options_tree_to (inl (t, inr u)) = refl
  options_tree_to (inr (inl (p, inl t))) = refl
  options_tree_to (inr (inl (p, inr u))) = refl
  options_tree_to (inr (inr u)) = refl

  options_goes_to : (s : OptionsSum) (x : Leaf) → options_goes (to_options s) x ≡ options_sum_goes s x
  unfolding options_sum_goes
  options_goes_to (inl (t, inl p)) x = refl
  options_goes_to (inl (t, inr u)) x = sym (or_false (among less x))
  options_goes_to (inr (inl (p, inl t))) x = refl
  options_goes_to (inr (inl (p, inr u))) x = sym (or_false (among bar x || false) ∙ or_false (among bar x))
  options_goes_to (inr (inr u)) x = refl

  options_back : (o : Options) → to_options (from_options o) ≡ o
  options_back no_options = refl
  options_back (with_temporaries t) = refl
  options_back (with_primitive p) = refl
  options_back (temporaries_first t p) = refl
  options_back (primitive_first p t) = refl

  options_text_from : (o : Options) → options_sum_text (from_options o) ≡ options_text o
  options_text_from o = sym (options_text_to (from_options o)) ∙ ap options_text (options_back o)

  options_tree_from : (o : Options) → options_sum_tree (from_options o) ≡ options_tree o
  options_tree_from o = sym (options_tree_to (from_options o)) ∙ ap options_tree (options_back o)

  options_goes_from : (o : Options) (x : Leaf) → options_sum_goes (from_options o) x ≡ options_goes o x
  options_goes_from o x = sym (options_goes_to (from_options o) x) ∙ ap (λ (p : Options). options_goes p x) (options_back o)

  not_bar : (q : PrimitiveFirst ⊎ Unit {0}) (x : Leaf) (us : List Leaf) → text_either second_text (λ u. []) q ≡ x ∷ us → among bar x ≡ false
  not_bar (inl p) x us e = let same : p.0.less.leaf ≡ x = cc in ap (among bar) (sym same) ∙ apart less bar refl p.0.less.leaf p.0.less.fits
  not_bar (inr u) x us e = absurd cc

  one_temporaries : Temporaries
  one_temporaries = record { open_bar = (one_of Bar); inside = []; close_bar = (one_of Bar) }

  -- METHODS

  abbrev MethodParts : Type 0
  MethodParts = Pattern × (Options × FitStatements text)

  abbrev method_parts_text : MethodParts → List Leaf
  method_parts_text = text_both pattern_text (text_both options_text (λ ss. statements_text ss.0))

  abbrev rest_goes : Options × FitStatements text → Leaf → Bool
  rest_goes = goes_both options_goes (λ (ss : FitStatements text). statements_text ss.0) (λ ss. statements_goes text ss.0)

  abbrev pub FitMethod : Type 0
  FitMethod = (m : Method) × MethodFits text m

  abbrev from_method : FitMethod → MethodParts
  from_method (method p o ss, f) = (p, (o, (ss, f)))

  abbrev to_method : MethodParts → FitMethod
  to_method m = (method m.0 m.1.0 m.1.1.0, m.1.1.1)

  abbrev method_parts_goes : MethodParts → Leaf → Bool
  method_parts_goes = goes_both pattern_goes (text_both options_text (λ (ss : FitStatements text). statements_text ss.0)) rest_goes

  -- what a method goes on with
  pub method_goes : FitMethod → Leaf → Bool
  method_goes m = method_parts_goes (from_method m)

  method_text_from : (m : FitMethod) → method_parts_text (from_method m) ≡ method_text m.0
  method_text_from (method p o ss, f) = refl

  abbrev method_parts_tree : MethodParts → MethodView
  method_parts_tree m = record { selector = pattern_selector text m.0; arguments = pattern_arguments text m.0; temporaries = options_temporaries text m.1.0; primitive = options_primitive text m.1.0; body = statements_tree text m.1.1.0 }

  method_tree_from : (m : FitMethod) → method_parts_tree (from_method m) ≡ method_tree text m.0
  method_tree_from (method p o ss, f) = refl

  first_of_statements : (ks : List Kind) (ss : Statements) (l : List Leaf) (us : List Leaf) → us ≡ statements_text ss → ((x : Leaf) → among statement_starts x ≡ true → among ks x ≡ false) → first (among ks) l ≡ false → first (among ks) (us ++ l) ≡ false
  first_of_statements ks ss l [] is none e = e
  first_of_statements ks ss l (u ∷ us) is none e = none u (statement_begins text ss u us (sym is))

  between_pattern : (p : Pattern) (q : Options × FitStatements text) (l : List Leaf) → first (pattern_goes p) l ≡ false → first (pattern_goes p) ((options_text q.0 ++ statements_text q.1.0) ++ l) ≡ false
  between_pattern (unary_pattern k) q l e = first_nothing ((options_text q.0 ++ statements_text q.1.0) ++ l)
  between_pattern (binary_pattern o k) q l e = first_nothing ((options_text q.0 ++ statements_text q.1.0) ++ l)
  between_pattern (keyword_pattern k ks) (no_options, ss) l e = first_of_statements keywords ss.0 l (statements_text ss.0) refl (λ x s. apart statement_starts keywords refl x s) e
  between_pattern (keyword_pattern k ks) (with_temporaries t, ss) l e = apart bar keywords refl t.open_bar.leaf t.open_bar.fits
  between_pattern (keyword_pattern k ks) (with_primitive p, ss) l e = apart less keywords refl p.less.leaf p.less.fits
  between_pattern (keyword_pattern k ks) (temporaries_first t p, ss) l e = apart bar keywords refl t.open_bar.leaf t.open_bar.fits
  between_pattern (keyword_pattern k ks) (primitive_first p t, ss) l e = apart less keywords refl p.less.leaf p.less.fits

  between_options : (o : Options) (ss : FitStatements text) (l : List Leaf) → first (options_goes o) l ≡ false → first (options_goes o) (statements_text ss.0 ++ l) ≡ false
  between_options o ss l e = go (statements_text ss.0) refl
    where
      not_start : (o : Options) (x : Leaf) → among statement_starts x ≡ true → options_goes o x ≡ false
      not_start no_options x s = or_from (among less x) (among bar x) (apart statement_starts less refl x s) (apart statement_starts bar refl x s)
      not_start (with_temporaries t) x s = apart statement_starts less refl x s
      not_start (with_primitive p) x s = apart statement_starts bar refl x s
      not_start (temporaries_first t p) x s = refl
      not_start (primitive_first p t) x s = refl

      go : (us : List Leaf) → us ≡ statements_text ss.0 → first (options_goes o) (us ++ l) ≡ false
      go [] is = e
      go (u ∷ us) is = not_start o u (statement_begins text ss.0 u us (sym is))

  module _ (n m : ℕ) (I : Inner text n m) where
    pub pattern_step_reads : (p : PatternView) → Reads keyword_name_text (λ k. with_keyword k p) (λ k. nothing) (among keywords) n m (pattern_step text p) (pattern_step text p)
    unfolding pattern_step
    pattern_step_reads p =
        renamed (both (token_reads keywords one_keyword (neutral keywords refl) n m I.fewer) (one_text {kinds = names}) (λ o k. pattern_view (p.selector ++ bytes text k) (p.arguments ++ name_at text o.leaf ∷ [])) (λ o. nothing) (among names)
        (λ k ts. token_at names ts >>= λ o. Ok (pattern_view (p.selector ++ bytes text k) (p.arguments ++ name_at text o.0 ∷ []), o.1)) (λ k ts. token_at names ts >>= λ o. Ok (pattern_view (p.selector ++ bytes text k) (p.arguments ++ name_at text o.0 ∷ []), o.1))
        (λ k. mapped (λ o. pattern_view (p.selector ++ bytes text k) (p.arguments ++ name_at text o ∷ [])) (token_reads names one_name (neutral names refl) n m I.fewer)) one_name (among keywords) (λ p q l e. first_nothing (one_text q ++ l)) (λ x ts e. inl e) (λ p x e. inl (omega arith)))
        keyword_name_text (λ k. with_keyword k p) (λ k. nothing) (λ k. record { keyword = k.0; name = k.1 }) (λ k. refl) (λ k. refl) (λ k x. refl) (λ k. (k.keyword, k.name)) (λ k. refl) (λ k. refl) (λ k x. refl)

    keyword_names_reads : (p : PatternView) → Reads keyword_names_text (λ ks. with_keywords ks p) (λ ks. among keywords) (among keywords) n m (keyword_names_at text p) (keyword_names_at text p)
    unfolding keyword_names_at
    keyword_names_reads p =
        renamed (repeated keyword_names_repeat n m I.fewer (pattern_step text) (pattern_step text) pattern_step_reads keyword_names_balanced p)
        keyword_names_text (λ ks. with_keywords ks p) (λ ks. among keywords) (λ ks. ks.0) (λ ks. refl) (λ ks. refl) (λ ks x. sym (or_false (among keywords x))) (λ ks. (ks, tt)) (λ ks. refl) (λ ks. refl) (λ ks x. or_false (among keywords x))

    unary_pattern_reads : Reads (one_text {kinds = names}) (λ o. pattern_view (bytes text o.leaf) []) (λ o. nothing) (among names) n m (unary_pattern_at text) (unary_pattern_at text)
    unfolding unary_pattern_at
    unary_pattern_reads = mapped (λ o. pattern_view (bytes text o) []) (token_reads names one_name (neutral names refl) n m I.fewer)

    binary_pattern_reads : Reads {P = One operators × One names} binary_text' (λ o. pattern_view (bytes text o.0.leaf) (name_at text o.1.leaf ∷ [])) (goes_both (λ (o : One operators). nothing) (one_text {kinds = names}) (λ o. nothing)) (among operators) n m (binary_pattern_at text) (binary_pattern_at text)
    unfolding binary_pattern_at
    binary_pattern_reads =
        both (token_reads operators one_operator (neutral operators refl) n m I.fewer) (one_text {kinds = names}) (λ k o. pattern_view (bytes text o) (name_at text k.leaf ∷ [])) (λ o. nothing) (among names)
        (λ o ts. token_at names ts >>= λ k. Ok (pattern_view (bytes text o) (name_at text k.0 ∷ []), k.1)) (λ o ts. token_at names ts >>= λ k. Ok (pattern_view (bytes text o) (name_at text k.0 ∷ []), k.1))
        (λ o. mapped (λ k. pattern_view (bytes text o) (name_at text k ∷ [])) (token_reads names one_name (neutral names refl) n m I.fewer)) one_name (among operators) (λ p q l e. first_nothing (one_text q ++ l)) (λ x ts e. inl e) (λ p x e. inl (omega arith))

    keyword_pattern_reads : Reads {P = KeywordName × List KeywordName} keyword_text' keyword_tree' (goes_both (λ (k : KeywordName). nothing) keyword_names_text (λ ks. among keywords)) (among keywords) n m (keyword_pattern_at text) (keyword_pattern_at text)
    unfolding keyword_pattern_at
    keyword_pattern_reads =
        both (pattern_step_reads (pattern_view [] [])) keyword_names_text (λ ks p. with_keywords ks p) (λ ks. among keywords) (among keywords) (keyword_names_at text) (keyword_names_at text) keyword_names_reads
        [] (among keywords) (λ p q l e. first_nothing (keyword_names_text q ++ l)) (λ x ts e. inl e) (λ p x e. inl (omega arith))

    pattern_reads : Reads pattern_text pattern_tree pattern_goes nothing n m (pattern_at text) (pattern_at text)
    unfolding pattern_at pattern_sum_goes
    pattern_reads =
        renamed (either (among names) (anyway (among names) unary_pattern_reads) (either (among operators) (anyway (among operators) binary_pattern_reads) keyword_pattern_reads nothing (λ x e. e) (λ p l. p.0.fits) not_operators (λ x e f. absurd cc)) nothing (λ x e. e) (λ p l. p.fits) not_names (λ x e f. absurd cc))
        pattern_text pattern_tree pattern_goes to_pattern pattern_text_to pattern_tree_to pattern_goes_to from_pattern pattern_text_from pattern_tree_from pattern_goes_from

    -- OPTIONS

    name_list_reads : (ns : List NameView) → Reads (ones_text {kinds = names}) (λ l. ns ++ names_of text l) (λ l. among names) (among names) n m (name_list_at text ns) (name_list_at text ns)
    unfolding name_list_at name_step
    name_list_reads ns =
        ones_reads names (λ o ks. ks ++ name_at text o.leaf ∷ []) (λ l ks. ks ++ names_of text l) (λ ks. append-nil ks) (λ o l ks. sym (append_assoc ks (name_at text o.leaf ∷ []) (names_of text l))) refl n m I.fewer
        (λ ks ts. token_at names ts >>= λ k. Ok (ks ++ name_at text k.0 ∷ [], k.1)) (λ ks. mapped (λ k. ks ++ name_at text k ∷ []) (token_reads names one_name (neutral names refl) n m I.fewer)) ns

    temporaries_reads : Reads temporaries_text (λ t. names_of text t.inside) (λ t. nothing) (among bar) n m (temporaries_at text) (temporaries_at text)
    unfolding temporaries_at
    temporaries_reads =
        renamed (both (token_reads bar (one_of Bar) (neutral bar refl) n m I.fewer) (text_both (ones_text {kinds = names}) (one_text {kinds = bar})) (λ q o. names_of text q.0) (goes_both (λ (l : List (One names)). among names) (one_text {kinds = bar}) (λ c. nothing)) nothing
        (λ o ts. name_list_at text [] ts >>= λ ns. token_at bar ns.1 >>= λ c. Ok (ns.0, c.1)) (λ o ts. name_list_at text [] ts >>= λ ns. token_at bar ns.1 >>= λ c. Ok (ns.0, c.1))
        (λ o. both (name_list_reads []) (one_text {kinds = bar}) (λ c ns. ns) (λ c. nothing) (among bar) (λ ns ts. token_at bar ts >>= λ c. Ok (ns, c.1)) (λ ns ts. token_at bar ts >>= λ c. Ok (ns, c.1))
        (λ ns. mapped (λ c. ns) (token_reads bar (one_of Bar) (neutral bar refl) n m I.fewer)) (one_of Bar) nothing (λ p q l e. apart bar names refl q.leaf q.fits) (λ x ts e. absurd cc) (λ p x e. absurd cc))
        ([], (one_of Bar)) (among bar) (λ p q l e. first_nothing (text_both (ones_text {kinds = names}) (one_text {kinds = bar}) q ++ l)) (λ x ts e. inl e) (λ p x e. inl (omega arith)))
        temporaries_text (λ t. names_of text t.inside) (λ t. nothing)
        (λ t. record { open_bar = t.0; inside = t.1.0; close_bar = t.1.1 }) (λ t. refl) (λ t. refl) (λ t x. sym (and_false (is_nil (ones_text t.1.0 ++ t.1.1.leaf ∷ [])))) (λ t. (t.open_bar, (t.inside, t.close_bar))) (λ t. refl) (λ t. refl) (λ t x. and_false (is_nil (ones_text t.inside ++ t.close_bar.leaf ∷ [])))

    primitive_reads : Reads primitive_text (primitive_number text) (λ p. nothing) (among less) n m primitive_at primitive_at
    unfolding primitive_at
    primitive_reads =
        renamed (both (token_reads less (one_of Less) (neutral less refl) n m I.fewer) (text_both (one_text {kinds = Primitive ∷ []}) (text_both (one_text {kinds = Number ∷ []}) (one_text {kinds = Greater ∷ []}))) (λ q o. number_of q.1.0.leaf.token.sort) (λ q. nothing) nothing
        (λ l ts. token_at (Primitive ∷ []) ts >>= λ k. token_at (Number ∷ []) k.1 >>= λ v. token_at (Greater ∷ []) v.1 >>= λ g. Ok (number_of v.0.token.sort, g.1)) (λ l ts. token_at (Primitive ∷ []) ts >>= λ k. token_at (Number ∷ []) k.1 >>= λ v. token_at (Greater ∷ []) v.1 >>= λ g. Ok (number_of v.0.token.sort, g.1))
        (λ l. both (token_reads (Primitive ∷ []) (one_of Primitive) (neutral (Primitive ∷ []) refl) n m I.fewer) (text_both (one_text {kinds = Number ∷ []}) (one_text {kinds = Greater ∷ []})) (λ q o. number_of q.0.leaf.token.sort) (λ q. nothing) nothing
        (λ k ts. token_at (Number ∷ []) ts >>= λ v. token_at (Greater ∷ []) v.1 >>= λ g. Ok (number_of v.0.token.sort, g.1)) (λ k ts. token_at (Number ∷ []) ts >>= λ v. token_at (Greater ∷ []) v.1 >>= λ g. Ok (number_of v.0.token.sort, g.1))
        (λ k. both (token_reads (Number ∷ []) (one_of Number) (neutral (Number ∷ []) refl) n m I.fewer) (one_text {kinds = Greater ∷ []}) (λ g v. number_of v.token.sort) (λ g. nothing) nothing
        (λ v ts. token_at (Greater ∷ []) ts >>= λ g. Ok (number_of v.token.sort, g.1)) (λ v ts. token_at (Greater ∷ []) ts >>= λ g. Ok (number_of v.token.sort, g.1))
        (λ v. mapped (λ g. number_of v.token.sort) (weaker nothing (λ x e. absurd cc) (token_reads (Greater ∷ []) (one_of Greater) (neutral (Greater ∷ []) refl) n m I.fewer))) (one_of Greater) nothing (λ p q l e. first_nothing (one_text q ++ l)) (λ x ts e. absurd cc) (λ p x e. absurd cc))
        ((one_of Number), (one_of Greater)) nothing (λ p q l e. first_nothing (text_both one_text one_text q ++ l)) (λ x ts e. absurd cc) (λ p x e. absurd cc))
        ((one_of Primitive), ((one_of Number), (one_of Greater))) (among less) (λ p q l e. first_nothing (text_both one_text (text_both one_text one_text) q ++ l)) (λ x ts e. inl e) (λ p x e. inl (omega arith)))
        primitive_text (primitive_number text) (λ p. nothing)
        (λ p. record { less = p.0; keyword = p.1.0; number = p.1.1.0; greater = p.1.1.1 }) (λ p. refl) (λ p. refl) (λ p x. refl) (λ p. (p.less, (p.keyword, (p.number, p.greater)))) (λ p. refl) (λ p. refl) (λ p x. refl)

    temporaries_first_reads : Reads {P = TemporariesFirst} first_text first_tree (goes_both (λ (t : Temporaries). nothing) maybe_primitive_text maybe_primitive_goes) (among bar) n m (temporaries_first_at text) (temporaries_first_at text)
    unfolding temporaries_first_at
    temporaries_first_reads =
        both temporaries_reads maybe_primitive_text (λ q ns. tree_either (λ p. options_view ns (Some (primitive_number text p))) (λ u. options_view ns None) q) maybe_primitive_goes nothing
        (λ ns ts. cond (first (among less) ts) (primitive_at ts >>= λ p. Ok (options_view ns (Some p.0), p.1)) (Ok (options_view ns None, ts)))
        (λ ns ts. cond (first (among less) ts) (primitive_at ts >>= λ p. Ok (options_view ns (Some p.0), p.1)) (Ok (options_view ns None, ts)))
        (λ ns. either (among less) (anyway (among less) (mapped (λ v. options_view ns (Some v)) primitive_reads)) (pure (options_view ns None) nothing n m I.fewer) nothing (λ x e. e) (λ p l. p.less.fits) (λ q x us e. absurd cc) (λ x e f. absurd cc))
        (inr tt) (among bar) (λ p q l e. first_nothing (maybe_primitive_text q ++ l)) (λ x ts e. inl e) (λ p x e. inl (omega arith))

    primitive_first_reads : Reads {P = PrimitiveFirst} second_text second_tree (goes_both (λ (p : Primitive'). nothing) maybe_temporaries_text maybe_temporaries_goes) (among less) n m (primitive_first_at text) (primitive_first_at text)
    unfolding primitive_first_at
    primitive_first_reads =
        both primitive_reads maybe_temporaries_text (λ q v. tree_either (λ t. options_view (names_of text t.inside) (Some v)) (λ u. options_view [] (Some v)) q) maybe_temporaries_goes nothing
        (λ v ts. cond (first (among bar) ts) (temporaries_at text ts >>= λ t. Ok (options_view t.0 (Some v), t.1)) (Ok (options_view [] (Some v), ts)))
        (λ v ts. cond (first (among bar) ts) (temporaries_at text ts >>= λ t. Ok (options_view t.0 (Some v), t.1)) (Ok (options_view [] (Some v), ts)))
        (λ v. either (among bar) (anyway (among bar) (mapped (λ ns. options_view ns (Some v)) temporaries_reads)) (pure (options_view [] (Some v)) nothing n m I.fewer) nothing (λ x e. e) (λ t l. t.open_bar.fits) (λ q x us e. absurd cc) (λ x e f. absurd cc))
        (inr tt) (among less) (λ p q l e. first_nothing (maybe_temporaries_text q ++ l)) (λ x ts e. inl e) (λ p x e. inl (omega arith))

    options_reads : Reads options_text options_tree options_goes nothing n m (options_at text) (options_at text)
    unfolding options_at options_sum_goes
    options_reads =
        renamed (either (among bar) (anyway (among bar) temporaries_first_reads)
        (either (among less) (anyway (among less) primitive_first_reads) (pure (options_view [] None) nothing n m I.fewer) nothing (λ x e. e) (λ p l. p.0.less.fits) (λ q x us e. absurd cc) (λ x e f. absurd cc))
        nothing (λ x e. e) (λ t l. t.0.open_bar.fits) not_bar (λ x e f. absurd cc))
        options_text options_tree options_goes to_options options_text_to options_tree_to options_goes_to from_options options_text_from options_tree_from options_goes_from

    -- METHODS

    pub method_reads : Reads {P = FitMethod} (λ p. method_text p.0) (λ p. method_tree text p.0) method_goes nothing n m (method_at text n) (method_at text m)
    unfolding method_at method_goes
    method_reads =
        renamed (both pattern_reads (text_both options_text (λ (ss : FitStatements text). statements_text ss.0))
        (λ q p. let v : MethodView = record { selector = p.selector; arguments = p.arguments; temporaries = options_temporaries text q.0; primitive = options_primitive text q.0; body = statements_tree text q.1.0 } in v) rest_goes nothing
        (λ p ts. options_at text ts >>= λ o. statements_at text (array_at text n) (bracket_at text n) o.1 >>= λ ss. Ok (record { selector = p.selector; arguments = p.arguments; temporaries = o.0.temporaries; primitive = o.0.primitive; body = ss.0 }, ss.1))
        (λ p ts. options_at text ts >>= λ o. statements_at text (array_at text m) (bracket_at text m) o.1 >>= λ ss. Ok (record { selector = p.selector; arguments = p.arguments; temporaries = o.0.temporaries; primitive = o.0.primitive; body = ss.0 }, ss.1))
        (λ p. both options_reads (λ (ss : FitStatements text). statements_text ss.0) (λ ss o. let v : MethodView = record { selector = p.selector; arguments = p.arguments; temporaries = o.temporaries; primitive = o.primitive; body = statements_tree text ss.0 } in v) (λ ss. statements_goes text ss.0) nothing
        (λ o ts. statements_at text (array_at text n) (bracket_at text n) ts >>= λ ss. Ok (record { selector = p.selector; arguments = p.arguments; temporaries = o.temporaries; primitive = o.primitive; body = ss.0 }, ss.1))
        (λ o ts. statements_at text (array_at text m) (bracket_at text m) ts >>= λ ss. Ok (record { selector = p.selector; arguments = p.arguments; temporaries = o.temporaries; primitive = o.primitive; body = ss.0 }, ss.1))
        (λ o. mapped (λ ss. let v : MethodView = record { selector = p.selector; arguments = p.arguments; temporaries = o.temporaries; primitive = o.primitive; body = ss } in v) (statements_reads text n m I)) (no_statements, tt) nothing between_options (λ x ts e. absurd cc) (λ p x e. absurd cc))
        (no_options, (no_statements, tt)) nothing between_pattern (λ x ts e. absurd cc) (λ p x e. absurd cc))
        (λ p. method_text p.0) (λ p. method_tree text p.0) method_goes
        to_method (λ p. refl) (λ p. refl) (λ p x. refl) from_method method_text_from method_tree_from (λ p x. refl)

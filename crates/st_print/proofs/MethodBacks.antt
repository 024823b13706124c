-- A method's words are read as that method.
use Rattle.std.proofs.Common.{◌≡◌, ℕ, suc, Bool, true, false, List, [], ◌∷◌, ◌++◌, length, inl, inr, refl, sym, ap, ◌∙◌, subst}
use Rattle.std.specs.Prelude.{Option, Some, None, codes, if◌then◌else◌}
use Rattle.std.specs.Str.{byte}
use Rattle.std.proofs.lemmas.List.{append-nil}
use Rattle.st_scan.specs.declared.token.Signed.{Signed}
use Rattle.st_scan.specs.Views.{NameView, StatementsView, MethodView}
use Rattle.st_scan.specs.Views as views
use Rattle.st_scan.specs.inside.Placeless.{placeless_name, placeless_names, placeless_statements, without_places}
use Rattle.st_grammar.specs.declared.leaf.Leaf.{Leaf}
use Rattle.st_grammar.specs.declared.leaf.Kind.{Kind}
use Rattle.st_grammar.specs.declared.leaf.Kind.TheVariants as kinds
use Rattle.st_grammar.specs.Leaves.{among}
use Rattle.st_grammar.specs.Phrases.{One, names, Primary, Expression, Statements, KeywordName, Pattern, Temporaries, Primitive', Options, ones_text, primary_text, expression_text, statements_text, keyword_names_text, pattern_text, temporaries_text, primitive_text, options_text, method_text}
use Rattle.st_grammar.specs.Phrases as phrases
use Rattle.st_grammar.specs.Trees.{number_of, names_of, expression_tree, statements_tree, keyword_selector, keyword_arguments, pattern_selector, pattern_arguments, primitive_number, options_temporaries, options_primitive, method_tree, ExpressionFits, StatementsFit}
use Rattle.st_grammar.specs.Faults.{IsMethodOf}
use Rattle.st_grammar.specs.inside.Formed.{AreKeywords, IsSelector, IsWellFormed}
use Rattle.st_grammar.proofs.KindSets as sets
use Rattle.st_print.specs.Words.{Word, name, keyword, operator, number, mark, bar, first_keyword, other_keywords}
use Rattle.st_print.specs.Printed.{statements_words, names_words, keyword_pattern, pattern_words, temporaries_words, primitive_words, options_words, first_signed, apart, behind_pattern, method_words}
use Rattle.st_print.proofs.Selectors.{first_of_some, no_keywords, operator_no_word}
use Rattle.st_print.proofs.Spelled.{Spells, first_of, spells_nothing, parted, inside_of, one_of, fits, keyword_fits, operator_fits, name_is}
use Rattle.st_print.proofs.Bodies.{StatementsAll, StatementsBack, statements_back, all_statements}

-- A NUMBER IN PARENTHESES

-- a number's leaf is none of other kinds
not_number : (ks : List Kind) (o : One ks) (x : Leaf) → sets.are_apart ks (kinds.Number ∷ []) ≡ true → x.kind ≡ kinds.Number → o.leaf ≡ x → ⊥
not_number ks o x e is same =
    let yes : among (kinds.Number ∷ []) o.leaf ≡ true = ap (among (kinds.Number ∷ [])) same ∙ fits (kinds.Number ∷ []) x kinds.Number is refl in
    let never : among (kinds.Number ∷ []) o.leaf ≡ false = sets.apart ks (kinds.Number ∷ []) e o.leaf o.fits in
    absurd cc

head_is : (x y : Leaf) (xs ys : List Leaf) → x ∷ xs ≡ y ∷ ys → x ≡ y
head_is x y xs ys e = cc

spread : (o k c x : Leaf) (xs ys : List Leaf) → k ∷ xs ≡ x ∷ ys → o ∷ k ∷ c ∷ xs ≡ o ∷ x ∷ c ∷ ys
spread o k c x xs ys e = cc

module _ (text : List ℕ) (o : One (kinds.Open ∷ [])) (c : One (kinds.Close ∷ [])) (x : Leaf) (is : x.kind ≡ kinds.Number) where
  -- the first leaf of an expression, before others, in parentheses
  record GroupedFirst (e : Expression) (more rest : List Leaf) : Type 0 where
    phrase : Expression
    fits : ExpressionFits text phrase
    text_is : expression_text phrase ++ more ≡ o.leaf ∷ x ∷ c.leaf ∷ rest
    tree_is : expression_tree text phrase ≡ expression_tree text e

  first_grouped : (e : Expression) (more rest : List Leaf) → ExpressionFits text e → expression_text e ++ more ≡ x ∷ rest → GroupedFirst e more rest
  first_grouped (phrases.expression [] (phrases.cascade (phrases.keyworded (phrases.binary (phrases.unary (phrases.literal (phrases.constant k)) ns) os) ks) ms)) more rest f e = record {
    phrase = phrases.expression [] (phrases.cascade (phrases.keyworded (phrases.binary (phrases.unary (phrases.group o (phrases.expression [] (phrases.cascade (phrases.keyworded (phrases.binary (phrases.unary (phrases.literal (phrases.constant k)) []) phrases.no_operations) phrases.no_parts) phrases.no_messages)) c) ns) os) ks) ms);
    fits = ((tt, tt, tt, tt, refl, tt), f.1, f.2, f.3, f.4, f.5);
    text_is = spread o.leaf k.leaf c.leaf x _ rest e;
    tree_is = refl;
  }
  first_grouped (phrases.expression [] (phrases.cascade (phrases.keyworded (phrases.binary (phrases.unary (phrases.literal (phrases.array b es d)) ns) os) ks) ms)) more rest f e = absurd (not_number _ b x refl is (head_is b.leaf x _ rest e))
  first_grouped (phrases.expression [] (phrases.cascade (phrases.keyworded (phrases.binary (phrases.unary (phrases.name b) ns) os) ks) ms)) more rest f e = absurd (not_number _ b x refl is (head_is b.leaf x _ rest e))
  first_grouped (phrases.expression [] (phrases.cascade (phrases.keyworded (phrases.binary (phrases.unary (phrases.block b l d) ns) os) ks) ms)) more rest f e = absurd (not_number _ b x refl is (head_is b.leaf x _ rest e))
  first_grouped (phrases.expression [] (phrases.cascade (phrases.keyworded (phrases.binary (phrases.unary (phrases.group b l d) ns) os) ks) ms)) more rest f e = absurd (not_number _ b x refl is (head_is b.leaf x _ rest e))
  first_grouped (phrases.expression (t ∷ ts) d) more rest f e = absurd (not_number names t.name x refl is (head_is t.name.leaf x _ rest e))

  -- the same of statements
  record GroupedStatements (ss : Statements) (rest : List Leaf) : Type 0 where
    phrase : Statements
    fits : StatementsFit text phrase
    text_is : statements_text phrase ≡ o.leaf ∷ x ∷ c.leaf ∷ rest
    tree_is : statements_tree text phrase ≡ statements_tree text ss

  statements_grouped : (ss : Statements) (rest : List Leaf) → StatementsFit text ss → statements_text ss ≡ x ∷ rest → GroupedStatements ss rest
  statements_grouped phrases.no_statements rest f e = absurd cc
  statements_grouped (phrases.last a) rest f e =
      let g = first_grouped a [] rest f (append-nil (expression_text a) ∙ e) in
      record { phrase = phrases.last g.phrase; fits = g.fits; text_is = sym (append-nil (expression_text g.phrase)) ∙ g.text_is; tree_is = ap (λ t. views.statement false t views.no_statements) g.tree_is }
  statements_grouped (phrases.next a p ss) rest f e =
      let g = first_grouped a (p.leaf ∷ statements_text ss) rest f.0 e in
      record { phrase = phrases.next g.phrase p ss; fits = (g.fits, f.1); text_is = g.text_is; tree_is = ap (λ t. views.statement false t (statements_tree text ss)) g.tree_is }
  statements_grouped (phrases.returned r a) rest f e = absurd (not_number _ r x refl is (head_is r.leaf x _ rest e))
  statements_grouped (phrases.returned_ended r a p) rest f e = absurd (not_number _ r x refl is (head_is r.leaf x _ rest e))

module _ (text : List ℕ) where
  -- STATEMENTS BEHIND A PATTERN

  module _ (ss : StatementsView) where
    number_apart : (n : Signed) (ws : List Word) (minus : Bool) → ((us : List Leaf) → Spells text us (number n ∷ ws) → StatementsBack text ss us) → (ts : List Leaf) → Spells text ts (apart (if minus then Some n else None) (number n ∷ ws)) → StatementsBack text ss ts
    number_apart n ws false back ts s = back ts s
    number_apart n ws true back ts s =
        let f = first_of text ts (mark (byte "(")) (number n ∷ mark (byte ")") ∷ ws) s in
        let x = first_of text f.others (number n) (mark (byte ")") ∷ ws) f.rest in
        let c = first_of text x.others (mark (byte ")")) ws x.rest in
        let b = back (x.leaf ∷ c.others) (x.is, c.rest) in
        let g = statements_grouped text (one_of text (kinds.Open ∷ []) kinds.Open f.leaf f.is.kind_is refl) (one_of text (kinds.Close ∷ []) kinds.Close c.leaf c.is.kind_is refl) x.leaf x.is.kind_is b.phrase c.others b.fits b.text_is in
        record {
          phrase = g.phrase;
          fits = g.fits;
          text_is = g.text_is ∙ ap (λ (l : List Leaf). f.leaf ∷ x.leaf ∷ l) c.parts ∙ ap (λ (l : List Leaf). f.leaf ∷ l) x.parts ∙ f.parts;
          tree_is = ap placeless_statements g.tree_is ∙ b.tree_is;
        }

    apart_back : (ws : List Word) → ((us : List Leaf) → Spells text us ws → StatementsBack text ss us) → (ts : List Leaf) → Spells text ts (apart (first_signed ws) ws) → StatementsBack text ss ts
    apart_back [] back ts s = back ts s
    apart_back (number n ∷ ws) back ts s = number_apart n ws n.minus back ts s
    apart_back (w ∷ ws) back ts s = back ts s

  -- PATTERNS

  record PatternBack (sel : List ℕ) (ns : List NameView) (ts : List Leaf) : Type 0 where
    phrase : Pattern
    text_is : pattern_text phrase ≡ ts
    selector_is : pattern_selector text phrase ≡ sel
    arguments_are : placeless_names (pattern_arguments text phrase) ≡ placeless_names ns

  record KeywordNames (sel : List ℕ) (n : NameView) (ns : List NameView) (ts : List Leaf) : Type 0 where
    first : KeywordName
    others : List KeywordName
    text_is : keyword_names_text (first ∷ others) ≡ ts
    selector_is : keyword_selector text (first ∷ others) ≡ sel
    arguments_are : placeless_names (keyword_arguments text (first ∷ others)) ≡ placeless_names (n ∷ ns)

  keyword_names_back : (sel : List ℕ) (n : NameView) (ns : List NameView) → AreKeywords sel (suc (length ns)) → (ts : List Leaf) → Spells text ts (keyword_pattern sel (n ∷ ns)) → KeywordNames sel n ns ts
  keyword_names_back sel n [] k ts s =
      let first = first_of_some sel 0 k in
      let f = first_of text ts (keyword (first_keyword sel)) (name n.text ∷ []) s in
      let x = first_of text f.others (name n.text) [] f.rest in
      record {
        first = record { keyword = record { leaf = f.leaf; fits = keyword_fits text (first_keyword sel) f.leaf f.is }; name = one_of text names kinds.Name x.leaf x.is.kind_is refl };
        others = [];
        text_is = ap (λ (l : List Leaf). f.leaf ∷ x.leaf ∷ l) (spells_nothing text x.others x.rest) ∙ ap (λ (l : List Leaf). f.leaf ∷ l) x.parts ∙ f.parts;
        selector_is = ap (λ (l : List ℕ). l ++ []) f.is.bytes_are ∙ ap (λ (l : List ℕ). first_keyword sel ++ l) (sym (no_keywords (other_keywords sel) first.others)) ∙ first.whole;
        arguments_are = ap (λ (v : NameView). v ∷ []) (name_is text n x.leaf x.is);
      }
  keyword_names_back sel n (m ∷ ns) k ts s =
      let first = first_of_some sel (suc (length ns)) k in
      let f = first_of text ts (keyword (first_keyword sel)) (name n.text ∷ keyword_pattern (other_keywords sel) (m ∷ ns)) s in
      let x = first_of text f.others (name n.text) (keyword_pattern (other_keywords sel) (m ∷ ns)) f.rest in
      let more = keyword_names_back (other_keywords sel) m ns first.others x.others x.rest in
      record {
        first = record { keyword = record { leaf = f.leaf; fits = keyword_fits text (first_keyword sel) f.leaf f.is }; name = one_of text names kinds.Name x.leaf x.is.kind_is refl };
        others = more.first ∷ more.others;
        text_is = ap (λ (l : List Leaf). f.leaf ∷ x.leaf ∷ l) more.text_is ∙ ap (λ (l : List Leaf). f.leaf ∷ l) x.parts ∙ f.parts;
        selector_is = ap (λ (l : List ℕ). l ++ keyword_selector text (more.first ∷ more.others)) f.is.bytes_are ∙ ap (λ (l : List ℕ). first_keyword sel ++ l) more.selector_is ∙ first.whole;
        arguments_are = ap (λ (v : NameView). v ∷ placeless_names (keyword_arguments text (more.first ∷ more.others))) (name_is text n x.leaf x.is) ∙ ap (λ (l : List NameView). placeless_name n ∷ l) more.arguments_are;
      }

  no_names : (ns : List NameView) → length ns ≡ 0 → [] ≡ ns
  no_names [] e = refl
  no_names (n ∷ ns) e = absurd cc

  pattern_back : (sel : List ℕ) (ns : List NameView) → IsSelector sel (length ns) → (ts : List Leaf) → Spells text ts (pattern_words sel ns) → PatternBack sel ns ts
  pattern_back sel [] k ts s =
      let f = first_of text ts (name sel) [] s in
      record {
        phrase = phrases.unary_pattern (one_of text names kinds.Name f.leaf f.is.kind_is refl);
        text_is = ap (λ (l : List Leaf). f.leaf ∷ l) (spells_nothing text f.others f.rest) ∙ f.parts;
        selector_is = f.is.bytes_are;
        arguments_are = refl;
      }
  pattern_back sel (n ∷ ns) (inl k) ts s =
      let words : pattern_words sel (n ∷ ns) ≡ operator sel ∷ name n.text ∷ [] = rw (operator_no_word sel k.0) refl in
      let f = first_of text ts (operator sel) (name n.text ∷ []) (subst (Spells text ts) words s) in
      let x = first_of text f.others (name n.text) [] f.rest in
      record {
        phrase = phrases.binary_pattern (record { leaf = f.leaf; fits = operator_fits text sel f.leaf f.is }) (one_of text names kinds.Name x.leaf x.is.kind_is refl);
        text_is = ap (λ (l : List Leaf). f.leaf ∷ x.leaf ∷ l) (spells_nothing text x.others x.rest) ∙ ap (λ (l : List Leaf). f.leaf ∷ l) x.parts ∙ f.parts;
        selector_is = f.is.bytes_are;
        arguments_are = ap (λ (v : NameView). v ∷ []) (name_is text n x.leaf x.is) ∙ ap (λ (l : List NameView). placeless_name n ∷ placeless_names l) (no_names ns k.1);
      }
  pattern_back sel (n ∷ ns) (inr k) ts s =
      let words : pattern_words sel (n ∷ ns) ≡ keyword_pattern sel (n ∷ ns) = rw (first_of_some sel (length ns) k).begins refl in
      let b = keyword_names_back sel n ns k ts (subst (Spells text ts) words s) in
      record { phrase = phrases.keyword_pattern b.first b.others; text_is = b.text_is; selector_is = b.selector_is; arguments_are = b.arguments_are }

  -- OPTIONS

  record NamesBack (ns : List NameView) (ts : List Leaf) : Type 0 where
    phrase : List (One names)
    text_is : ones_text phrase ≡ ts
    names_are : placeless_names (names_of text phrase) ≡ placeless_names ns

  names_back : (ns : List NameView) (ts : List Leaf) → Spells text ts (names_words ns) → NamesBack ns ts
  names_back [] ts s = record { phrase = []; text_is = spells_nothing text ts s; names_are = refl }
  names_back (n ∷ ns) ts s =
      let f = first_of text ts (name n.text) (names_words ns) s in
      let more = names_back ns f.others f.rest in
      record {
        phrase = one_of text names kinds.Name f.leaf f.is.kind_is refl ∷ more.phrase;
        text_is = ap (λ (l : List Leaf). f.leaf ∷ l) more.text_is ∙ f.parts;
        names_are = ap (λ (v : NameView). v ∷ placeless_names (names_of text more.phrase)) (name_is text n f.leaf f.is) ∙ ap (λ (l : List NameView). placeless_name n ∷ l) more.names_are;
      }

  record TemporariesBack (ns : List NameView) (ts : List Leaf) : Type 0 where
    phrase : Temporaries
    text_is : temporaries_text phrase ≡ ts
    names_are : placeless_names (names_of text phrase.inside) ≡ placeless_names ns

  temporaries_back : (ns : List NameView) (ts : List Leaf) → Spells text ts (bar ∷ (names_words ns ++ bar ∷ [])) → TemporariesBack ns ts
  temporaries_back ns ts s =
      let i = inside_of text bar (names_words ns) bar ts s in
      let b = names_back ns i.inside i.spells in
      record {
        phrase = record { open_bar = one_of text (kinds.Bar ∷ []) kinds.Bar i.open_leaf i.opens.kind_is refl; inside = b.phrase; close_bar = one_of text (kinds.Bar ∷ []) kinds.Bar i.close_leaf i.closes.kind_is refl };
        text_is = ap (λ (l : List Leaf). i.open_leaf ∷ (l ++ i.close_leaf ∷ [])) b.text_is ∙ i.parts;
        names_are = b.names_are;
      }

  record PrimitiveBack (n : Signed) (ts : List Leaf) : Type 0 where
    phrase : Primitive'
    text_is : primitive_text phrase ≡ ts
    number_is : primitive_number text phrase ≡ n

  primitive_back : (n : Signed) (ts : List Leaf) → Spells text ts (primitive_words (Some n)) → PrimitiveBack n ts
  primitive_back n ts s =
      let a = first_of text ts (operator (codes "<")) (keyword (codes "primitive:") ∷ number n ∷ operator (codes ">") ∷ []) s in
      let b = first_of text a.others (keyword (codes "primitive:")) (number n ∷ operator (codes ">") ∷ []) a.rest in
      let c = first_of text b.others (number n) (operator (codes ">") ∷ []) b.rest in
      let d = first_of text c.others (operator (codes ">")) [] c.rest in
      record {
        phrase = record {
          less = one_of text (kinds.Less ∷ []) kinds.Less a.leaf a.is.kind_is refl;
          keyword = one_of text (kinds.Primitive ∷ []) kinds.Primitive b.leaf b.is.kind_is refl;
          number = one_of text (kinds.Number ∷ []) kinds.Number c.leaf c.is.kind_is refl;
          greater = one_of text (kinds.Greater ∷ []) kinds.Greater d.leaf d.is.kind_is refl;
        };
        text_is = ap (λ (l : List Leaf). a.leaf ∷ b.leaf ∷ c.leaf ∷ d.leaf ∷ l) (spells_nothing text d.others d.rest)
            ∙ ap (λ (l : List Leaf). a.leaf ∷ b.leaf ∷ c.leaf ∷ l) d.parts
            ∙ ap (λ (l : List Leaf). a.leaf ∷ b.leaf ∷ l) c.parts
            ∙ ap (λ (l : List Leaf). a.leaf ∷ l) b.parts
            ∙ a.parts;
        number_is = ap number_of c.is.sort_is;
      }

  record OptionsBack (ns : List NameView) (p : Option Signed) (ts : List Leaf) : Type 0 where
    phrase : Options
    text_is : options_text phrase ≡ ts
    names_are : placeless_names (options_temporaries text phrase) ≡ placeless_names ns
    primitive_is : options_primitive text phrase ≡ p

  options_back : (ns : List NameView) (p : Option Signed) (ts : List Leaf) → Spells text ts (options_words ns p) → OptionsBack ns p ts
  options_back [] None ts s = record { phrase = phrases.no_options; text_is = spells_nothing text ts s; names_are = refl; primitive_is = refl }
  options_back [] (Some n) ts s =
      let b = primitive_back n ts s in
      record { phrase = phrases.with_primitive b.phrase; text_is = b.text_is; names_are = refl; primitive_is = ap (λ (k : Signed). Some k) b.number_is }
  options_back (n ∷ ns) None ts s =
      let b = temporaries_back (n ∷ ns) ts (subst (Spells text ts) (append-nil (temporaries_words (n ∷ ns))) s) in
      record { phrase = phrases.with_temporaries b.phrase; text_is = b.text_is; names_are = b.names_are; primitive_is = refl }
  options_back (n ∷ ns) (Some k) ts s =
      let p = parted text (temporaries_words (n ∷ ns)) (primitive_words (Some k)) ts s in
      let b = temporaries_back (n ∷ ns) p.front p.first in
      let c = primitive_back k p.back p.second in
      record {
        phrase = phrases.temporaries_first b.phrase c.phrase;
        text_is = ap (λ (l : List Leaf). l ++ primitive_text c.phrase) b.text_is ∙ ap (λ (l : List Leaf). p.front ++ l) c.text_is ∙ p.parts;
        names_are = b.names_are;
        primitive_is = ap (λ (v : Signed). Some v) c.number_is;
      }

  -- METHODS

  record RestBack (ns : List NameView) (p : Option Signed) (ss : StatementsView) (ts : List Leaf) : Type 0 where
    front : List Leaf
    back : List Leaf
    parts : front ++ back ≡ ts
    options : OptionsBack ns p front
    body : StatementsBack text ss back

  rest_behind : (ns : List NameView) (p : Option Signed) (ss : StatementsView) → StatementsAll text ss → (ts : List Leaf) → Spells text ts (options_words ns p ++ statements_words ss) → RestBack ns p ss ts
  rest_behind ns p ss all ts s =
      let q = parted text (options_words ns p) (statements_words ss) ts s in
      record { front = q.front; back = q.back; parts = q.parts; options = options_back ns p q.front q.first; body = statements_back text ss all q.back q.second }

  rest_back : (ns : List NameView) (p : Option Signed) (ss : StatementsView) → StatementsAll text ss → (ts : List Leaf) → Spells text ts (behind_pattern (options_words ns p) (statements_words ss)) → RestBack ns p ss ts
  rest_back [] None ss all ts s = record { front = []; back = ts; parts = refl; options = options_back [] None [] tt; body = apart_back ss (statements_words ss) (statements_back text ss all) ts s }
  rest_back [] (Some n) ss all ts s = rest_behind [] (Some n) ss all ts s
  rest_back (n ∷ ns) p ss all ts s = rest_behind (n ∷ ns) p ss all ts s

  -- leaves of a tree's words are those of a method with that tree, places aside
  pub record MethodBack (t : MethodView) (ts : List Leaf) : Type 0 where
    pub tree : MethodView
    pub is : IsMethodOf text ts tree
    pub same : without_places tree ≡ without_places t

  module _ (t : MethodView) (ts : List Leaf) where
    method_from : (front back : List Leaf) → front ++ back ≡ ts → PatternBack t.selector t.arguments front → RestBack t.temporaries t.primitive t.body back → MethodBack t ts
    method_from front back parts p r =
        let m = phrases.method p.phrase r.options.phrase r.body.phrase in
        record {
          tree = method_tree text m;
          is = (
            m,
            r.body.fits,
            ap (λ (l : List Leaf). l ++ (options_text r.options.phrase ++ statements_text r.body.phrase)) p.text_is
                ∙ ap (λ (l : List Leaf). front ++ (l ++ statements_text r.body.phrase)) r.options.text_is
                ∙ ap (λ (l : List Leaf). front ++ (r.front ++ l)) r.body.text_is
                ∙ ap (λ (l : List Leaf). front ++ l) r.parts
                ∙ parts,
            refl,
          );
          same =
              ap (λ (v : List ℕ). record { selector = v; arguments = placeless_names (pattern_arguments text p.phrase); temporaries = placeless_names (options_temporaries text r.options.phrase); primitive = options_primitive text r.options.phrase; body = placeless_statements (statements_tree text r.body.phrase) }) p.selector_is
              ∙ ap (λ (v : List NameView). record { selector = t.selector; arguments = v; temporaries = placeless_names (options_temporaries text r.options.phrase); primitive = options_primitive text r.options.phrase; body = placeless_statements (statements_tree text r.body.phrase) }) p.arguments_are
              ∙ ap (λ (v : List NameView). record { selector = t.selector; arguments = placeless_names t.arguments; temporaries = v; primitive = options_primitive text r.options.phrase; body = placeless_statements (statements_tree text r.body.phrase) }) r.options.names_are
              ∙ ap (λ (v : Option Signed). record { selector = t.selector; arguments = placeless_names t.arguments; temporaries = placeless_names t.temporaries; primitive = v; body = placeless_statements (statements_tree text r.body.phrase) }) r.options.primitive_is
              ∙ ap (λ (v : StatementsView). record { selector = t.selector; arguments = placeless_names t.arguments; temporaries = placeless_names t.temporaries; primitive = t.primitive; body = v }) r.body.tree_is;
        }

    pub method_back : IsWellFormed t → Spells text ts (method_words t) → MethodBack t ts
    method_back f s =
        let q = parted text (pattern_words t.selector t.arguments) (behind_pattern (options_words t.temporaries t.primitive) (statements_words t.body)) ts s in
        method_from q.front q.back q.parts (pattern_back t.selector t.arguments f.selector q.front q.first)
        (rest_back t.temporaries t.primitive t.body (all_statements text t.body f.body) q.back q.second)

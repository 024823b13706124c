-- Statements' and methods' words are read as those statements and methods.
use Rattle.std.proofs.Common.{◌≡◌, ℕ, Bool, true, false, List, [], ◌∷◌, ◌++◌, refl, sym, ap, ◌∙◌, subst, append_assoc}
use Rattle.std.specs.Prelude.{IsFalse}
use Rattle.std.specs.Str.{byte}
use Rattle.std.proofs.lemmas.List.{append-nil}
use Rattle.st_scan.specs.Views.{NameView, ContentView, ExpressionView, StatementsView, MessagesView, ExpressionsView, MethodView, is_super}
use Rattle.st_scan.specs.Views as views
use Rattle.st_scan.specs.inside.Placeless.{placeless_name, placeless_names, placeless, placeless_statements}
use Rattle.st_grammar.specs.declared.leaf.Leaf.{Leaf}
use Rattle.st_grammar.specs.declared.leaf.Kind.TheVariants as kinds
use Rattle.st_grammar.specs.Phrases.{One, names, Parameter, Primary, Block, Expression, Statements, KeywordName, Pattern, Temporaries, Primitive', Options, Method, ones_text, parameters_text, literal_text, block_text, primary_text, unary_text, expression_text, statements_text, keyword_names_text, pattern_text, temporaries_text, primitive_text, options_text, method_text}
use Rattle.st_grammar.specs.Phrases as phrases
use Rattle.st_grammar.specs.Trees.{parameters_tree, block_tree, statements_tree, BlockFits, StatementsFit}
use Rattle.st_grammar.specs.inside.Formed.{MayFollow, ReceiverFormed, StatementsFormed, MessagesFormed, ArgumentsFormed}
use Rattle.st_print.specs.Words.{name, mark, bar}
use Rattle.st_print.specs.Printed.{parameter_words, parameters_words, expression_words, statements_words}
use Rattle.st_print.proofs.Spelled.{Spells, first_of, spells_nothing, parted, inside_of, one_of, name_is}
use Rattle.st_print.proofs.LiteralBacks.{LiteralBack, literal_back}
use Rattle.st_print.proofs.Backs.{UnaryBack, Back, from_unary, from_any, assigned_back}
use Rattle.st_print.proofs.Sends.{ArgumentsBack, MessagesAll, sends_back}

module _ (text : List ℕ) where
  -- each statement is read back, and nothing follows what is returned
  abbrev pub StatementsAll : StatementsView → Type 0
  StatementsAll views.no_statements = Unit {0}
  StatementsAll (views.statement returns e ss) = Back text e × IsFalse (is_super e) × MayFollow returns ss × StatementsAll ss

  pub record StatementsBack (ss : StatementsView) (ts : List Leaf) : Type 0 where
    pub phrase : Statements
    pub fits : StatementsFit text phrase
    pub text_is : statements_text phrase ≡ ts
    pub tree_is : placeless_statements (statements_tree text phrase) ≡ placeless_statements ss

  returned_back : (e : ExpressionView) → Back text e → IsFalse (is_super e) → (ts : List Leaf) → Spells text ts (mark (byte "^") ∷ (expression_words e ++ [])) → StatementsBack (views.statement true e views.no_statements) ts
  returned_back e back plain ts s =
      let f = first_of text ts (mark (byte "^")) (expression_words e ++ []) s in
      let a = back.any plain f.others (subst (Spells text f.others) (append-nil (expression_words e)) f.rest) in
      record {
        phrase = phrases.returned (one_of text (kinds.Return ∷ []) kinds.Return f.leaf f.is.kind_is refl) a.phrase;
        fits = a.fits;
        text_is = ap (λ (l : List Leaf). f.leaf ∷ l) a.text_is ∙ f.parts;
        tree_is = ap (λ (t : ExpressionView). views.statement true t views.no_statements) a.tree_is;
      }

  last_back : (e : ExpressionView) → Back text e → IsFalse (is_super e) → (ts : List Leaf) → Spells text ts (expression_words e ++ []) → StatementsBack (views.statement false e views.no_statements) ts
  last_back e back plain ts s =
      let a = back.any plain ts (subst (Spells text ts) (append-nil (expression_words e)) s) in
      record { phrase = phrases.last a.phrase; fits = a.fits; text_is = a.text_is; tree_is = ap (λ (t : ExpressionView). views.statement false t views.no_statements) a.tree_is }

  next_back : (e : ExpressionView) → Back text e → IsFalse (is_super e) → (ss : StatementsView) → ((us : List Leaf) → Spells text us (statements_words ss) → StatementsBack ss us)
      → (ts : List Leaf) → Spells text ts (expression_words e ++ mark (byte ".") ∷ statements_words ss) → StatementsBack (views.statement false e ss) ts
  next_back e back plain ss others ts s =
      let p = parted text (expression_words e) (mark (byte ".") ∷ statements_words ss) ts s in
      let f = first_of text p.back (mark (byte ".")) (statements_words ss) p.second in
      let a = back.any plain p.front p.first in
      let more = others f.others f.rest in
      record {
        phrase = phrases.next a.phrase (one_of text (kinds.Period ∷ []) kinds.Period f.leaf f.is.kind_is refl) more.phrase;
        fits = (a.fits, more.fits);
        text_is = ap (λ (l : List Leaf). l ++ f.leaf ∷ statements_text more.phrase) a.text_is ∙ ap (λ (l : List Leaf). p.front ++ f.leaf ∷ l) more.text_is ∙ ap (λ (l : List Leaf). p.front ++ l) f.parts ∙ p.parts;
        tree_is = ap (λ (t : ExpressionView). views.statement false t (placeless_statements (statements_tree text more.phrase))) a.tree_is ∙ ap (λ (l : StatementsView). views.statement false (placeless e) l) more.tree_is;
      }

  first_statement : (returns : Bool) (e : ExpressionView) (ss : StatementsView) → Back text e → IsFalse (is_super e) → MayFollow returns ss → ((us : List Leaf) → Spells text us (statements_words ss) → StatementsBack ss us)
      → (ts : List Leaf) → Spells text ts (statements_words (views.statement returns e ss)) → StatementsBack (views.statement returns e ss) ts
  first_statement true e views.no_statements back plain may others ts s = returned_back e back plain ts s
  first_statement true e (views.statement r x ss) back plain may others ts s = absurd may
  first_statement false e views.no_statements back plain may others ts s = last_back e back plain ts s
  first_statement false e (views.statement r x ss) back plain may others ts s = next_back e back plain (views.statement r x ss) others ts s

  pub statements_back : (ss : StatementsView) → StatementsAll ss → (ts : List Leaf) → Spells text ts (statements_words ss) → StatementsBack ss ts
  statements_back views.no_statements all ts s = record { phrase = phrases.no_statements; fits = tt; text_is = spells_nothing text ts s; tree_is = refl }
  statements_back (views.statement returns e ss) all ts s = first_statement returns e ss all.0 all.1 all.2 (λ us t. statements_back ss all.3 us t) ts s

  -- BLOCKS

  record ParametersBack (n : NameView) (ns : List NameView) (ts : List Leaf) : Type 0 where
    first : Parameter
    others : List Parameter
    text_is : parameters_text (first ∷ others) ≡ ts
    tree_is : placeless_names (parameters_tree text (first ∷ others)) ≡ placeless_names (n ∷ ns)

  parameters_back : (n : NameView) (ns : List NameView) (ts : List Leaf) → Spells text ts (parameter_words (n ∷ ns)) → ParametersBack n ns ts
  parameters_back n [] ts s =
      let c = first_of text ts (mark (byte ":")) (name n.text ∷ []) s in
      let x = first_of text c.others (name n.text) [] c.rest in
      record {
        first = record { colon = one_of text (kinds.Colon ∷ []) kinds.Colon c.leaf c.is.kind_is refl; name = one_of text names kinds.Name x.leaf x.is.kind_is refl };
        others = [];
        text_is = ap (λ (l : List Leaf). c.leaf ∷ x.leaf ∷ l) (spells_nothing text x.others x.rest) ∙ ap (λ (l : List Leaf). c.leaf ∷ l) x.parts ∙ c.parts;
        tree_is = ap (λ (v : NameView). v ∷ []) (name_is text n x.leaf x.is);
      }
  parameters_back n (m ∷ ns) ts s =
      let c = first_of text ts (mark (byte ":")) (name n.text ∷ parameter_words (m ∷ ns)) s in
      let x = first_of text c.others (name n.text) (parameter_words (m ∷ ns)) c.rest in
      let more = parameters_back m ns x.others x.rest in
      record {
        first = record { colon = one_of text (kinds.Colon ∷ []) kinds.Colon c.leaf c.is.kind_is refl; name = one_of text names kinds.Name x.leaf x.is.kind_is refl };
        others = more.first ∷ more.others;
        text_is = ap (λ (l : List Leaf). c.leaf ∷ x.leaf ∷ l) more.text_is ∙ ap (λ (l : List Leaf). c.leaf ∷ l) x.parts ∙ c.parts;
        tree_is = ap (λ (v : NameView). v ∷ placeless_names (parameters_tree text (more.first ∷ more.others))) (name_is text n x.leaf x.is) ∙ ap (λ (l : List NameView). placeless_name n ∷ l) more.tree_is;
      }

  record BlockBack (ns : List NameView) (body : StatementsView) (ts : List Leaf) : Type 0 where
    phrase : Block
    fits : BlockFits text phrase
    text_is : block_text phrase ≡ ts
    tree_is : placeless (block_tree text phrase) ≡ placeless (views.block ns body)

  inside_block : (ns : List NameView) (body : StatementsView) → StatementsAll body → (ts : List Leaf) → Spells text ts (parameters_words ns ++ statements_words body) → BlockBack ns body ts
  inside_block [] body all ts s =
      let b = statements_back body all ts s in
      record { phrase = phrases.plain_block b.phrase; fits = b.fits; text_is = b.text_is; tree_is = ap (λ (l : StatementsView). views.block [] l) b.tree_is }
  inside_block (n ∷ ns) body all ts s =
      let p = parted text (parameter_words (n ∷ ns)) (bar ∷ statements_words body) ts (subst (Spells text ts) (append_assoc (parameter_words (n ∷ ns)) (bar ∷ []) (statements_words body)) s) in
      let f = first_of text p.back bar (statements_words body) p.second in
      let ps = parameters_back n ns p.front p.first in
      let b = statements_back body all f.others f.rest in
      record {
        phrase = phrases.full_block ps.first ps.others (one_of text (kinds.Bar ∷ []) kinds.Bar f.leaf f.is.kind_is refl) b.phrase;
        fits = b.fits;
        text_is = ap (λ (l : List Leaf). l ++ f.leaf ∷ statements_text b.phrase) ps.text_is ∙ ap (λ (l : List Leaf). p.front ++ f.leaf ∷ l) b.text_is ∙ ap (λ (l : List Leaf). p.front ++ l) f.parts ∙ p.parts;
        tree_is = ap (λ (l : List NameView). views.block l (placeless_statements (statements_tree text b.phrase))) ps.tree_is ∙ ap (λ (l : StatementsView). views.block (placeless_names (n ∷ ns)) l) b.tree_is;
      }

  block_unary : (ns : List NameView) (body : StatementsView) → StatementsAll body → (ts : List Leaf) → Spells text ts (expression_words (views.block ns body)) → UnaryBack text (views.block ns body) ts
  block_unary ns body all ts s =
      let words : mark (byte "[") ∷ ((parameters_words ns ++ statements_words body) ++ mark (byte "]") ∷ []) ≡ expression_words (views.block ns body) = ap (λ ws. mark (byte "[") ∷ ws) (append_assoc (parameters_words ns) (statements_words body) (mark (byte "]") ∷ [])) in
      let i = inside_of text (mark (byte "[")) (parameters_words ns ++ statements_words body) (mark (byte "]")) ts (subst (Spells text ts) (sym words) s) in
      let b = inside_block ns body all i.inside i.spells in
      record {
        primary = phrases.block (one_of text (kinds.OpenBlock ∷ []) kinds.OpenBlock i.open_leaf i.opens.kind_is refl) b.phrase (one_of text (kinds.CloseBlock ∷ []) kinds.CloseBlock i.close_leaf i.closes.kind_is refl);
        names = [];
        fits = b.fits;
        text_is = append-nil (i.open_leaf ∷ (block_text b.phrase ++ i.close_leaf ∷ [])) ∙ ap (λ (l : List Leaf). i.open_leaf ∷ (l ++ i.close_leaf ∷ [])) b.text_is ∙ i.parts;
        tree_is = b.tree_is;
      }

  -- EXPRESSIONS

  variable_unary : (n : NameView) (ts : List Leaf) → Spells text ts (name n.text ∷ []) → UnaryBack text (views.variable n) ts
  variable_unary n ts s =
      let f = first_of text ts (name n.text) [] s in
      record {
        primary = phrases.name (one_of text names kinds.Name f.leaf f.is.kind_is refl);
        names = [];
        fits = tt;
        text_is = ap (λ (l : List Leaf). f.leaf ∷ l) (spells_nothing text f.others f.rest) ∙ f.parts;
        tree_is = ap (λ (v : NameView). views.variable v) (name_is text n f.leaf f.is);
      }

  literal_unary : (e : views.ElementView) (ts : List Leaf) → LiteralBack text e.what ts → UnaryBack text (views.literal e) ts
  literal_unary e ts l = record {
    primary = phrases.literal l.phrase;
    names = [];
    fits = tt;
    text_is = append-nil (literal_text l.phrase) ∙ l.text_is;
    tree_is = ap (λ (c : ContentView). views.literal (record { place = 0; what = c })) l.tree_is;
  }

  mutual
    back : (e : ExpressionView) → ReceiverFormed e → Back text e
    back (views.variable n) f = from_unary text (views.variable n) refl (variable_unary n)
    back (views.literal e) f = from_unary text (views.literal e) refl (λ ts s. literal_unary e ts (literal_back text e.what f ts s))
    back (views.block ns body) f = from_unary text (views.block ns body) refl (block_unary ns body (all_statements body f.1))
    back (views.assign target e) f = from_any text (views.assign target e) refl (assigned_back text target e f.2 (back e f.1))
    back (views.send receiver ms) f = sends_back text receiver (back receiver f.0) ms f.1 (all_messages ms f.2)

    pub all_statements : (ss : StatementsView) → StatementsFormed ss → StatementsAll ss
    all_statements views.no_statements f = tt
    all_statements (views.statement returns e ss) f = (back e f.0, f.1, f.2, all_statements ss f.3)

    all_messages : (ms : MessagesView) → MessagesFormed ms → MessagesAll text ms
    all_messages views.no_messages f = tt
    all_messages (views.message s es ms) f = (f.0, all_arguments es f.1, all_messages ms f.2)

    all_arguments : (es : ExpressionsView) → ArgumentsFormed es → ArgumentsBack text es
    all_arguments views.no_expressions f = tt
    all_arguments (views.expression e es) f = (back e f.0, f.1, all_arguments es f.2)

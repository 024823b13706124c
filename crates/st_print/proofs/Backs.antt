-- An expression's words are read as that expression, at each rank that may be wanted of it.
use Rattle.std.proofs.Common.{◌≡◌, ℕ, false, List, [], ◌∷◌, ◌++◌, refl, ap, ◌∙◌, subst}
use Rattle.std.specs.Prelude.{IsFalse}
use Rattle.std.specs.Str.{byte}
use Rattle.std.proofs.lemmas.List.{append-nil}
use Rattle.st_scan.specs.Views.{NameView, ExpressionView, StatementsView, MessagesView, ExpressionsView, is_super}
use Rattle.st_scan.specs.Views as views
use Rattle.st_scan.specs.inside.Placeless.{placeless_name, placeless}
use Rattle.st_grammar.specs.declared.leaf.Leaf.{Leaf}
use Rattle.st_grammar.specs.declared.leaf.Kind.TheVariants as kinds
use Rattle.st_grammar.specs.Phrases.{One, names, Primary, Operations, Parts, Expression, Target, unary_text, binary_text, primary_text, expression_text, ones_text, operations_text}
use Rattle.st_grammar.specs.Phrases as phrases
use Rattle.st_grammar.specs.Trees.{unary_tree, binary_tree, expression_tree, PrimaryFits, OperationsFit, ExpressionFits}
use Rattle.st_print.specs.declared.rank.Rank.{Rank}
use Rattle.st_print.specs.declared.rank.Rank.TheVariants.{Unary, Binary, Any}
use Rattle.st_print.specs.Words.{name, mark, grouped, wrapped}
use Rattle.st_print.specs.Printed.{is_loose, rank_of, expression_words, placed}
use Rattle.st_print.proofs.Spelled.{Spells, first_of, Inside, inside_of, one_of, name_is}
use Rattle.st_print.proofs.Trees.{super_same, with_target, with_target-text, with_target-tree, with_target-fits}

module _ (text : List ℕ) where
  -- leaves are a unary expression of a tree; also `super` alone
  pub record UnaryBack (t : ExpressionView) (ts : List Leaf) : Type 0 where
    pub primary : Primary
    pub names : List (One names)
    pub fits : PrimaryFits text primary
    pub text_is : unary_text (phrases.unary primary names) ≡ ts
    pub tree_is : placeless (unary_tree text (phrases.unary primary names)) ≡ placeless t

  -- a binary expression; also `super` alone
  pub record BinaryBack (t : ExpressionView) (ts : List Leaf) : Type 0 where
    pub primary : Primary
    pub names : List (One names)
    pub operations : Operations
    pub fits : PrimaryFits text primary
    pub operations_fit : OperationsFit text operations
    pub text_is : binary_text (phrases.binary (phrases.unary primary names) operations) ≡ ts
    pub tree_is : placeless (binary_tree text (phrases.binary (phrases.unary primary names) operations)) ≡ placeless t

  -- an expression
  pub record AnyBack (t : ExpressionView) (ts : List Leaf) : Type 0 where
    pub phrase : Expression
    pub fits : ExpressionFits text phrase
    pub text_is : expression_text phrase ≡ ts
    pub tree_is : placeless (expression_tree text phrase) ≡ placeless t

  -- where one of a rank is wanted, an expression's words are read as one
  pub record Back (e : ExpressionView) : Type 0 where
    pub unary : (ts : List Leaf) → Spells text ts (placed Unary e) → UnaryBack e ts
    pub binary : (ts : List Leaf) → Spells text ts (placed Binary e) → BinaryBack e ts
    pub any : IsFalse (is_super e) → (ts : List Leaf) → Spells text ts (expression_words e) → AnyBack e ts

  pub unary_binary : (t : ExpressionView) (ts : List Leaf) → UnaryBack t ts → BinaryBack t ts
  unary_binary t ts u = record {
    primary = u.primary;
    names = u.names;
    operations = phrases.no_operations;
    fits = u.fits;
    operations_fit = tt;
    text_is = append-nil (unary_text (phrases.unary u.primary u.names)) ∙ u.text_is;
    tree_is = u.tree_is;
  }

  pub binary_any : (t : ExpressionView) (ts : List Leaf) → is_super t ≡ false → BinaryBack t ts → AnyBack t ts
  binary_any t ts other b =
      let words = binary_text (phrases.binary (phrases.unary b.primary b.names) b.operations) in
      let plain = binary_tree text (phrases.binary (phrases.unary b.primary b.names) b.operations) in
      record {
        phrase = phrases.expression [] (phrases.cascade (phrases.keyworded (phrases.binary (phrases.unary b.primary b.names) b.operations) phrases.no_parts) phrases.no_messages);
        fits = (b.fits, b.operations_fit, tt, tt, super_same plain t b.tree_is other, tt);
        text_is = append-nil (words ++ []) ∙ append-nil words ∙ b.text_is;
        tree_is = b.tree_is;
      }

  -- in parentheses
  pub in_group : (t : ExpressionView) (ts : List Leaf) (i : Inside text ts (mark (byte "(")) (expression_words t) (mark (byte ")"))) → AnyBack t i.inside → UnaryBack t ts
  in_group t ts i a = record {
    primary = phrases.group (one_of text (kinds.Open ∷ []) kinds.Open i.open_leaf i.opens.kind_is refl) a.phrase (one_of text (kinds.Close ∷ []) kinds.Close i.close_leaf i.closes.kind_is refl);
    names = [];
    fits = a.fits;
    text_is = append-nil (i.open_leaf ∷ (expression_text a.phrase ++ i.close_leaf ∷ [])) ∙ ap (λ (l : List Leaf). i.open_leaf ∷ (l ++ i.close_leaf ∷ [])) a.text_is ∙ i.parts;
    tree_is = a.tree_is;
  }

  grouped_back : (e : ExpressionView) (ts : List Leaf) → ((us : List Leaf) → Spells text us (expression_words e) → AnyBack e us) → Spells text ts (grouped (expression_words e)) → UnaryBack e ts
  grouped_back e ts any s = let i = inside_of text (mark (byte "(")) (expression_words e) (mark (byte ")")) ts s in in_group e ts i (any i.inside i.spells)

  -- what is placed, by the rank of what is there
  spells_placed : (wanted made : Rank) (e : ExpressionView) (ts : List Leaf) → rank_of e ≡ made → Spells text ts (placed wanted e) → Spells text ts (wrapped (is_loose wanted made) (expression_words e))
  spells_placed wanted made e ts r s = subst (λ (k : Rank). Spells text ts (wrapped (is_loose wanted k) (expression_words e))) r s

  module _ (e : ExpressionView) where
    pub from_unary : rank_of e ≡ Unary → ((ts : List Leaf) → Spells text ts (expression_words e) → UnaryBack e ts) → Back e
    from_unary r u = record {
      unary = λ ts s. u ts (spells_placed Unary Unary e ts r s);
      binary = λ ts s. unary_binary e ts (u ts (spells_placed Binary Unary e ts r s));
      any = λ other ts s. binary_any e ts other (unary_binary e ts (u ts s));
    }

    pub from_binary : rank_of e ≡ Binary → is_super e ≡ false → ((ts : List Leaf) → Spells text ts (expression_words e) → BinaryBack e ts) → Back e
    from_binary r other b = record {
      unary = λ ts s. grouped_back e ts (λ us t. binary_any e us other (b us t)) (spells_placed Unary Binary e ts r s);
      binary = λ ts s. b ts (spells_placed Binary Binary e ts r s);
      any = λ same ts s. binary_any e ts other (b ts s);
    }

    pub from_any : rank_of e ≡ Any → ((ts : List Leaf) → Spells text ts (expression_words e) → AnyBack e ts) → Back e
    from_any r a = record {
      unary = λ ts s. grouped_back e ts a (spells_placed Unary Any e ts r s);
      binary = λ ts s. unary_binary e ts (grouped_back e ts a (spells_placed Binary Any e ts r s));
      any = λ other ts s. a ts s;
    }

  -- an assignment
  pub assigned_back : (target : NameView) (e : ExpressionView) → is_super e ≡ false → Back e → (ts : List Leaf) → Spells text ts (expression_words (views.assign target e)) → AnyBack (views.assign target e) ts
  assigned_back target e other back ts s =
      let n = first_of text ts (name target.text) (mark (byte "_") ∷ expression_words e) s in
      let m = first_of text n.others (mark (byte "_")) (expression_words e) n.rest in
      let value = back.any other m.others m.rest in
      let t : Target = record { name = one_of text names kinds.Name n.leaf n.is.kind_is refl; assign = one_of text (kinds.Assign ∷ []) kinds.Assign m.leaf m.is.kind_is refl } in
      record {
        phrase = with_target t value.phrase;
        fits = with_target-fits text t value.phrase value.fits;
        text_is = with_target-text t value.phrase ∙ ap (λ (l : List Leaf). n.leaf ∷ m.leaf ∷ l) value.text_is ∙ ap (λ (l : List Leaf). n.leaf ∷ l) m.parts ∙ n.parts;
        tree_is = ap placeless (with_target-tree text t value.phrase)
            ∙ ap (λ (v : NameView). views.assign v (placeless (expression_tree text value.phrase))) (name_is text target n.leaf n.is)
            ∙ ap (λ (v : ExpressionView). views.assign (placeless_name target) v) value.tree_is;
      }

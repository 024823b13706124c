-- A literal's words are read as that literal.
use Rattle.std.proofs.Common.{◌≡◌, ℕ, true, List, [], ◌∷◌, ◌++◌, refl, ap, ◌∙◌}
use Rattle.std.specs.Prelude.{codes}
use Rattle.std.specs.Str.{byte}
use Rattle.st_scan.specs.Views.{ContentView, ElementsView}
use Rattle.st_scan.specs.Views as views
use Rattle.st_scan.specs.inside.Placeless.{placeless_content, placeless_elements}
use Rattle.st_grammar.specs.declared.leaf.Leaf.{Leaf}
use Rattle.st_grammar.specs.declared.leaf.Kind.TheVariants as kinds
use Rattle.st_grammar.specs.Leaves.{among}
use Rattle.st_grammar.specs.Phrases.{One, constants, plain_elements, Element, Elements, Literal, element_text, elements_text, literal_text}
use Rattle.st_grammar.specs.Phrases as phrases
use Rattle.st_grammar.specs.Trees.{constant_at, element_tree, elements_tree, literal_tree, content_of}
use Rattle.st_grammar.specs.inside.Formed.{LiteralFormed}
use Rattle.st_grammar.proofs.KindSets.{sample}
use Rattle.st_print.specs.Words.{Word, name, number, character, string, symbol, opening, mark, word_text}
use Rattle.st_print.specs.Printed.{content_words, elements_words}
use Rattle.st_print.proofs.Going.{word_sort, word_kind}
use Rattle.st_print.proofs.Spelled.{Spells, First, first_of, spells_nothing, Parted, parted, Inside, inside_of, one_of, constant_is, string_is}

module _ (text : List ℕ) where
  pub record ElementBack (what : ContentView) (ts : List Leaf) : Type 0 where
    pub phrase : Element
    pub text_is : element_text phrase ≡ ts
    pub tree_is : placeless_content (element_tree text phrase).what ≡ placeless_content what

  pub record ElementsBack (es : ElementsView) (ts : List Leaf) : Type 0 where
    pub phrase : Elements
    pub text_is : elements_text phrase ≡ ts
    pub tree_is : placeless_elements (elements_tree text phrase) ≡ placeless_elements es

  pub record LiteralBack (what : ContentView) (ts : List Leaf) : Type 0 where
    pub phrase : Literal
    pub text_is : literal_text phrase ≡ ts
    pub tree_is : placeless_content (literal_tree text phrase).what ≡ placeless_content what

  -- one leaf
  module _ (what : ContentView) (w : Word) (ts : List Leaf) (is : content_of (word_sort w) (word_text w) ≡ what) (s : Spells text ts (w ∷ [])) where
    abbrev one : First text ts w []
    one = first_of text ts w [] s

    alone : one.leaf ∷ [] ≡ ts
    alone = ap (λ (l : List Leaf). one.leaf ∷ l) (spells_nothing text one.others one.rest) ∙ one.parts

    same : placeless_content (constant_at text one.leaf).what ≡ placeless_content what
    same = ap placeless_content (constant_is text w one.leaf one.is ∙ is)

    plain_back : among plain_elements (sample (word_kind w)) ≡ true → ElementBack what ts
    plain_back f = record { phrase = phrases.plain (one_of text plain_elements (word_kind w) one.leaf one.is.kind_is f); text_is = alone; tree_is = same }

    constant_back : among constants (sample (word_kind w)) ≡ true → LiteralBack what ts
    constant_back f = record { phrase = phrases.constant (one_of text constants (word_kind w) one.leaf one.is.kind_is f); text_is = alone; tree_is = same }

  abbrev ArrayInside : ElementsView → List Leaf → Type 0
  ArrayInside es ts = Inside text ts opening (elements_words es) (mark (byte ")"))

  nested_text : (es : ElementsView) (ts : List Leaf) (i : ArrayInside es ts) (e : ElementsBack es i.inside) → i.open_leaf ∷ (elements_text e.phrase ++ i.close_leaf ∷ []) ≡ ts
  nested_text es ts i e = ap (λ (l : List Leaf). i.open_leaf ∷ (l ++ i.close_leaf ∷ [])) e.text_is ∙ i.parts

  nested_back : (es : ElementsView) (ts : List Leaf) (i : ArrayInside es ts) → ElementsBack es i.inside → ElementBack (views.array es) ts
  nested_back es ts i e = record {
    phrase = phrases.nested (one_of text (kinds.Opening ∷ kinds.Open ∷ []) kinds.Opening i.open_leaf i.opens.kind_is refl) e.phrase (one_of text (kinds.Close ∷ []) kinds.Close i.close_leaf i.closes.kind_is refl);
    text_is = nested_text es ts i e;
    tree_is = ap (λ (l : ElementsView). views.array l) e.tree_is;
  }

  array_back : (es : ElementsView) (ts : List Leaf) (i : ArrayInside es ts) → ElementsBack es i.inside → LiteralBack (views.array es) ts
  array_back es ts i e = record {
    phrase = phrases.array (one_of text (kinds.Opening ∷ []) kinds.Opening i.open_leaf i.opens.kind_is refl) e.phrase (one_of text (kinds.Close ∷ []) kinds.Close i.close_leaf i.closes.kind_is refl);
    text_is = nested_text es ts i e;
    tree_is = ap (λ (l : ElementsView). views.array l) e.tree_is;
  }

  one_more : (what : ContentView) (es : ElementsView) (place : ℕ) (ts : List Leaf) (p : Parted text ts (content_words what) (elements_words es)) → ElementBack what p.front → ElementsBack es p.back → ElementsBack (views.element place what es) ts
  one_more what es place ts p e o = record {
    phrase = phrases.element e.phrase o.phrase;
    text_is = ap (λ (l : List Leaf). l ++ elements_text o.phrase) e.text_is ∙ ap (λ (l : List Leaf). p.front ++ l) o.text_is ∙ p.parts;
    tree_is = ap (λ (c : ContentView). views.element 0 c (placeless_elements (elements_tree text o.phrase))) e.tree_is ∙ ap (λ (l : ElementsView). views.element 0 (placeless_content what) l) o.tree_is;
  }

  mutual
    element_back : (what : ContentView) (ts : List Leaf) → Spells text ts (content_words what) → ElementBack what ts
    element_back (views.number n) ts s = plain_back (views.number n) (number n) ts refl s refl
    element_back (views.character b) ts s = plain_back (views.character b) (character b) ts refl s refl
    element_back (views.bytes t) ts s = plain_back (views.bytes t) (string t) ts (ap (λ (b : List ℕ). views.bytes b) (string_is t)) s refl
    element_back (views.symbol t) ts s = plain_back (views.symbol t) (symbol t) ts refl s refl
    element_back (views.array es) ts s = let i = inside_of text opening (elements_words es) (mark (byte ")")) ts s in nested_back es ts i (elements_back es i.inside i.spells)
    element_back views.nil_object ts s = plain_back views.nil_object (name (codes "nil")) ts refl s refl
    element_back views.false_object ts s = plain_back views.false_object (name (codes "false")) ts refl s refl
    element_back views.true_object ts s = plain_back views.true_object (name (codes "true")) ts refl s refl

    elements_back : (es : ElementsView) (ts : List Leaf) → Spells text ts (elements_words es) → ElementsBack es ts
    elements_back views.no_elements ts s = record { phrase = phrases.no_elements; text_is = spells_nothing text ts s; tree_is = refl }
    elements_back (views.element place what es) ts s =
        let p = parted text (content_words what) (elements_words es) ts s in
        one_more what es place ts p (element_back what p.front p.first) (elements_back es p.back p.second)

  pub literal_back : (what : ContentView) → LiteralFormed what → (ts : List Leaf) → Spells text ts (content_words what) → LiteralBack what ts
  literal_back (views.number n) f ts s = constant_back (views.number n) (number n) ts refl s refl
  literal_back (views.character b) f ts s = constant_back (views.character b) (character b) ts refl s refl
  literal_back (views.bytes t) f ts s = constant_back (views.bytes t) (string t) ts (ap (λ (b : List ℕ). views.bytes b) (string_is t)) s refl
  literal_back (views.symbol t) f ts s = constant_back (views.symbol t) (symbol t) ts refl s refl
  literal_back (views.array es) f ts s = let i = inside_of text opening (elements_words es) (mark (byte ")")) ts s in array_back es ts i (elements_back es i.inside i.spells)
  literal_back views.nil_object f ts s = absurd f
  literal_back views.false_object f ts s = absurd f
  literal_back views.true_object f ts s = absurd f

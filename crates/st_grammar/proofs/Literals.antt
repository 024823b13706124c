-- What is read of literals and arrays.
use Rattle.std.proofs.Common.{◌≡◌, ℕ, zero, suc, ◌<◌, ◌≤◌, Bool, true, false, ◌||◌, ◌&&◌, List, [], ◌∷◌, ◌++◌, ◌⊎◌, inl, inr, length, Ok, refl, sym, ap, ◌∙◌, append_assoc, arith}
use Rattle.std.proofs.lemmas.List.{append-nil}
use Rattle.st_scan.specs.Views.{ElementView, ElementsView, with_element}
use Rattle.st_scan.specs.Views as views
use Rattle.st_grammar.specs.declared.leaf.Leaf.{Leaf}
use Rattle.st_grammar.specs.declared.leaf.Kind.{Kind}
use Rattle.st_grammar.specs.declared.leaf.Kind.TheVariants.{Name, Keyword, Joined, Opening, Open, Close}
use Rattle.st_grammar.specs.Leaves.{among, openings, closings}
use Rattle.st_grammar.specs.Phrases.{One, plain_elements, first_keywords, Element, plain, keyword_symbol, nested, Elements, no_elements, element, one_text, ones_text, element_text, elements_text}
use Rattle.st_grammar.specs.Trees.{bytes, joined_bytes, constant_at, element_tree, elements_tree}
use Rattle.st_grammar.specs.Reading.{◌>>=◌, first, token_at, element_starts, joined_step, joined_at, keyword_symbol_at, constant_element_at, nested_at, element_at, elements_step, elements_at, array_at}
use Rattle.st_grammar.proofs.KindSets.{apart, within, neutral, are_neutral, are_apart, covered, sample}
use Rattle.st_grammar.proofs.Balanced.{elements_balanced}
use Rattle.st_grammar.proofs.Readers.{Reads, nothing, first_nothing, is_nil, mapped, renamed, token_reads, both, either, anyway, text_both, goes_both, text_either, tree_either, goes_either}
use Rattle.st_grammar.proofs.Repeats.{IsRepeat, IsMore, repeated}
use Rattle.st_grammar.proofs.Bracketed.{bracket_zero_zero, bracket_zero_suc, bracket_suc_suc}
use Rattle.st_grammar.proofs.Lists.{or_false, or_and_false, ones_reads}
use Rattle.std.proofs.lemmas.Bool.{and_right, or_from}

-- ELEMENTS ONE BEHIND ANOTHER

abbrev pub appended : ElementsView → ElementsView → ElementsView
appended views.no_elements ys = ys
appended (views.element p w xs) ys = views.element p w (appended xs ys)

appended_none : (xs : ElementsView) → appended xs views.no_elements ≡ xs
appended_none views.no_elements = refl
appended_none (views.element p w xs) = ap (views.element p w) (appended_none xs)

appended_one : (xs ys : ElementsView) (e : ElementView) → appended (with_element xs e) ys ≡ appended xs (views.element e.place e.what ys)
appended_one views.no_elements ys e = refl
appended_one (views.element p w xs) ys e = ap (views.element p w) (appended_one xs ys e)

-- what an element goes on with
abbrev pub element_goes : Element → Leaf → Bool
element_goes (plain o) x = false
element_goes (keyword_symbol k ks) x = among (Joined ∷ []) x
element_goes (nested o es c) x = false

abbrev pub elements_last : Elements → Leaf → Bool
elements_last no_elements x = false
elements_last (element e es) x = elements_last es x || (is_nil (elements_text es) && element_goes e x)

element_ends : (e : Element) (x : Leaf) (ks : List Kind) → are_apart ks (Joined ∷ []) ≡ true → among ks x ≡ true → element_goes e x ≡ false
element_ends (plain o) x ks a e = refl
element_ends (keyword_symbol k js) x ks a e = apart ks (Joined ∷ []) a x e
element_ends (nested o es c) x ks a e = refl

elements_end : (es : Elements) (x : Leaf) → among (Close ∷ []) x ≡ true → elements_last es x ≡ false
elements_end no_elements x e = refl
elements_end (element f es) x e = or_from (elements_last es x) _ (elements_end es x e) (and_right (is_nil (elements_text es)) _ (element_ends f x (Close ∷ []) refl e))

element_begins : (e : Element) (k : List Leaf) → first (among element_starts) (element_text e ++ k) ≡ true
element_begins (plain o) k = within plain_elements element_starts refl o.leaf o.fits
element_begins (keyword_symbol o js) k = within first_keywords element_starts refl o.leaf o.fits
element_begins (nested o es c) k = within (Opening ∷ Open ∷ []) element_starts refl o.leaf o.fits

pub element_some : (e : Element) → 0 < length (element_text e)
element_some (plain o) = omega arith
element_some (keyword_symbol o js) = omega arith
element_some (nested o es c) = omega arith

abbrev pub Array : List Kind → Type 0
Array ks = One ks × Elements × One (Close ∷ [])

abbrev pub array_text : {ks : List Kind} → Array ks → List Leaf
array_text a = a.0.leaf ∷ (elements_text a.1 ++ a.2.leaf ∷ [])

abbrev pub any_open : List Kind
any_open = Opening ∷ Open ∷ []

abbrev pub hash_open : List Kind
hash_open = Opening ∷ []

module _ (text : List ℕ) where
  joined_one : (o : One (Joined ∷ [])) (bs : List ℕ) → List ℕ
  joined_one o bs = bs ++ bytes text o.leaf

  joined_reads : (n m : ℕ) → n ≤ m → (bs : List ℕ)
      → Reads (ones_text {kinds = Joined ∷ []}) (λ l. bs ++ joined_bytes text l) (λ l. among (Joined ∷ [])) (among (Joined ∷ [])) n m (joined_at text bs) (joined_at text bs)
  unfolding joined_at joined_step
  joined_reads n m le bs =
      ones_reads (Joined ∷ []) (λ o cs. cs ++ bytes text o.leaf) (λ l cs. cs ++ joined_bytes text l) (λ cs. append-nil cs) (λ o l cs. sym (append_assoc cs (bytes text o.leaf) (joined_bytes text l)))
      refl n m le (λ cs ts. token_at (Joined ∷ []) ts >>= λ k. Ok (cs ++ bytes text k.0, k.1))
      (λ cs. mapped (λ k. cs ++ bytes text k) (token_reads (Joined ∷ []) (record { leaf = sample Joined; fits = refl }) (neutral (Joined ∷ []) refl) n m le)) bs

  abbrev symbol_of : Leaf → List (One (Joined ∷ [])) → ElementView
  symbol_of k ks = record { place = k.place; what = views.symbol (bytes text k ++ joined_bytes text ks) }

  keyword_symbol_reads : (n m : ℕ) → n ≤ m
      → Reads {P = One first_keywords × List (One (Joined ∷ []))} (text_both one_text ones_text) (λ k. symbol_of k.0.leaf k.1) (goes_both (λ o. nothing) ones_text (λ l. among (Joined ∷ []))) (among first_keywords) n m (keyword_symbol_at text) (keyword_symbol_at text)
  unfolding keyword_symbol_at
  keyword_symbol_reads n m le =
      both (token_reads first_keywords (record { leaf = sample Keyword; fits = refl }) (neutral first_keywords refl) n m le)
      ones_text (λ ks k. symbol_of k ks) (λ l. among (Joined ∷ [])) (among (Joined ∷ []))
      (λ k ts. joined_at text (bytes text k) ts >>= λ ks. Ok (record { place = k.place; what = views.symbol ks.0 }, ks.1))
      (λ k ts. joined_at text (bytes text k) ts >>= λ ks. Ok (record { place = k.place; what = views.symbol ks.0 }, ks.1))
      (λ k. mapped (λ bs. record { place = k.place; what = views.symbol bs }) (joined_reads n m le (bytes text k)))
      [] (among first_keywords) (λ p q l e. first_nothing (ones_text q ++ l)) (λ x ts e. inl e) (λ p x e. inl (omega arith))

  pub constant_reads : (ks : List Kind) (some : One ks) (n m : ℕ) → n ≤ m → are_neutral ks ≡ true
      → Reads (one_text {kinds = ks}) (λ o. constant_at text o.leaf) (λ o. nothing) (among ks) n m (constant_element_at text ks) (constant_element_at text ks)
  unfolding constant_element_at
  constant_reads ks some n m le e = mapped (λ o. constant_at text o) (token_reads ks some (neutral ks e) n m le)

  -- ARRAYS

  abbrev pub array_tree : {ks : List Kind} → Array ks → ElementView
  array_tree a = record { place = a.0.leaf.place; what = views.array (elements_tree text a.1) }

  abbrev pub ArrayReads : List Kind → ℕ → ℕ → Type 0
  ArrayReads ks n m = Reads {P = Array ks} (array_text {ks = ks}) (array_tree {ks = ks}) (λ a. nothing) (among ks) n m (nested_at text (array_at text n) ks) (nested_at text (array_at text m) ks)

  abbrev Sum : Type 0
  Sum = One plain_elements ⊎ ((One first_keywords × List (One (Joined ∷ []))) ⊎ Array any_open)

  abbrev to : Sum → Element
  to (inl o) = plain o
  to (inr (inl k)) = keyword_symbol k.0 k.1
  to (inr (inr a)) = nested a.0 a.1 a.2

  abbrev from : Element → Sum
  from (plain o) = inl o
  from (keyword_symbol k ks) = inr (inl (k, ks))
  from (nested o es c) = inr (inr (o, es, c))

  goes_sum : Sum → Leaf → Bool
  goes_sum s x =
      goes_either (among plain_elements) (λ o. nothing) (text_either (text_both one_text ones_text) array_text)
      (goes_either (among first_keywords) (goes_both (λ o. nothing) ones_text (λ l. among (Joined ∷ []))) array_text (λ a. nothing)) s x

  goes_to : (s : Sum) (x : Leaf) → element_goes (to s) x ≡ goes_sum s x
  unfolding goes_sum
  goes_to (inl o) x = refl
  goes_to (inr (inl k)) x = sym (or_false (among (Joined ∷ []) x || (is_nil (ones_text k.1) && false)) ∙ or_and_false (among (Joined ∷ []) x) (is_nil (ones_text k.1)))
  goes_to (inr (inr a)) x = refl

  goes_from : (e : Element) (x : Leaf) → goes_sum (from e) x ≡ element_goes e x
  goes_from (plain o) x = sym (goes_to (inl o) x)
  goes_from (keyword_symbol k ks) x = sym (goes_to (inr (inl (k, ks))) x)
  goes_from (nested o es c) x = sym (goes_to (inr (inr (o, es, c))) x)

  text_to : (s : Sum) → element_text (to s) ≡ text_either one_text (text_either (text_both one_text ones_text) array_text) s
  text_to (inl o) = refl
  text_to (inr (inl k)) = refl
  text_to (inr (inr a)) = refl

  tree_to : (s : Sum) → element_tree text (to s) ≡ tree_either (λ o. constant_at text o.leaf) (tree_either (λ k. symbol_of k.0.leaf k.1) array_tree) s
  tree_to (inl o) = refl
  tree_to (inr (inl k)) = refl
  tree_to (inr (inr a)) = refl

  text_from : (e : Element) → text_either one_text (text_either (text_both one_text ones_text) array_text) (from e) ≡ element_text e
  text_from (plain o) = refl
  text_from (keyword_symbol k ks) = refl
  text_from (nested o es c) = refl

  tree_from : (e : Element) → tree_either (λ o. constant_at text o.leaf) (tree_either (λ k. symbol_of k.0.leaf k.1) array_tree) (from e) ≡ element_tree text e
  tree_from (plain o) = refl
  tree_from (keyword_symbol k ks) = refl
  tree_from (nested o es c) = refl

  starts_not : (q : (One first_keywords × List (One (Joined ∷ []))) ⊎ Array any_open) (x : Leaf) (us : List Leaf) → text_either (text_both one_text ones_text) array_text q ≡ x ∷ us → among plain_elements x ≡ false
  starts_not (inl k) x us e = let same : k.0.leaf ≡ x = cc in ap (among plain_elements) (sym same) ∙ apart first_keywords plain_elements refl k.0.leaf k.0.fits
  starts_not (inr a) x us e = let same : a.0.leaf ≡ x = cc in ap (among plain_elements) (sym same) ∙ apart any_open plain_elements refl a.0.leaf a.0.fits

  array_not : (q : Array any_open) (x : Leaf) (us : List Leaf) → array_text q ≡ x ∷ us → among first_keywords x ≡ false
  array_not a x us e = let same : a.0.leaf ≡ x = cc in ap (among first_keywords) (sym same) ∙ apart any_open first_keywords refl a.0.leaf a.0.fits

  pub element_reads : (n m : ℕ) → n ≤ m → ArrayReads any_open n m → Reads element_text (element_tree text) element_goes (among element_starts) n m (element_at text (array_at text n)) (element_at text (array_at text m))
  unfolding element_at goes_sum
  element_reads n m le R =
      renamed (either (among plain_elements) (anyway (among plain_elements) (constant_reads plain_elements (record { leaf = sample Name; fits = refl }) n m le refl))
      (either (among first_keywords) (anyway (among first_keywords) (keyword_symbol_reads n m le)) R (among (first_keywords ++ any_open)) (λ x e. e) (λ p l. p.0.fits) array_not (λ x e f. covered (first_keywords ++ any_open) first_keywords any_open refl x e f))
      (among element_starts) (λ x e. e) (λ p l. p.fits) starts_not (λ x e f. covered element_starts plain_elements (first_keywords ++ any_open) refl x e f))
      element_text (element_tree text) element_goes to text_to tree_to goes_to from text_from tree_from goes_from

  elements_repeat : IsRepeat (λ (b : ElementsView). among element_starts) element_text (λ e es. with_element es (element_tree text e)) element_goes (λ b k. Unit {0}) elements_text (λ l es. appended es (elements_tree text l)) elements_last
  elements_repeat = record {
    some = element_some;
    nil = no_elements;
    nil_valid = λ a. tt;
    nil_text = refl;
    nil_is = appended_none;
    nil_last = λ x. refl;
    cons = element;
    cons_more = λ a p l x e v. (tt, refl, sym (appended_one a (elements_tree text l) (element_tree text p)));
    cons_last = λ a p l x v. refl;
    uncons = uncons;
  }
    where
      uncons : (a : ElementsView) (l : Elements) → Unit {0} → ((elements_text l ≡ []) × (appended a (elements_tree text l) ≡ a))
          ⊎ IsMore (λ (b : ElementsView). among element_starts) element_text (λ e es. with_element es (element_tree text e)) element_goes (λ b k. Unit {0}) elements_text (λ l es. appended es (elements_tree text l)) elements_last a l
      uncons a no_elements v = inl (refl, appended_none a)
      uncons a (element e l) v = inr (record {
        p = e;
        rest = l;
        valid = tt;
        parts = refl;
        is = sym (appended_one a (elements_tree text l) (element_tree text e));
        last_is = λ x. refl;
        starts = λ k. element_begins e k;
        ends = λ x f. element_ends e x element_starts refl f;
      })

  abbrev ElementsRead : ℕ → ℕ → Type 0
  ElementsRead n m =
      Reads {P = Elements × Unit {0}} (λ l. elements_text l.0) (λ l. elements_tree text l.0) (λ l x. among element_starts x || elements_last l.0 x) (among element_starts) n m
      (elements_at text (array_at text n) views.no_elements) (elements_at text (array_at text m) views.no_elements)

  pub elements_step_reads : (n m : ℕ) → n ≤ m → ArrayReads any_open n m → (es : ElementsView) → Reads element_text (λ e. with_element es (element_tree text e)) element_goes (among element_starts) n m (elements_step text (array_at text n) es) (elements_step text (array_at text m) es)
  unfolding elements_step
  elements_step_reads n m le R es = mapped (with_element es) (element_reads n m le R)

  elements_read : (n m : ℕ) → n ≤ m → ArrayReads any_open n m → ElementsRead n m
  unfolding elements_at
  elements_read n m le R = repeated elements_repeat n m le (elements_step text (array_at text n)) (elements_step text (array_at text m)) (elements_step_reads n m le R) elements_balanced views.no_elements

  module _ (ks : List Kind) (some : One ks) (opens : (x : Leaf) → among ks x ≡ true → among openings x ≡ true) where
    one_close : One (Close ∷ [])
    one_close = record { leaf = sample Close; fits = refl }

    abbrev closing : (x : Leaf) → among (Close ∷ []) x ≡ true → (among openings x ≡ false) × (among closings x ≡ true)
    closing x e = (apart (Close ∷ []) openings refl x e, within (Close ∷ []) closings refl x e)

    body_ends : (l : Elements × Unit {0}) (x : Leaf) → among (Close ∷ []) x ≡ true → (among element_starts x || elements_last l.0 x) ≡ false
    body_ends l x e = or_from (among element_starts x) _ (apart (Close ∷ []) element_starts refl x e) (elements_end l.0 x e)

    abbrev Pair : Type 0
    Pair = One ks × (Elements × Unit {0}) × One (Close ∷ [])

    abbrev PairReads : ℕ → ℕ → Type 0
    PairReads n m =
        Reads {P = Pair} (λ a. a.0.leaf ∷ (elements_text a.1.0 ++ a.2.leaf ∷ [])) (λ a. record { place = a.0.leaf.place; what = views.array (elements_tree text a.1.0) }) (λ a. nothing) (among ks) n m (nested_at text (array_at text n) ks) (nested_at text (array_at text m) ks)

    unpaired : (n m : ℕ) → PairReads n m → ArrayReads ks n m
    unpaired n m R = renamed R (array_text {ks = ks}) (array_tree {ks = ks}) (λ a. nothing) (λ a. (a.0, a.1.0, a.2)) (λ a. refl) (λ a. refl) (λ a x. refl) (λ a. (a.0, (a.1, tt), a.2)) (λ a. refl) (λ a. refl) (λ a x. refl)

    zero_zero : PairReads zero zero
    unfolding nested_at array_at
    zero_zero =
        bracket_zero_zero ks (Close ∷ []) some (no_elements, tt) one_close opens closing (λ (l : Elements × Unit {0}). elements_text l.0) (λ l. elements_tree text l.0) (λ l x. among element_starts x || elements_last l.0 x) (λ l. elements_balanced l.0) body_ends
        (λ k ts. elements_at text (array_at text k) views.no_elements ts) (array_at text) (λ ts. refl) (λ k ts. refl) (λ x es. record { place = x.place; what = views.array es })

    zero_suc : (j k : ℕ) → ElementsRead j k → PairReads zero (suc k)
    unfolding nested_at array_at
    zero_suc j k R =
        bracket_zero_suc ks (Close ∷ []) some (no_elements, tt) one_close opens closing (λ (l : Elements × Unit {0}). elements_text l.0) (λ l. elements_tree text l.0) (λ l x. among element_starts x || elements_last l.0 x) (λ l. elements_balanced l.0) body_ends
        (λ k ts. elements_at text (array_at text k) views.no_elements ts) (array_at text) (λ ts. refl) (λ k ts. refl) (λ x es. record { place = x.place; what = views.array es }) j k R

    suc_suc : (j k : ℕ) → ElementsRead j k → PairReads (suc j) (suc k)
    unfolding nested_at array_at
    suc_suc j k R =
        bracket_suc_suc ks (Close ∷ []) some (no_elements, tt) one_close opens closing (λ (l : Elements × Unit {0}). elements_text l.0) (λ l. elements_tree text l.0) (λ l x. among element_starts x || elements_last l.0 x) (λ l. elements_balanced l.0) body_ends
        (λ k ts. elements_at text (array_at text k) views.no_elements ts) (array_at text) (λ ts. refl) (λ k ts. refl) (λ x es. record { place = x.place; what = views.array es }) j k R

  -- an array from what opens it on: m brackets may be open, and the arrays in it may have one fewer
  opened_reads : (m : ℕ) (ks : List Kind) (some : One ks) (opens : (x : Leaf) → among ks x ≡ true → among openings x ≡ true) (n : ℕ) → n ≤ m → ArrayReads ks n m
  opened_reads zero ks some opens zero le = unpaired ks some opens zero zero (zero_zero ks some opens)
  opened_reads zero ks some opens (suc n) le = absurd (omega arith)
  opened_reads (suc k) ks some opens zero le =
      unpaired ks some opens zero (suc k) (zero_suc ks some opens zero k (elements_read zero k (omega arith) (opened_reads k any_open (record { leaf = sample Open; fits = refl }) (within any_open openings refl) zero (omega arith))))
  opened_reads (suc k) ks some opens (suc j) le =
      unpaired ks some opens (suc j) (suc k) (suc_suc ks some opens j k (elements_read j k (omega arith) (opened_reads k any_open (record { leaf = sample Open; fits = refl }) (within any_open openings refl) j (omega arith))))

  pub nested_reads : (m n : ℕ) → n ≤ m → ArrayReads any_open n m
  nested_reads m = opened_reads m any_open (record { leaf = sample Open; fits = refl }) (within any_open openings refl)

  -- an array from its #( on
  pub array_reads : (m n : ℕ) → n ≤ m → ArrayReads hash_open n m
  array_reads m = opened_reads m hash_open (record { leaf = sample Opening; fits = refl }) (within hash_open openings refl)

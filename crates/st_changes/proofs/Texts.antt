-- The last definition of a class, a side and a selector, by its number, and its text.
use Rattle.std.proofs.Common.{◌≡◌, ℕ, zero, suc, ◌+◌, ◌<◌, Bool, List, [], ◌∷◌, ◌++◌, length, take, get_or, refl, sym, ap, ◌∙◌, subst, arith, length-append}
use Rattle.std.specs.Prelude.{Option, Some, None, MatchOption, All}
use Rattle.std.proofs.Math.ListN.{get_or-map, length-map}
use Rattle.std.proofs.Math.Seq.{take-append_seam}
use Rattle.std.proofs.lemmas.List.{get_or-append-add, take-map}
use Rattle.st_chunk.specs.Definitions.{Definition}
use Rattle.st_changes.specs.declared.definition.Definition as declared
use Rattle.st_changes.specs.inside.Views.{definition_of, definitions_of}
use Rattle.st_changes.specs.Last.{IsOf, IsNowhere, IsLast, IsLastText}

-- THE DEFINITION OF A NUMBER

module _ (listed : List declared.Definition) (n : ℕ) (class : List ℕ) (meta : Bool) (selector : List ℕ) (last : IsLast (definitions_of listed) class meta selector n) where
  pub last_within : n < length listed
  last_within = omega (arith, last.place, length-map listed definition_of, ap length last.is, length-append last.before (last.last ∷ last.behind))

  pub last_before : definitions_of (take n listed) ≡ last.before
  last_before = sym (take-map definition_of n listed) ∙ (λ t. take (last.place t) (last.is t)) ∙ take-append_seam last.before (last.last ∷ last.behind)

  pub last_is : (x : declared.Definition) → x ≡ get_or listed n x → definition_of x ≡ last.last
  last_is x is =
      let d = definition_of x in
      let at : n ≡ length last.before + 0 = omega (arith, last.place) in
      ap definition_of is ∙ sym (get_or-map definition_of listed n x) ∙ (λ t. get_or (last.is t) (at t) d) ∙ get_or-append-add last.before (last.last ∷ last.behind) 0 d

  pub last_text_is : (x : declared.Definition) (text : List ℕ) → x ≡ get_or listed n x → text ≡ (definition_of x).text → IsLastText (definitions_of listed) class meta selector text
  last_text_is x text is same = record {
    before = last.before;
    last = last.last;
    behind = last.behind;
    is = last.is;
    of = last.of;
    none = last.none;
    text_is = same ∙ ap (λ (d : Definition). d.text) (last_is x is);
  }

-- ONE TEXT

module _ (P : Definition → Type 0) where
  none_behind : (x : Definition) (ds : List Definition) → All (λ d. P d → ⊥) (x ∷ ds) → All (λ d. P d → ⊥) ds
  none_behind x ds none k y less = none (suc k) y (omega (arith, less))

  not_none : (before behind : List Definition) (last : Definition) → All (λ d. P d → ⊥) (before ++ last ∷ behind) → P last → ⊥
  not_none [] behind last none h = none zero last (omega arith) h
  not_none (x ∷ before) behind last none h = not_none before behind last (none_behind x (before ++ last ∷ behind) none) h

  one_last : (a b us vs : List Definition) (x y : Definition) → a ++ x ∷ us ≡ b ++ y ∷ vs → P x → P y → All (λ d. P d → ⊥) us → All (λ d. P d → ⊥) vs → x ≡ y
  one_last [] [] us vs x y e p q m n = cc
  one_last [] (z ∷ b) us vs x y e p q m n =
      let same : us ≡ b ++ y ∷ vs = cc in
      absurd (not_none b vs y (subst (λ (ds : List Definition). All (λ d. P d → ⊥) ds) same m) q)
  one_last (z ∷ a) [] us vs x y e p q m n =
      let same : vs ≡ a ++ x ∷ us = cc in
      absurd (not_none a us x (subst (λ (ds : List Definition). All (λ d. P d → ⊥) ds) same n) p)
  one_last (z ∷ a) (w ∷ b) us vs x y e p q m n =
      let rest : a ++ x ∷ us ≡ b ++ y ∷ vs = cc in
      one_last a b us vs x y rest p q m n

module _ (ds : List Definition) (class : List ℕ) (meta : Bool) (selector : List ℕ) where
  -- a text is the last one, or there is none
  abbrev pub IsText : Option (List ℕ) → Type 0
  IsText o = MatchOption o (IsNowhere ds class meta selector) (IsLastText ds class meta selector)

  not_both : (text : List ℕ) → IsNowhere ds class meta selector → IsLastText ds class meta selector text → ⊥
  not_both text none last =
      not_none (IsOf class meta selector) last.before last.behind last.last (subst (λ (es : List Definition). IsNowhere es class meta selector) last.is none) last.of

  pub one_text : (a b : Option (List ℕ)) → IsText a → IsText b → a ≡ b
  one_text None None x y = refl
  one_text None (Some t) x y = absurd (not_both t x y)
  one_text (Some t) None x y = absurd (not_both t y x)
  one_text (Some t) (Some u) x y =
      let same = one_last (IsOf class meta selector) x.before y.before x.behind y.behind x.last y.last (sym x.is ∙ y.is) x.of y.of x.none y.none in
      ap Some (x.text_is ∙ ap (λ (d : Definition). d.text) same ∙ sym y.text_is)

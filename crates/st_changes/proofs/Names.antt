-- Names by their numbers, and what is found by them.
use Rattle.std.proofs.Common.{◌≡◌, ℕ, ◌<◌, Bool, true, false, cond, List, [], ◌∷◌, length, get_or, Option, Some, None, is_some, Vec, Global, refl, sym, ap, ◌∙◌, subst, true≢false, Decides}
use Rattle.std.specs.Prelude.{◌&&◌, nat_eq, bytes_eq}
use Rattle.std.specs.Bool.{beq}
use Rattle.std.specs.Map.{lookup}
use Rattle.std.specs.Option.{option_and_then}
use Rattle.std.specs.Cmp.{booleans_Decides}
use Rattle.std.specs.Cmp.Lexicographic.{bytes_decides}
use Rattle.std.proofs.lemmas.Bool.{and_parts, eqb-true}
use Rattle.std.proofs.lemmas.Bool.Decides.{Decides-eqb, Decides-and, same_from_decides}
use Rattle.std.proofs.lemmas.List.Quantifiers.{position-Some}
use Rattle.st_changes.specs.inside.IndexStates.{IndexState, number, same_key, found, updated, IsBounded}

-- two names of one number are one
same_name : (names : List (Vec ℕ Global)) (a b : List ℕ) (i : ℕ) → number names a ≡ Some i → number names b ≡ Some i → a ≡ b
same_name [] a b i ea eb = absurd (true≢false (sym (ap is_some ea)))
same_name (k ∷ rest) a b i ea eb =
    let at = get_or (k ∷ rest) i k in
    let x = (position-Some (λ v. bytes_eq a v.items) (k ∷ rest) i k ea).1 in
    let y = (position-Some (λ v. bytes_eq b v.items) (k ∷ rest) i k eb).1 in
    (bytes_decides a at.items).0 x ∙ sym ((bytes_decides b at.items).0 y)

some_same : (i j : ℕ) → Some i ≡ Some j → i ≡ j
some_same i j e = cc

-- the numbers of two names are one just where the names are
names_decide : (names : List (Vec ℕ Global)) (a b : List ℕ) (i j : ℕ) → number names a ≡ Some i → number names b ≡ Some j → Decides (nat_eq i j) (b ≡ a)
names_decide names a b i j ea eb = (
  λ e. let same : i ≡ j = eqb-true i j e in same_name names b a i (eb ∙ ap Some (sym same)) ea,
  λ e. (Decides-eqb i j).1 (some_same i j (sym ea ∙ ap (number names) (sym e) ∙ eb)),
)

side_decides : (m n : Bool) → Decides (beq m n) (n ≡ m)
side_decides m n = (λ e. sym ((booleans_Decides m n).0 e), λ e. (booleans_Decides m n).1 (sym e))

pub looked : (x : IndexState) (c : List ℕ) (m : Bool) (s : List ℕ) (a b : Option ℕ) → number x.names c ≡ a → number x.names s ≡ b
    → found x c m s ≡ option_and_then (λ i. option_and_then (λ j. lookup (same_key (i, m, j)) x.last) b) a
looked x c m s a b ec es = λ t. option_and_then (λ i. option_and_then (λ j. lookup (same_key (i, m, j)) x.last) (es t)) (ec t)

no_other : (x y : Bool) → y ≡ false → x && y ≡ false
no_other true y e = e
no_other false y e = refl

module _ (names : List (Vec ℕ Global)) (last after : List ((ℕ × Bool × ℕ) × ℕ)) (room left : ℕ) (class : List ℕ) (meta : Bool) (selector : List ℕ) (n : ℕ) (i j : ℕ)
    (is_class : number names class ≡ Some i) (is_selector : number names selector ≡ Some j)
    (updates : (q : ℕ × Bool × ℕ) → lookup (same_key q) after ≡ cond (same_key (i, meta, j) q) (Some n) (lookup (same_key q) last)) where
  test_same : (c : List ℕ) (m : Bool) (s : List ℕ) (k l : ℕ) → number names c ≡ Some k → number names s ≡ Some l
      → same_key (i, meta, j) (k, m, l) ≡ ((bytes_eq c class && beq m meta) && bytes_eq s selector)
  test_same c m s k l ec es =
      same_from_decides _ _
      (Decides-and _ _ (Decides-and _ _ (names_decide names class c i k is_class ec) (side_decides meta m)) (names_decide names selector s j l is_selector es))
      (Decides-and _ _ (Decides-and _ _ (bytes_decides c class) (booleans_Decides m meta)) (bytes_decides s selector))

  apart_name : (a b : List ℕ) (k : ℕ) → number names a ≡ None → number names b ≡ Some k → bytes_eq a b ≡ false
  apart_name a b k ea eb = by (bytes_eq a b) (λ e. true≢false (sym (ap is_some (sym (ea) ∙ ap (number names) ((bytes_decides a b).0 e) ∙ eb))))
    where
      by : (t : Bool) → (t ≡ true → ⊥) → t ≡ false
      by true f = absurd (f refl)
      by false f = refl

  abbrev before : IndexState
  before = record { names = names; last = last; room = room }

  abbrev behind : IndexState
  behind = record { names = names; last = after; room = left }

  pub noted : (c : List ℕ) (m : Bool) (s : List ℕ) → found behind c m s ≡ updated (found before) class meta selector n c m s
  noted c m s = by (number names c) (number names s) refl refl
    where
      by : (x y : Option ℕ) → number names c ≡ x → number names s ≡ y → found behind c m s ≡ updated (found before) class meta selector n c m s
      by None y ec es =
          let apart = apart_name c class i ec is_class in
          looked behind c m s None y ec es
          ∙ sym (λ t. cond ((apart t && beq m meta) && bytes_eq s selector) (Some n) (looked before c m s None y ec es t))
      by (Some k) None ec es =
          let apart = apart_name s selector j es is_selector in
          looked behind c m s (Some k) None ec es
          ∙ sym (λ t. cond (no_other (bytes_eq c class && beq m meta) (bytes_eq s selector) apart t) (Some n) (looked before c m s (Some k) None ec es t))
      by (Some k) (Some l) ec es =
          looked behind c m s (Some k) (Some l) ec es
          ∙ updates (k, m, l)
          ∙ (λ t. cond (test_same c m s k l ec es t) (Some n) (sym (looked before c m s (Some k) (Some l) ec es) t))

  pub bounded : i < length names → j < length names → IsBounded names last → IsBounded names after
  bounded below_i below_j old k m l v e = by (same_key (i, meta, j) (k, m, l)) refl
    where
      by : (t : Bool) → same_key (i, meta, j) (k, m, l) ≡ t → (k < length names) × (l < length names)
      by true is =
          let parts = and_parts (nat_eq i k && beq meta m) (nat_eq j l) is in
          let first = and_parts (nat_eq i k) (beq meta m) parts.0 in
          (subst (λ (n : ℕ). n < length names) (eqb-true i k first.0) below_i, subst (λ (n : ℕ). n < length names) (eqb-true j l parts.1) below_j)
      by false is = old k m l v (sym (updates (k, m, l) ∙ ap (λ t. cond t (Some n) (lookup (same_key (k, m, l)) last)) is) ∙ e)

-- Leaves that spell words, in a text.
use Rattle.std.proofs.Common.{◌≡◌, ℕ, ◌-◌, true, false, eqb, List, [], ◌∷◌, ◌++◌, length, take, inl, inr, refl, ap, ◌∙◌, arith, length-append}
use Rattle.std.specs.Prelude.{IsTrue, codes, bytes_eq}
use Rattle.std.specs.List.{list_any}
use Rattle.std.specs.Str.{byte}
use Rattle.std.proofs.lemmas.Bool.{cases_Bool}
use Rattle.std.proofs.Math.Seq.{take-append_seam}
use Rattle.st_scan.specs.declared.token.Sort.{Sort}
use Rattle.st_scan.specs.Views.{NameView}
use Rattle.st_scan.specs.inside.Placeless.{placeless_name}
use Rattle.st_scan.specs.Pieces.{doubled}
use Rattle.st_grammar.specs.declared.leaf.Leaf.{Leaf}
use Rattle.st_grammar.specs.declared.leaf.Kind.{Kind}
use Rattle.st_grammar.specs.Leaves.{among, keywords, operators, kind_number, operator_kind, keyword_kind}
use Rattle.st_grammar.specs.Phrases.{One}
use Rattle.st_grammar.specs.Trees.{bytes, name_at, constant_at, content_of, undoubled, between_quotes}
use Rattle.st_grammar.proofs.KindSets.{sample}
use Rattle.st_print.specs.Words.{Word, name, keyword, operator, word_text, string_text}
use Rattle.st_print.proofs.Going.{word_sort, word_kind}

-- a leaf of a kind is among those kinds
pub fits : (ks : List Kind) (x : Leaf) (k : Kind) → x.kind ≡ k → among ks (sample k) ≡ true → IsTrue (among ks x)
fits ks x k e f = ap (λ (j : Kind). list_any (λ i. eqb (kind_number j) (kind_number i)) ks) e ∙ f

keyword_kinds : (b : List ℕ) → among keywords (sample (keyword_kind false b)) ≡ true
keyword_kinds b = elim (cases_Bool (bytes_eq b (codes "primitive:"))) [ inl t ↦ rw t refl | inr f ↦ rw f refl ]

operator_kinds : (o : List ℕ) → among operators (sample (operator_kind o)) ≡ true
operator_kinds [] = refl
operator_kinds (b ∷ []) = elim (cases_Bool (eqb b (byte "|"))) [
  | inl t ↦ rw t refl
  | inr f ↦ elim (cases_Bool (eqb b (byte "<"))) [
    | inl t ↦ rw (f, t) refl
    | inr g ↦ elim (cases_Bool (eqb b (byte ">"))) [ inl t ↦ rw (f, g, t) refl | inr h ↦ rw (f, g, h) refl ]
  ]
]
operator_kinds (b ∷ c ∷ o) = refl

-- a string's bytes without their quotes
undoubled_is : (t : List ℕ) → undoubled false (doubled t) ≡ t
undoubled_is [] = refl
undoubled_is (b ∷ t) = elim (cases_Bool (eqb b (byte "'"))) [
  | inl e ↦ rw (e, e) (ap (λ (l : List ℕ). b ∷ l) (undoubled_is t))
  | inr e ↦ rw (e, e) (ap (λ (l : List ℕ). b ∷ l) (undoubled_is t))
]

inside_quotes : (t : List ℕ) → between_quotes (string_text t) ≡ doubled t
inside_quotes t =
    let n : length (string_text t) - 2 ≡ length (doubled t) = omega (arith, length-append (doubled t) (byte "'" ∷ [])) in
    ap (λ (k : ℕ). take k (doubled t ++ byte "'" ∷ [])) n ∙ take-append_seam (doubled t) (byte "'" ∷ [])

pub string_is : (t : List ℕ) → undoubled false (between_quotes (string_text t)) ≡ t
string_is t = ap (undoubled false) (inside_quotes t) ∙ undoubled_is t

module _ (text : List ℕ) where
  -- a leaf that spells a word
  pub record IsWord (w : Word) (x : Leaf) : Type 0 where
    pub bytes_are : bytes text x ≡ word_text w
    pub sort_is : x.token.sort ≡ word_sort w
    pub kind_is : x.kind ≡ word_kind w

  abbrev pub Spells : List Leaf → List Word → Type 0
  Spells [] [] = Unit {0}
  Spells [] (w ∷ ws) = ⊥
  Spells (x ∷ xs) [] = ⊥
  Spells (x ∷ xs) (w ∷ ws) = IsWord w x × Spells xs ws

  -- the first leaf, and the others
  pub record First (ts : List Leaf) (w : Word) (ws : List Word) : Type 0 where
    pub leaf : Leaf
    pub others : List Leaf
    pub parts : leaf ∷ others ≡ ts
    pub is : IsWord w leaf
    pub rest : Spells others ws

  pub first_of : (ts : List Leaf) (w : Word) (ws : List Word) → Spells ts (w ∷ ws) → First ts w ws
  first_of [] w ws s = absurd s
  first_of (x ∷ xs) w ws s = record { leaf = x; others = xs; parts = refl; is = s.0; rest = s.1 }

  pub spells_nothing : (ts : List Leaf) → Spells ts [] → [] ≡ ts
  spells_nothing [] s = refl
  spells_nothing (x ∷ xs) s = absurd s

  -- leaves of some words, and of others behind them
  pub record Parted (ts : List Leaf) (ws vs : List Word) : Type 0 where
    pub front : List Leaf
    pub back : List Leaf
    pub parts : front ++ back ≡ ts
    pub first : Spells front ws
    pub second : Spells back vs

  pub parted : (ws vs : List Word) (ts : List Leaf) → Spells ts (ws ++ vs) → Parted ts ws vs
  parted [] vs ts s = record { front = []; back = ts; parts = refl; first = tt; second = s }
  parted (w ∷ ws) vs [] s = absurd s
  parted (w ∷ ws) vs (x ∷ xs) s =
      let more = parted ws vs xs s.1 in
      record { front = x ∷ more.front; back = more.back; parts = ap (λ (l : List Leaf). x ∷ l) more.parts; first = (s.0, more.first); second = more.second }

  -- a last word
  pub record Last (ts : List Leaf) (ws : List Word) (w : Word) : Type 0 where
    pub front : List Leaf
    pub leaf : Leaf
    pub parts : front ++ leaf ∷ [] ≡ ts
    pub first : Spells front ws
    pub is : IsWord w leaf

  pub last_of : (ws : List Word) (w : Word) (ts : List Leaf) → Spells ts (ws ++ w ∷ []) → Last ts ws w
  last_of ws w ts s =
      let p = parted ws (w ∷ []) ts s in
      let one = first_of p.back w [] p.second in
      record {
        front = p.front;
        leaf = one.leaf;
        parts = ap (λ (l : List Leaf). p.front ++ one.leaf ∷ l) (spells_nothing one.others one.rest) ∙ ap (λ (l : List Leaf). p.front ++ l) one.parts ∙ p.parts;
        first = p.first;
        is = one.is;
      }

  -- what is in brackets
  pub record Inside (ts : List Leaf) (o : Word) (ws : List Word) (c : Word) : Type 0 where
    pub open_leaf : Leaf
    pub inside : List Leaf
    pub close_leaf : Leaf
    pub parts : open_leaf ∷ (inside ++ close_leaf ∷ []) ≡ ts
    pub opens : IsWord o open_leaf
    pub spells : Spells inside ws
    pub closes : IsWord c close_leaf

  pub inside_of : (o : Word) (ws : List Word) (c : Word) (ts : List Leaf) → Spells ts (o ∷ (ws ++ c ∷ [])) → Inside ts o ws c
  inside_of o ws c ts s =
      let f = first_of ts o (ws ++ c ∷ []) s in
      let l = last_of ws c f.others f.rest in
      record { open_leaf = f.leaf; inside = l.front; close_leaf = l.leaf; parts = ap (λ (k : List Leaf). f.leaf ∷ k) l.parts ∙ f.parts; opens = f.is; spells = l.first; closes = l.is }

  -- a leaf of one kind
  abbrev pub one_of : (ks : List Kind) (k : Kind) (x : Leaf) → x.kind ≡ k → among ks (sample k) ≡ true → One ks
  one_of ks k x e f = record { leaf = x; fits = fits ks x k e f }

  pub keyword_fits : (t : List ℕ) (x : Leaf) → IsWord (keyword t) x → IsTrue (among keywords x)
  keyword_fits t x w = fits keywords x (word_kind (keyword t)) w.kind_is (keyword_kinds t)

  pub operator_fits : (t : List ℕ) (x : Leaf) → IsWord (operator t) x → IsTrue (among operators x)
  operator_fits t x w = fits operators x (word_kind (operator t)) w.kind_is (operator_kinds t)

  -- the name that a leaf is
  pub name_is : (n : NameView) (x : Leaf) → IsWord (name n.text) x → placeless_name (name_at text x) ≡ placeless_name n
  name_is n x w = ap (λ (t : List ℕ). record { text = t; place = 0 }) w.bytes_are

  -- the literal that a leaf is
  pub constant_is : (w : Word) (x : Leaf) → IsWord w x → (constant_at text x).what ≡ content_of (word_sort w) (word_text w)
  constant_is w x is = ap (λ (s : Sort). content_of s (bytes text x)) is.sort_is ∙ ap (λ (b : List ℕ). content_of (word_sort w) b) is.bytes_are

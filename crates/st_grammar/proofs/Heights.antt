-- A phrase closes what it opens.
use Rattle.std.proofs.Common.{◌≡◌, ℕ, ◌+◌, ◌-◌, ◌≤◌, max, Bool, true, false, cond, List, [], ◌∷◌, ◌++◌, refl, sym, ap, ◌∙◌, append_assoc, arith}
use Rattle.std.proofs.lemmas.List.{append-nil}
use Rattle.st_grammar.specs.declared.leaf.Leaf.{Leaf}
use Rattle.st_grammar.specs.Leaves.{among, openings, closings}
use Rattle.st_grammar.specs.Faults.{level, height, highest}

pub record IsBalanced (ts : List Leaf) : Type 0 where
  pub flat : (h : ℕ) (l : List Leaf) → height h (ts ++ l) ≡ height h l
  pub nests : (h : ℕ) → highest h ts ≡ h + highest 0 ts

pub from_start : (h : ℕ) (ts : List Leaf) → h ≤ highest h ts
from_start h [] = omega arith
from_start h (x ∷ ts) = omega arith

pub height_append : (h : ℕ) (a b : List Leaf) → height h (a ++ b) ≡ height (height h a) b
height_append h [] b = refl
height_append h (x ∷ a) b = height_append (level h x) a b

pub highest_append : (h : ℕ) (a b : List Leaf) → highest h (a ++ b) ≡ max (highest h a) (highest (height h a) b)
highest_append h [] b = omega (arith, from_start h b)
highest_append h (x ∷ a) b = omega (arith, highest_append (level h x) a b)

pub flat_height : (h : ℕ) (ts : List Leaf) → IsBalanced ts → height h ts ≡ h
flat_height h ts b = ap (height h) (sym (append-nil ts)) ∙ b.flat h []

pub behind_balanced : (h : ℕ) (a b : List Leaf) → IsBalanced a → highest h (a ++ b) ≡ max (highest h a) (highest h b)
behind_balanced h a b bal = highest_append h a b ∙ ap (λ (k : ℕ). max (highest h a) (highest k b)) (flat_height h a bal)

pub balanced_nil : IsBalanced []
balanced_nil = record { flat = λ h l. refl; nests = λ h. omega arith }

level_neutral : (h : ℕ) (x : Leaf) → among openings x ≡ false → among closings x ≡ false → level h x ≡ h
level_neutral h x p q = rw (p, q) refl

level_opening : (h : ℕ) (x : Leaf) → among openings x ≡ true → level h x ≡ h + 1
level_opening h x p = rw p refl

level_closing : (h : ℕ) (x : Leaf) → among openings x ≡ false → among closings x ≡ true → level h x ≡ h - 1
level_closing h x p q = rw (p, q) refl

pub balanced_one : (x : Leaf) → among openings x ≡ false → among closings x ≡ false → IsBalanced (x ∷ [])
balanced_one x p q = record {
  flat = λ h l. ap (λ (k : ℕ). height k l) (level_neutral h x p q);
  nests = λ h. omega (arith, level_neutral h x p q, level_neutral 0 x p q);
}

pub balanced_append : (a b : List Leaf) → IsBalanced a → IsBalanced b → IsBalanced (a ++ b)
balanced_append a b p q = record {
  flat = λ h l. ap (height h) (append_assoc a b l) ∙ p.flat h (b ++ l) ∙ q.flat h l;
  nests = λ h. omega (arith, behind_balanced h a b p, behind_balanced 0 a b p, p.nests h, q.nests h);
}

module _ (o : Leaf) (ts : List Leaf) (c : Leaf) (opens : among openings o ≡ true) (other : among openings c ≡ false) (closes : among closings c ≡ true) (b : IsBalanced ts) where
  pub highest_bracket : (h : ℕ) → highest h (o ∷ (ts ++ c ∷ [])) ≡ h + (highest 0 ts + 1)
  highest_bracket h =
      let up = level_opening h o opens in
      let inside = behind_balanced (h + 1) ts (c ∷ []) b in
      let down = level_closing (h + 1) c other closes in
      let same : highest (level h o) (ts ++ c ∷ []) ≡ highest (h + 1) (ts ++ c ∷ []) = ap (λ (k : ℕ). highest k (ts ++ c ∷ [])) up in
      omega (arith, b.nests (h + 1))

  pub balanced_bracket : IsBalanced (o ∷ (ts ++ c ∷ []))
  balanced_bracket = record {
    flat = λ h l.
        let back : h + 1 - 1 ≡ h = omega arith in
        ap (λ (k : ℕ). height k ((ts ++ c ∷ []) ++ l)) (level_opening h o opens)
        ∙ ap (height (h + 1)) (append_assoc ts (c ∷ []) l)
        ∙ b.flat (h + 1) (c ∷ l)
        ∙ ap (λ (k : ℕ). height k l) (level_closing (h + 1) c other closes ∙ back);
    nests = λ h. omega (arith, highest_bracket h, highest_bracket 0);
  }

-- in front of a bracket's inside
pub highest_inside : (h : ℕ) (o : Leaf) (ts : List Leaf) → among openings o ≡ true → highest h (o ∷ ts) ≡ max h (highest (h + 1) ts)
highest_inside h o ts opens = ap (λ (k : ℕ). max h (highest k ts)) (level_opening h o opens)

pub height_inside : (h : ℕ) (o : Leaf) (ts : List Leaf) → among openings o ≡ true → height h (o ∷ ts) ≡ height (h + 1) ts
height_inside h o ts opens = ap (λ (k : ℕ). height k ts) (level_opening h o opens)

-- one more open before raises the height by one at most
level_up : (h : ℕ) (x : Leaf) (p q : Bool) → cond p (h + 1 + 1) (cond q (h + 1 - 1) (h + 1)) ≤ cond p (h + 1) (cond q (h - 1) h) + 1
level_up h x true q = omega arith
level_up h x false true = omega arith
level_up h x false false = omega arith

pub highest_grows : (h k : ℕ) (ts : List Leaf) → h ≤ k → highest h ts ≤ highest k ts
highest_grows h k [] le = le
highest_grows h k (x ∷ ts) le = omega (arith, le, highest_grows (level h x) (level k x) ts (level_grows h k (among openings x) (among closings x) le))
  where
    level_grows : (h k : ℕ) (p q : Bool) → h ≤ k → cond p (h + 1) (cond q (h - 1) h) ≤ cond p (k + 1) (cond q (k - 1) k)
    level_grows h k true q le = omega arith
    level_grows h k false true le = omega arith
    level_grows h k false false le = omega arith

pub highest_up : (h : ℕ) (ts : List Leaf) → highest (h + 1) ts ≤ highest h ts + 1
highest_up h [] = omega arith
highest_up h (x ∷ ts) =
    let up = level_up h x (among openings x) (among closings x) in
    omega (arith, highest_grows (level (h + 1) x) (level h x + 1) ts up, highest_up (level h x) ts)

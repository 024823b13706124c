-- Words one after the other: what the scanner and the brackets make of them.
use Rattle.std.proofs.Common.{◌≡◌, ℕ, ◌+◌, ◌-◌, ◌≤◌, Bool, true, false, List, [], ◌∷◌, ◌++◌, refl, sym, ap, subst, arith}
use Rattle.std.specs.Prelude.{◌||◌, ◌==◌, IsTrue}
use Rattle.std.specs.Str.{byte}
use Rattle.st_scan.specs.declared.token.Sort.{Sort}
use Rattle.st_scan.specs.declared.token.Sort.TheVariants as sorts
use Rattle.st_scan.specs.Pieces.{is_name, is_operator, greatest}
use Rattle.st_scan.specs.Bytes.{is_mark}
use Rattle.st_scan.specs.Scans.{Context, signs, depth_after}
use Rattle.st_scan.specs.Pieces as pieces
use Rattle.st_grammar.specs.declared.leaf.Kind.{Kind}
use Rattle.st_grammar.specs.Leaves.{kind_of_sort, mark_kind}
use Rattle.st_grammar.specs.Faults.{level}
use Rattle.st_grammar.specs.inside.Formed.{IsSymbol}
use Rattle.st_grammar.proofs.KindSets.{sample}
use Rattle.st_print.specs.Words.{Word, name, keyword, operator, number, character, string, symbol, opening, mark, word_text}

-- the sort and the kind of a word
abbrev pub word_sort : Word → Sort
word_sort (name text) = sorts.Name
word_sort (keyword text) = sorts.Keyword
word_sort (operator text) = sorts.Operator
word_sort (number n) = sorts.Number n
word_sort (character b) = sorts.Character b
word_sort (string text) = sorts.Bytes
word_sort (symbol text) = sorts.Symbol
word_sort opening = sorts.Opening
word_sort (mark b) = sorts.Mark

abbrev pub word_kind : Word → Kind
word_kind w = kind_of_sort false (word_text w) (word_sort w)

-- a word in its form, where a sign may stand before it or not
abbrev pub WordFormed : (signs : Bool) → Word → Type 0
WordFormed s (name text) = IsTrue (is_name text)
WordFormed s (keyword text) = (n : List ℕ) × IsTrue (is_name n) × (n ++ byte ":" ∷ [] ≡ text)
WordFormed s (operator text) = IsTrue (is_operator text)
WordFormed s (number n) = (n.size ≤ greatest) × (IsTrue n.minus → IsTrue s)
WordFormed s (character b) = Unit {0}
WordFormed s (string text) = Unit {0}
WordFormed s (symbol text) = IsSymbol text
WordFormed s opening = Unit {0}
WordFormed s (mark b) = IsTrue (is_mark b)

-- what a word makes of the tokens so far, and of the brackets that are open
abbrev pub word_operand : Word → Bool
word_operand (keyword text) = false
word_operand (operator text) = false
word_operand opening = false
word_operand (mark b) = b == byte ")" || b == byte "]"
word_operand _ = true

abbrev pub word_depth : ℕ → Word → ℕ
word_depth n opening = n + 1
word_depth n (mark b) = depth_after n (pieces.mark (b ∷ []))
word_depth n _ = n

abbrev pub after_word : Context → Word → Context
after_word c w = record { operand = word_operand w; depth = word_depth c.depth w }

abbrev pub word_level : ℕ → Word → ℕ
word_level h opening = h + 1
word_level h (mark b) = level h (sample (mark_kind (b ∷ [])))
word_level h _ = h

-- Each word is formed, and no more than m brackets are open: from one context and height to another.
abbrev pub Goes : (m : ℕ) → Context → ℕ → List Word → Context → ℕ → Type 0
Goes m c h [] d k = (c ≡ d) × (h ≡ k)
Goes m c h (w ∷ ws) d k = WordFormed (signs c) w × (word_level h w ≤ m) × Goes m (after_word c w) (word_level h w) ws d k

pub goes_append : (m : ℕ) (c : Context) (h : ℕ) (ws : List Word) (d : Context) (k : ℕ) (vs : List Word) (e : Context) (l : ℕ)
    → Goes m c h ws d k → Goes m d k vs e l → Goes m c h (ws ++ vs) e l
goes_append m c h [] d k vs e l x y = subst (λ (b : Context). Goes m b h vs e l) (sym x.0) (subst (λ (j : ℕ). Goes m d j vs e l) (sym x.1) y)
goes_append m c h (w ∷ ws) d k vs e l x y = (x.0, x.1, goes_append m (after_word c w) (word_level h w) ws d k vs e l x.2 y)

-- outside of literal arrays, where no operand stands before, or one does
abbrev pub before : Context
before = record { operand = false; depth = 0 }

abbrev pub behind : Context
behind = record { operand = true; depth = 0 }

abbrev pub outside : Bool → Context
outside operand = record { operand = operand; depth = 0 }

-- what is in brackets
pub in_parentheses : (m h : ℕ) (o : Bool) (ws : List Word) → h + 1 ≤ m → Goes m before (h + 1) ws behind (h + 1) → Goes m (outside o) h (mark (byte "(") ∷ (ws ++ mark (byte ")") ∷ [])) behind h
in_parentheses m h o ws le g =
    let back : h + 1 - 1 ≡ h = omega arith in
    (refl, le, goes_append m before (h + 1) ws behind (h + 1) (mark (byte ")") ∷ []) behind h g (refl, omega arith, (refl, back)))

pub in_block : (m h : ℕ) (o p : Bool) (ws : List Word) → h + 1 ≤ m → Goes m before (h + 1) ws (outside p) (h + 1) → Goes m (outside o) h (mark (byte "[") ∷ (ws ++ mark (byte "]") ∷ [])) behind h
in_block m h o p ws le g =
    let back : h + 1 - 1 ≡ h = omega arith in
    (refl, le, goes_append m before (h + 1) ws (outside p) (h + 1) (mark (byte "]") ∷ []) behind h g (refl, omega arith, (refl, back)))

pub in_array : (m h : ℕ) (c d : Context) (ws : List Word) → h + 1 ≤ m → d.depth ≡ c.depth + 1 → Goes m (record { operand = false; depth = c.depth + 1 }) (h + 1) ws d (h + 1)
    → Goes m c h (opening ∷ (ws ++ mark (byte ")") ∷ [])) (record { operand = true; depth = c.depth }) h
in_array m h c d ws le same g =
    let back : h + 1 - 1 ≡ h = omega arith in
    let depth : d.depth - 1 ≡ c.depth = omega arith in (
      tt,
      le,
      goes_append m (record { operand = false; depth = c.depth + 1 }) (h + 1) ws d (h + 1) (mark (byte ")") ∷ []) (record { operand = true; depth = c.depth }) h g
          (refl, omega arith, (ap (λ (n : ℕ). record { operand = true; depth = n }) depth, back)),
    )

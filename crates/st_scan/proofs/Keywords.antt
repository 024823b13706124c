-- Keywords directly behind one another.
use Rattle.std.proofs.Common.{◌≡◌, ℕ, zero, suc, ◌+◌, ◌-◌, ◌≤◌, true, false, List, [], ◌∷◌, length, take, drop, refl, ap, ◌∙◌, arith, length-append, length-drop}
use Rattle.std.specs.List.{prefix_len}
use Rattle.std.specs.Char.{is_ascii_alphanumeric}
use Rattle.std.proofs.lemmas.List.{drop-drop}
use Rattle.std.proofs.lemmas.List.Folds.{length-prefix_len}
use Rattle.st_scan.specs.Pieces.{begins_keyword, keywords_text, symbol_text}
use Rattle.st_scan.specs.Fronts.{keywords_of, selector_at}

pub record Kept (text : List ℕ) (i : ℕ) : Type 0 where
  pub bound : ℕ
  pub enough : length text ≤ bound + i
  pub within : i ≤ length text
  pub so_far : i + length (keywords_text (keywords_of bound (drop i text))) ≡ length (keywords_text (keywords_of (length text) text))

pub kept_first : (text : List ℕ) → Kept text 0
kept_first text = record { bound = length text; enough = omega arith; within = omega arith; so_far = omega arith }

pub keywords-more : (n : ℕ) (bs : List ℕ) → begins_keyword bs ≡ true → keywords_of (suc n) bs ≡ take (prefix_len is_ascii_alphanumeric bs) bs ∷ keywords_of n (drop (prefix_len is_ascii_alphanumeric bs + 1) bs)
unfolding keywords_of
keywords-more n bs e = rw e refl

pub keywords-none : (n : ℕ) (bs : List ℕ) → begins_keyword bs ≡ false → keywords_of n bs ≡ []
unfolding keywords_of
keywords-none zero bs e = refl
keywords-none (suc n) bs e = rw e refl

pub kept_more : (text : List ℕ) (i k : ℕ) → Kept text i → begins_keyword (drop i text) ≡ true → k ≡ prefix_len is_ascii_alphanumeric (drop i text) + 1 → k ≤ length (drop i text) → Kept text (i + k)
kept_more text i k kept e is le =
    let n = prefix_len is_ascii_alphanumeric (drop i text) in
    let m = kept.bound - 1 in
    let one : kept.bound ≡ suc m = omega (arith, kept.enough, length-drop i text) in
    let same = ap (λ b. keywords_of b (drop i text)) one ∙ keywords-more m (drop i text) e in
    let rest : drop (n + 1) (drop i text) ≡ drop (i + k) text = drop-drop (n + 1) i text ∙ ap (λ (j : ℕ). drop j text) (omega (arith, is)) in
    let first = length-prefix_len is_ascii_alphanumeric (drop i text) in
    record {
      bound = m;
      enough = omega (arith, kept.enough, one);
      within = omega (arith, length-drop i text);
      so_far = omega (
        arith,
        kept.so_far,
        is,
        first,
        ap (λ ks. length (keywords_text ks)) same,
        ap (λ (l : List ℕ). length (keywords_text (keywords_of m l))) rest,
        length-append (take n (drop i text)) (58 ∷ keywords_text (keywords_of m (drop (n + 1) (drop i text)))),
      );
    }

pub kept_last : (text : List ℕ) (i : ℕ) → Kept text i → begins_keyword (drop i text) ≡ false → i ≡ length (keywords_text (keywords_of (length text) text))
kept_last text i kept e = omega (arith, kept.so_far, ap (λ ks. length (keywords_text ks)) (keywords-none kept.bound (drop i text) e))

pub selector-keywords : (text rest : List ℕ) (n m : ℕ) → begins_keyword text ≡ true → n ≡ prefix_len is_ascii_alphanumeric text + 1 → rest ≡ drop n text → m ≡ length (keywords_text (keywords_of (length rest) rest))
    → n + m ≡ length (symbol_text (selector_at text))
unfolding selector_at
selector-keywords text rest n m e is behind count =
    let k = prefix_len is_ascii_alphanumeric text in
    let others = drop (k + 1) text in
    let same : rest ≡ others = behind ∙ ap (λ (j : ℕ). drop j text) is in
    rw e (
    omega (
      arith,
      is,
      count,
      ap (λ (l : List ℕ). length (keywords_text (keywords_of (length l) l))) same,
      length-prefix_len is_ascii_alphanumeric text,
      length-append (take k text) (58 ∷ keywords_text (keywords_of (length others) others)),
    )
    )

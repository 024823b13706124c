-- Selectors, keyword by keyword.
use Rattle.std.proofs.Common.{◌≡◌, ℕ, suc, ◌+◌, ◌≤◌, Bool, true, false, not, eqb, ◌||◌, List, [], ◌∷◌, ◌++◌, length, take, drop, inl, inr, refl, sym, ap, ◌∙◌, append_assoc, add-one, arith}
use Rattle.std.specs.Prelude.{IsTrue}
use Rattle.std.specs.List.{list_all}
use Rattle.std.specs.Str.{byte}
use Rattle.std.specs.Int.{is_in_range}
use Rattle.std.specs.Char.{is_ascii_alphabetic, is_ascii_alphanumeric}
use Rattle.std.proofs.lemmas.Bool.{and_parts, and_from, or_cases, ne_eqb}
use Rattle.std.proofs.lemmas.List.{drop-drop}
use Rattle.std.proofs.Math.Seq.{drop-append_seam}
use Rattle.st_scan.specs.Pieces.{begins, is_name, is_operator, keywords_text}
use Rattle.st_scan.specs.Bytes.{is_operator_byte}
use Rattle.st_scan.proofs.Prefixes.{prefix-all}
use Rattle.st_scan.proofs.Classes.{or_second, operator-sign, in_range}
use Rattle.st_grammar.specs.inside.Formed.{AreKeywords}
use Rattle.st_print.specs.Words.{keyword_end, first_keyword, other_keywords}
use Rattle.st_print.specs.Printed.{is_word}

abbrev no_colon : ℕ → Bool
no_colon b = not (eqb b (byte ":"))

plain : (b : ℕ) → is_ascii_alphanumeric b ≡ true → no_colon b ≡ true
plain b e = elim (or_cases (is_in_range 48 57 b || is_in_range 65 90 b) (is_in_range 97 122 b) e) [
  | inl low ↦ elim (or_cases (is_in_range 48 57 b) (is_in_range 65 90 b) low) [
    | inl digit ↦ let r = in_range 48 57 b digit in ap not (ne_eqb b 58 (λ s. omega arith))
    | inr upper ↦ let r = in_range 65 90 b upper in ap not (ne_eqb b 58 (λ s. omega arith))
  ]
  | inr lower ↦ let r = in_range 97 122 b lower in ap not (ne_eqb b 58 (λ s. omega arith))
]

all_plain : (n : List ℕ) → list_all is_ascii_alphanumeric n ≡ true → list_all no_colon n ≡ true
all_plain [] e = refl
all_plain (b ∷ n) e = let parts = and_parts (is_ascii_alphanumeric b) (list_all is_ascii_alphanumeric n) e in and_from _ _ (plain b parts.0) (all_plain n parts.1)

name_plain : (n : List ℕ) → is_name n ≡ true → list_all no_colon n ≡ true
name_plain n e = all_plain n (and_parts (begins is_ascii_alphabetic n) _ e).1

ends_at : (n rest : List ℕ) → is_name n ≡ true → keyword_end (n ++ byte ":" ∷ rest) ≡ length n + 1
ends_at n rest e = ap (λ (k : ℕ). k + 1) (prefix-all no_colon n (byte ":" ∷ rest) (name_plain n e) refl)

take_over : (n rest : List ℕ) → take (suc (length n)) (n ++ byte ":" ∷ rest) ≡ n ++ byte ":" ∷ []
take_over [] rest = refl
take_over (b ∷ n) rest = ap (λ (l : List ℕ). b ∷ l) (take_over n rest)

pub first_is : (n rest : List ℕ) → is_name n ≡ true → first_keyword (n ++ byte ":" ∷ rest) ≡ n ++ byte ":" ∷ []
first_is n rest e = ap (λ (k : ℕ). take k (n ++ byte ":" ∷ rest)) (ends_at n rest e) ∙ rw add-one (take_over n rest)

pub others_are : (n rest : List ℕ) → is_name n ≡ true → other_keywords (n ++ byte ":" ∷ rest) ≡ rest
others_are n rest e =
    ap (λ (k : ℕ). drop k (n ++ byte ":" ∷ rest)) (ends_at n rest e)
    ∙ sym (drop-drop 1 (length n) (n ++ byte ":" ∷ rest))
    ∙ ap (drop 1) (drop-append_seam n (byte ":" ∷ rest))

-- the first keyword of some, and the others
pub record FirstOf (selector : List ℕ) (count : ℕ) : Type 0 where
  pub name : List ℕ
  pub is_name : IsTrue (is_name name)
  pub first : name ++ byte ":" ∷ [] ≡ first_keyword selector
  pub others : AreKeywords (other_keywords selector) count
  pub begins : is_word selector ≡ true
  pub whole : first_keyword selector ++ other_keywords selector ≡ selector

begins_word : (n rest : List ℕ) → is_name n ≡ true → is_word (n ++ rest) ≡ true
begins_word [] rest e = absurd cc
begins_word (b ∷ n) rest e = (and_parts (is_ascii_alphabetic b) _ e).0

module _ (selector : List ℕ) (count : ℕ) (n : List ℕ) (ns : List (List ℕ)) (are : list_all is_name (n ∷ ns) ≡ true) (joined : keywords_text (n ∷ ns) ≡ selector) (counted : length (n ∷ ns) ≡ suc count) where
  first_from : FirstOf selector count
  first_from =
      let parts = and_parts (is_name n) (list_all is_name ns) are in
      let first : first_keyword selector ≡ n ++ byte ":" ∷ [] = ap first_keyword (sym joined) ∙ first_is n (keywords_text ns) parts.0 in
      let others : other_keywords selector ≡ keywords_text ns = ap other_keywords (sym joined) ∙ others_are n (keywords_text ns) parts.0 in
      record {
        name = n;
        is_name = parts.0;
        first = sym first;
        others = record { names = ns; are_names = parts.1; is_joined = sym others; counted = omega arith };
        begins = ap is_word (sym joined) ∙ begins_word n (byte ":" ∷ keywords_text ns) parts.0;
        whole = ap (λ (l : List ℕ). l ++ other_keywords selector) first ∙ ap (λ (l : List ℕ). (n ++ byte ":" ∷ []) ++ l) others ∙ append_assoc n (byte ":" ∷ []) (keywords_text ns) ∙ joined;
      }

first_among : (selector : List ℕ) (count : ℕ) (ns : List (List ℕ)) → list_all is_name ns ≡ true → keywords_text ns ≡ selector → length ns ≡ suc count → FirstOf selector count
first_among selector count [] are joined counted = absurd (omega arith)
first_among selector count (n ∷ ns) are joined counted = first_from selector count n ns are joined counted

pub first_of_some : (selector : List ℕ) (count : ℕ) → AreKeywords selector (suc count) → FirstOf selector count
first_of_some selector count k = first_among selector count k.names k.are_names k.is_joined k.counted

-- no keywords at all
none_left : (ns : List (List ℕ)) (selector : List ℕ) → keywords_text ns ≡ selector → length ns ≡ 0 → selector ≡ []
none_left [] selector joined none = sym joined
none_left (n ∷ ns) selector joined none = absurd (omega arith)

pub no_keywords : (selector : List ℕ) → AreKeywords selector 0 → selector ≡ []
no_keywords selector k = none_left k.names selector k.is_joined k.counted

-- an operator begins with no letter
pub operator_no_word : (o : List ℕ) → is_operator o ≡ true → is_word o ≡ false
operator_no_word [] e = absurd cc
operator_no_word (b ∷ []) e = (operator-sign b e).letter
operator_no_word (b ∷ c ∷ []) e = (operator-sign b (or_second (eqb b (byte "|")) _ (and_parts (is_operator_byte b) _ e).0)).letter
operator_no_word (b ∷ c ∷ d ∷ o) e = absurd cc

pub name_word : (n : List ℕ) → is_name n ≡ true → is_word n ≡ true
name_word n e = (and_parts (begins is_ascii_alphabetic n) _ e).0

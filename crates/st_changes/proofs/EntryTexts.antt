-- What the text of an entry is made of.
use Rattle.std.specs.List.{list_all}
use Rattle.std.specs.Char.{is_ascii_alphabetic, is_ascii_alphanumeric}
use Rattle.std.proofs.Common.{length-append, ◌≡◌, ℕ, ◌+◌, ◌≤◌, Bool, true, false, List, [], ◌∷◌, ◌++◌, length, reverse, drop, refl, sym, ap, ◌∙◌, append_assoc, arith, codes}
use Rattle.std.specs.Prelude.{◌&&◌, not, nat_le, IsTrue}
use Rattle.std.proofs.lemmas.Bool.{and_parts, leb-true, le-leb}
use Rattle.std.proofs.lemmas.List.{drop-drop}
use Rattle.st_chunk.specs.Texts.{mark, most, doubled, is_blank}
use Rattle.st_chunk.specs.Groups.{begins, GroupHeader, header_text}
use Rattle.st_chunk.specs.Definitions.{Definition, header_for, IsDefinition, line_feed, entry, method_part}
use Rattle.st_changes.specs.inside.Runs.{doubled_by, IsRun}
use Rattle.st_changes.specs.Entries.{side_front, IsHead, IsMethod, BeginsWith, is_text}
use Rattle.st_changes.proofs.Marks.{doubled_is, one_run, by-append, word_plain, twice_long, doubled_least}
use Rattle.st_changes.proofs.HeaderTexts.{ended, header_shape}

-- up to the method's text
pub head_run : (text : List ℕ) (h : GroupHeader) (behind : List ℕ) → IsHead text h behind → IsRun 33 (drop 1 text) (header_text h) (10 ∷ behind)
head_run text h behind head = record {
  is = ap (drop 1) head.is ∙ ap (λ (x : List ℕ). x ++ 33 ∷ 10 ∷ behind) (doubled_is (header_text h));
  alone = refl;
}

pub head_same : (text : List ℕ) (h : GroupHeader) (behind bytes rest : List ℕ) → IsHead text h behind → IsRun 33 (drop 1 text) bytes rest → (bytes ≡ header_text h) × (rest ≡ 10 ∷ behind)
head_same text h behind bytes rest head run =
    let is = head_run text h behind head in
    one_run 33 bytes rest (header_text h) (10 ∷ behind) run.alone refl (sym run.is ∙ is.is)

-- the method's text and what closes the group
pub method_run : (text bytes behind : List ℕ) → IsMethod text bytes behind → IsRun 33 text bytes (32 ∷ 33 ∷ 10 ∷ behind)
method_run text bytes behind method = record {
  is = method.is ∙ ap (λ (x : List ℕ). x ++ 33 ∷ 32 ∷ 33 ∷ 10 ∷ behind) (doubled_is bytes);
  alone = refl;
}

pub method_same : (text bytes behind found rest : List ℕ) → IsMethod text bytes behind → IsRun 33 text found rest → (found ≡ bytes) × (rest ≡ 32 ∷ 33 ∷ 10 ∷ behind)
method_same text bytes behind found rest method run =
    let is = method_run text bytes behind method in
    one_run 33 found rest bytes (32 ∷ 33 ∷ 10 ∷ behind) run.alone refl (sym run.is ∙ is.is)

-- WHOLE ENTRIES

false_not : (b : Bool) → b ≡ false → not b ≡ true
false_not b e = ap not e

not_false : (b : Bool) → not b ≡ true → b ≡ false
not_false true e = sym e
not_false false e = refl

pub text_good : (d : Definition) → IsDefinition d → IsTrue (is_text d.text)
text_good d good = rw (le-leb 1 (length d.text) good.there, le-leb (length d.text) most good.short, good.front, good.back) refl

pub entry_head : (d : Definition) (text behind : List ℕ) → BeginsWith d text behind → IsHead text (header_for d) (method_part d ++ behind)
entry_head d text behind begins = record {
  is = begins.is ∙ ap (λ (x : List ℕ). mark ∷ x) (append_assoc (doubled (header_text (header_for d))) (mark ∷ line_feed ∷ method_part d) behind);
  named = begins.good.named;
  short = begins.good.header;
}

pub entry_method : (d : Definition) (behind : List ℕ) → IsDefinition d → IsMethod (method_part d ++ behind) d.text behind
entry_method d behind good = record {
  is = append_assoc (doubled d.text) (codes "! !" ++ line_feed ∷ []) behind;
  good = text_good d good;
}

-- an entry as it is read
pub entry_read : (d : Definition) (text : List ℕ) (n k : ℕ) → IsHead text (header_for d) (drop n text) → IsMethod (drop n text) d.text (drop k (drop n text)) → BeginsWith d text (drop (n + k) text)
entry_read d text n k head method =
    let there : Bool = nat_le 1 (length d.text) in
    let short : Bool = nat_le (length d.text) most in
    let front : Bool = not (begins is_blank d.text) in
    let all = and_parts (there && short && front) (not (begins is_blank (reverse d.text))) method.good in
    let three = and_parts (there && short) front all.0 in
    let two = and_parts there short three.0 in
    record {
      good = record {
        named = head.named;
        there = leb-true 1 (length d.text) two.0;
        short = leb-true (length d.text) most two.1;
        front = not_false (begins is_blank d.text) three.1;
        back = not_false (begins is_blank (reverse d.text)) all.1;
        header = head.short;
      };
      is =
          head.is
          ∙ ap (λ (x : List ℕ). mark ∷ (doubled (header_text (header_for d)) ++ (mark ∷ line_feed ∷ x)))
          (method.is ∙ sym (append_assoc (doubled d.text) (codes "! !" ++ line_feed ∷ []) (drop k (drop n text))))
          ∙ ap (λ (x : List ℕ). mark ∷ x) (sym (append_assoc (doubled (header_text (header_for d))) (mark ∷ line_feed ∷ method_part d) (drop k (drop n text))))
          ∙ ap (λ (x : List ℕ). entry d ++ x) (drop-drop k n text);
    }

-- LENGTHS

plain_front : (meta : Bool) → doubled_by 33 (side_front meta) ≡ side_front meta
plain_front true = refl
plain_front false = refl

header_long : (d : Definition) → IsDefinition d → length (doubled (header_text (header_for d))) + length d.category ≡ length d.class + length (side_front d.meta) + length (doubled_by 33 d.category) + length (doubled_by 39 d.category) + 1
header_long d good =
    let all = (and_parts (begins is_ascii_alphabetic d.class) (list_all is_ascii_alphanumeric d.class) good.named).1 in
    let category = doubled_by 33 (doubled_by 39 d.category) in
    let tail : doubled_by 33 (ended d.category) ≡ category ++ 39 ∷ [] = by-append 33 (doubled_by 39 d.category) (39 ∷ []) in
    let is : doubled (header_text (header_for d)) ≡ d.class ++ (side_front d.meta ++ (category ++ 39 ∷ [])) =
    doubled_is (header_text (header_for d))
    ∙ ap (doubled_by 33) (header_shape (header_for d))
    ∙ by-append 33 d.class (side_front d.meta ++ ended d.category)
    ∙ ap (λ (x : List ℕ). x ++ doubled_by 33 (side_front d.meta ++ ended d.category)) (word_plain d.class all)
    ∙ ap (λ (x : List ℕ). d.class ++ x) (by-append 33 (side_front d.meta) (ended d.category) ∙ ap (λ (x : List ℕ). x ++ doubled_by 33 (ended d.category)) (plain_front d.meta) ∙ ap (λ (x : List ℕ). side_front d.meta ++ x) tail) in
    let long = ap length is in
    let l1 = length-append d.class (side_front d.meta ++ (category ++ 39 ∷ [])) in
    let l2 = length-append (side_front d.meta) (category ++ 39 ∷ []) in
    let l3 = length-append category (39 ∷ []) in
    omega (arith, long, l1, l2, l3, twice_long d.category)

pub entry_long : (d : Definition) → IsDefinition d
    → length (entry d) + length d.category ≡ length d.class + length (side_front d.meta) + length (doubled_by 33 d.category) + length (doubled_by 39 d.category) + 1 + length (doubled_by 33 d.text) + 7
entry_long d good =
    let header = header_long d good in
    let text = ap length (doubled_is d.text) in
    let l1 = length-append (doubled (header_text (header_for d))) (mark ∷ line_feed ∷ method_part d) in
    let l2 = length-append (doubled d.text) (codes "! !" ++ line_feed ∷ []) in
    omega (arith, header, text, l1, l2)

-- what it has is no longer than its header
pub parts_short : (d : Definition) → IsDefinition d → (length d.class ≤ most) × (length d.category ≤ most)
parts_short d good =
    let shape = ap length (header_shape (header_for d)) in
    let l1 = length-append d.class (side_front d.meta ++ ended d.category) in
    let l2 = length-append (side_front d.meta) (ended d.category) in
    let l3 = length-append (doubled_by 39 d.category) (39 ∷ []) in
    (omega (arith, shape, l1, good.header), omega (arith, shape, l1, l2, l3, doubled_least 39 d.category, good.header))

-- an entry as it is written
pub entry_put : (d : Definition) (header text : List ℕ) → header ≡ header_text (header_for d) → text ≡ d.text
    → (((33 ∷ doubled_by 33 header) ++ 33 ∷ 10 ∷ []) ++ doubled_by 33 text) ++ 33 ∷ 32 ∷ 33 ∷ 10 ∷ [] ≡ entry d
entry_put d header text h t =
    (λ i. (((33 ∷ doubled_by 33 (h i)) ++ 33 ∷ 10 ∷ []) ++ doubled_by 33 (t i)) ++ 33 ∷ 32 ∷ 33 ∷ 10 ∷ [])
    ∙ append_assoc ((33 ∷ doubled_by 33 (header_text (header_for d))) ++ 33 ∷ 10 ∷ []) (doubled_by 33 d.text) (33 ∷ 32 ∷ 33 ∷ 10 ∷ [])
    ∙ append_assoc (33 ∷ doubled_by 33 (header_text (header_for d))) (33 ∷ 10 ∷ []) (doubled_by 33 d.text ++ 33 ∷ 32 ∷ 33 ∷ 10 ∷ [])
    ∙ (λ i. 33 ∷ (sym (doubled_is (header_text (header_for d))) i ++ 33 ∷ 10 ∷ (sym (doubled_is d.text) i ++ 33 ∷ 32 ∷ 33 ∷ 10 ∷ [])))

-- What the text of a header is made of.
use Rattle.std.proofs.Common.{◌≡◌, ℕ, suc, ◌+◌, Bool, true, false, List, [], ◌∷◌, ◌++◌, length, take, drop, get_or, refl, sym, ap, ◌∙◌, append_assoc, arith, codes}
use Rattle.std.specs.Prelude.{IsTrue}
use Rattle.std.specs.List.{list_all, prefix_len}
use Rattle.std.specs.Char.{is_ascii_alphabetic, is_ascii_alphanumeric}
use Rattle.std.proofs.lemmas.List.{take-append-drop, drop-drop, append_cancel_left}
use Rattle.std.proofs.Math.Seq.{drop-append_seam}
use Rattle.std.proofs.lemmas.Bool.{and_parts}
use Rattle.st_chunk.proofs.Cases.{by_test}
use Rattle.st_chunk.specs.Groups.{begins, is_name, GroupHeader, header_text, quotes_doubled}
use Rattle.st_changes.specs.inside.Runs.{doubled_by, IsRun}
use Rattle.st_changes.specs.Entries.{side_front, IsSide, IsHeader}
use Rattle.st_changes.proofs.Marks.{quotes_are, one_run}

abbrev pub word : List ℕ → ℕ
word text = prefix_len is_ascii_alphanumeric text

-- a category as it stands in a header, with the quote behind it
abbrev pub ended : List ℕ → List ℕ
ended category = doubled_by 39 category ++ 39 ∷ []

pub header_shape : (h : GroupHeader) → header_text h ≡ h.class ++ (side_front h.meta ++ ended h.category)
header_shape h = ap (λ (x : List ℕ). h.class ++ x) (of_side h.meta h.category)
  where
    of_side : (meta : Bool) (category : List ℕ) → Rattle.st_chunk.specs.Groups.side_text meta ++ (codes " methodsFor: " ++ Rattle.st_chunk.specs.Groups.quoted category) ≡ side_front meta ++ ended category
    of_side true category = ap (λ (x : List ℕ). side_front true ++ (x ++ 39 ∷ [])) (quotes_are category)
    of_side false category = ap (λ (x : List ℕ). side_front false ++ (x ++ 39 ∷ [])) (quotes_are category)

no_letter : (meta : Bool) (more : List ℕ) → begins is_ascii_alphanumeric (side_front meta ++ more) ≡ false
no_letter true more = refl
no_letter false more = refl

word_is : (class more : List ℕ) → list_all is_ascii_alphanumeric class ≡ true → begins is_ascii_alphanumeric more ≡ false → word (class ++ more) ≡ length class
word_is [] [] all e = refl
word_is [] (b ∷ more) all e = rw e refl
word_is (b ∷ class) more all e =
    let parts = and_parts (is_ascii_alphanumeric b) (list_all is_ascii_alphanumeric class) all in
    rw (parts.0) (omega (arith, word_is class more parts.1 e))

-- what stands behind the class
pub behind_class : (text : List ℕ) (h : GroupHeader) → IsHeader text h → drop (word text) text ≡ side_front h.meta ++ ended h.category
behind_class text h is =
    let more : List ℕ = side_front h.meta ++ ended h.category in
    let all = (and_parts (begins is_ascii_alphabetic h.class) (list_all is_ascii_alphanumeric h.class) is.named).1 in
    let e : text ≡ h.class ++ more = is.is ∙ header_shape h in
    let n : word text ≡ length h.class = ap word e ∙ word_is h.class more all (no_letter h.meta (ended h.category)) in
    ap (λ k. drop k text) n ∙ ap (drop (length h.class)) e ∙ drop-append_seam h.class more

-- the two sides begin differently
side_same : (m k : Bool) (xs ys : List ℕ) → side_front m ++ xs ≡ side_front k ++ ys → m ≡ k
side_same true true xs ys e = refl
side_same false false xs ys e = refl
side_same true false xs ys e = let l = ap (λ (x : List ℕ). get_or x 1 0) e in absurd (omega (arith, l))
side_same false true xs ys e = let l = ap (λ (x : List ℕ). get_or x 1 0) e in absurd (omega (arith, l))

pub behind_side : (text : List ℕ) (h : GroupHeader) (meta : Bool) (n : ℕ) → IsHeader text h → IsSide (drop (word text) text) meta n
    → drop (word text + n) text ≡ ended h.category
behind_side text h meta n is side =
    let e = sym side.is ∙ behind_class text h is in
    let same = side_same meta h.meta (drop n (drop (word text) text)) (ended h.category) e in
    sym (drop-drop n (word text) text)
    ∙ append_cancel_left (side_front h.meta) (drop n (drop (word text) text)) (ended h.category) (ap (λ m. side_front m ++ drop n (drop (word text) text)) (sym same) ∙ e)

-- the category's quote stands last
pub nothing_behind : (text category bytes rest : List ℕ) → text ≡ ended category → IsRun 39 text bytes rest → rest ≡ []
nothing_behind text category bytes rest e run = (one_run 39 bytes rest category [] run.alone refl (sym run.is ∙ e)).1

one_longer : (b : ℕ) (text : List ℕ) → is_ascii_alphanumeric b ≡ true → word (b ∷ text) ≡ suc (word text)
one_longer b text e = rw e (omega arith)

all_taken : (text : List ℕ) → list_all is_ascii_alphanumeric (take (word text) text) ≡ true
all_taken [] = refl
all_taken (b ∷ text) = by_test (is_ascii_alphanumeric b)
    (λ e. ap (λ k. list_all is_ascii_alphanumeric (take k (b ∷ text))) (one_longer b text e) ∙ rw e (all_taken text))
    (λ e. rw e refl)

pub name_read : (text : List ℕ) → (word text ≡ 0 → ⊥) → is_ascii_alphabetic (get_or text 0 0) ≡ true → IsTrue (is_name (take (word text) text))
name_read [] some letter = absurd (some refl)
name_read (b ∷ text) some letter = by_test (is_ascii_alphanumeric b)
    (λ e. let first : is_ascii_alphabetic b ≡ true = letter in ap (λ k. is_name (take k (b ∷ text))) (one_longer b text e) ∙ rw (first, e) (all_taken text))
    (λ e. absurd (some (rw e refl)))

-- a header as it is read
pub header_read : (text category rest : List ℕ) (meta : Bool) (n : ℕ) → IsTrue (is_name (take (word text) text)) → IsSide (drop (word text) text) meta n
    → IsRun 39 (drop (word text + n) text) category rest → rest ≡ []
    → IsHeader text (record { class = take (word text) text; meta = meta; category = category })
header_read text category rest meta n named side run none = record {
  is =
      sym (take-append-drop (word text) text)
      ∙ ap (λ (x : List ℕ). take (word text) text ++ x) (side.is
      ∙ ap (λ (x : List ℕ). side_front meta ++ x) (drop-drop n (word text) text ∙ run.is ∙ ap (λ (x : List ℕ). doubled_by 39 category ++ 39 ∷ x) none))
      ∙ sym (header_shape (record { class = take (word text) text; meta = meta; category = category }));
  named = named;
}

-- a header as it is written
pub header_put : (h : GroupHeader) (class front category : List ℕ) → class ≡ h.class → front ≡ side_front h.meta → category ≡ h.category
    → ((class ++ front) ++ doubled_by 39 category) ++ 39 ∷ [] ≡ header_text h
header_put h class front category c f g =
    (λ i. ((c i ++ f i) ++ doubled_by 39 (g i)) ++ 39 ∷ [])
    ∙ append_assoc (h.class ++ side_front h.meta) (doubled_by 39 h.category) (39 ∷ [])
    ∙ append_assoc h.class (side_front h.meta) (ended h.category)
    ∙ sym (header_shape h)

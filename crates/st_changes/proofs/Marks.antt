-- Bytes up to a mark that stands alone.
use Rattle.std.proofs.Common.{◌≡◌, ℕ, ◌+◌, ◌<◌, ◌≤◌, Bool, true, false, List, [], ◌∷◌, ◌++◌, length, take, drop, get_or, add-one, refl, sym, ap, ◌∙◌, subst, append_assoc, arith, true≢false}
use Rattle.std.specs.Prelude.{◌==◌, if◌then◌else◌}
use Rattle.std.proofs.lemmas.List.{drop_more, drop_all}
use Rattle.std.proofs.lemmas.Bool.{eq-eqb, ne_eqb, eqb-true, and_parts}
use Rattle.std.specs.List.{list_all}
use Rattle.std.specs.Char.{is_ascii_alphanumeric}
use Rattle.std.proofs.Math.Seq.{take-suc}
use Rattle.st_chunk.proofs.Cases.{by_test}
use Rattle.st_chunk.specs.Texts.{mark, doubled}
use Rattle.st_chunk.specs.Groups.{begins, quotes_doubled}
use Rattle.st_changes.specs.inside.Runs.{doubled_by, IsRun}

abbrev pub starts : ℕ → List ℕ → Bool
starts q text = begins (λ b. b == q) text

pub by-mark : (q b : ℕ) (text : List ℕ) → (b == q) ≡ true → doubled_by q (b ∷ text) ≡ b ∷ b ∷ doubled_by q text
by-mark q b text e = rw e refl

pub by-other : (q b : ℕ) (text : List ℕ) → (b == q) ≡ false → doubled_by q (b ∷ text) ≡ b ∷ doubled_by q text
by-other q b text e = rw e refl

pub by-append : (q : ℕ) (xs ys : List ℕ) → doubled_by q (xs ++ ys) ≡ doubled_by q xs ++ doubled_by q ys
by-append q [] ys = refl
by-append q (b ∷ xs) ys =
    elim (b == q) as (λ t. (if t then b ∷ b ∷ doubled_by q (xs ++ ys) else b ∷ doubled_by q (xs ++ ys)) ≡ (if t then b ∷ b ∷ doubled_by q xs else b ∷ doubled_by q xs) ++ doubled_by q ys)
    [ true ↦ ap (λ zs. b ∷ b ∷ zs) (by-append q xs ys) | false ↦ ap (λ zs. b ∷ zs) (by-append q xs ys) ]

-- the two that chunks have
pub doubled_is : (xs : List ℕ) → doubled xs ≡ doubled_by mark xs
doubled_is [] = refl
doubled_is (b ∷ xs) =
    elim (b == mark) as (λ t. (if t then b ∷ b ∷ doubled xs else b ∷ doubled xs) ≡ (if t then b ∷ b ∷ doubled_by mark xs else b ∷ doubled_by mark xs))
    [ true ↦ ap (λ zs. b ∷ b ∷ zs) (doubled_is xs) | false ↦ ap (λ zs. b ∷ zs) (doubled_is xs) ]

pub quotes_are : (xs : List ℕ) → quotes_doubled xs ≡ doubled_by 39 xs
quotes_are [] = refl
quotes_are (b ∷ xs) =
    elim (b == 39) as (λ t. (if t then b ∷ b ∷ quotes_doubled xs else b ∷ quotes_doubled xs) ≡ (if t then b ∷ b ∷ doubled_by 39 xs else b ∷ doubled_by 39 xs))
    [ true ↦ ap (λ zs. b ∷ b ∷ zs) (quotes_are xs) | false ↦ ap (λ zs. b ∷ zs) (quotes_are xs) ]

-- HEADS AND TAILS

head_of : List ℕ → ℕ
head_of xs = get_or xs 0 0

same_head : (a b : ℕ) (xs ys : List ℕ) → a ∷ xs ≡ b ∷ ys → a ≡ b
same_head a b xs ys e = ap (λ (x : List ℕ). get_or x 0 0) e

same_tail : (a b : ℕ) (xs ys : List ℕ) → a ∷ xs ≡ b ∷ ys → xs ≡ ys
same_tail a b xs ys e = ap (λ (x : List ℕ). drop 1 x) e

no_head : (a : ℕ) (xs : List ℕ) → a ∷ xs ≡ [] → ⊥
no_head a xs e = let l = ap length e in omega (arith, l)

-- two bytes that are one are both marks or both none
apart_marks : (q a b : ℕ) → a ≡ b → (a == q) ≡ true → (b == q) ≡ false → ⊥
apart_marks q a b e is not = true≢false (sym is ∙ ap (λ n. n == q) e ∙ not)

-- THE FIRST MARK THAT STANDS ALONE

-- where no marks stand alone in bytes, no text is them and goes on with one that does
alone_first : (q b : ℕ) (bytes r xs : List ℕ) → starts q r ≡ false → q ∷ r ≡ doubled_by q (b ∷ bytes) ++ xs → ⊥
alone_first q b bytes r xs alone e = by_test (b == q)
    (λ is. let e2 : q ∷ r ≡ b ∷ b ∷ (doubled_by q bytes ++ xs) = e ∙ ap (λ (x : List ℕ). x ++ xs) (by-mark q b bytes is) in
    true≢false (sym is ∙ sym (ap (starts q) (same_tail q b r (b ∷ (doubled_by q bytes ++ xs)) e2)) ∙ alone))
    (λ not. let e2 : q ∷ r ≡ b ∷ (doubled_by q bytes ++ xs) = e ∙ ap (λ (x : List ℕ). x ++ xs) (by-other q b bytes not) in
    apart_marks q q b (same_head q b r (doubled_by q bytes ++ xs) e2) (eq-eqb q q refl) not)

-- one byte of both
next_same : {P : Type 0} (q b c : ℕ) (xs ys r s : List ℕ) → doubled_by q (b ∷ xs) ++ r ≡ doubled_by q (c ∷ ys) ++ s
    → (b ≡ c → doubled_by q xs ++ r ≡ doubled_by q ys ++ s → P) → P
next_same q b c xs ys r s e so = by_test (b == q)
    (λ is. by_test (c == q)
    (λ is2. let e2 : b ∷ b ∷ (doubled_by q xs ++ r) ≡ c ∷ c ∷ (doubled_by q ys ++ s) = sym (ap (λ (x : List ℕ). x ++ r) (by-mark q b xs is)) ∙ e ∙ ap (λ (x : List ℕ). x ++ s) (by-mark q c ys is2) in
    so (same_head b c _ _ e2) (same_tail b c _ _ (same_tail b c _ _ e2)))
    (λ not2. let e2 : b ∷ b ∷ (doubled_by q xs ++ r) ≡ c ∷ (doubled_by q ys ++ s) = sym (ap (λ (x : List ℕ). x ++ r) (by-mark q b xs is)) ∙ e ∙ ap (λ (x : List ℕ). x ++ s) (by-other q c ys not2) in
    absurd (apart_marks q b c (same_head b c _ _ e2) is not2)))
    (λ not. by_test (c == q)
    (λ is2. let e2 : b ∷ (doubled_by q xs ++ r) ≡ c ∷ c ∷ (doubled_by q ys ++ s) = sym (ap (λ (x : List ℕ). x ++ r) (by-other q b xs not)) ∙ e ∙ ap (λ (x : List ℕ). x ++ s) (by-mark q c ys is2) in
    absurd (apart_marks q c b (sym (same_head b c _ _ e2)) is2 not))
    (λ not2. let e2 : b ∷ (doubled_by q xs ++ r) ≡ c ∷ (doubled_by q ys ++ s) = sym (ap (λ (x : List ℕ). x ++ r) (by-other q b xs not)) ∙ e ∙ ap (λ (x : List ℕ). x ++ s) (by-other q c ys not2) in
    so (same_head b c _ _ e2) (same_tail b c _ _ e2)))

-- what stands before the first mark that stands alone is determined, and so is what stands behind
pub one_run : (q : ℕ) (xs r ys s : List ℕ) → starts q r ≡ false → starts q s ≡ false → doubled_by q xs ++ q ∷ r ≡ doubled_by q ys ++ q ∷ s → (xs ≡ ys) × (r ≡ s)
one_run q [] r [] s a b e = (refl, same_tail q q r s e)
one_run q [] r (c ∷ ys) s a b e = absurd (alone_first q c ys r (q ∷ s) a e)
one_run q (c ∷ xs) r [] s a b e = absurd (alone_first q c xs s (q ∷ r) b (sym e))
one_run q (c ∷ xs) r (d ∷ ys) s a b e = next_same q c d xs ys (q ∷ r) (q ∷ s) e
    (λ same more. let so = one_run q xs r ys s a b more in (ap (λ n. n ∷ xs) same ∙ ap (λ (x : List ℕ). d ∷ x) so.0, so.1))

-- bytes with each mark doubled have none
pub no_run : (q : ℕ) (xs r ys : List ℕ) → starts q r ≡ false → doubled_by q xs ++ q ∷ r ≡ doubled_by q ys ++ [] → ⊥
no_run q [] r [] a e = no_head q r e
no_run q [] r (c ∷ ys) a e = alone_first q c ys r [] a e
no_run q (c ∷ xs) r [] a e = absurd (front q c xs (q ∷ r) e)
  where
    front : (q c : ℕ) (xs r : List ℕ) → doubled_by q (c ∷ xs) ++ r ≡ [] → ⊥
    front q c xs r e = by_test (c == q)
        (λ is. no_head c _ (sym (ap (λ (x : List ℕ). x ++ r) (by-mark q c xs is)) ∙ e))
        (λ not. no_head c _ (sym (ap (λ (x : List ℕ). x ++ r) (by-other q c xs not)) ∙ e))
no_run q (c ∷ xs) r (d ∷ ys) a e = next_same q c d xs ys (q ∷ r) [] e (λ same more. no_run q xs r ys a more)

-- READING ON

-- a byte that is no mark
pub on_other : (q : ℕ) (text bytes : List ℕ) (at : ℕ) → at < length text → text ≡ doubled_by q bytes ++ drop at text → (get_or text at 0 == q) ≡ false
    → text ≡ doubled_by q (bytes ++ get_or text at 0 ∷ []) ++ drop (at + 1) text
on_other q text bytes at less so_far not =
    let b = get_or text at 0 in
    so_far
    ∙ ap (λ (x : List ℕ). doubled_by q bytes ++ x) (drop_more text at 0 less)
    ∙ sym (append_assoc (doubled_by q bytes) (b ∷ []) (drop (at + 1) text))
    ∙ ap (λ (x : List ℕ). x ++ drop (at + 1) text) (sym (by-append q bytes (b ∷ []) ∙ ap (λ (x : List ℕ). doubled_by q bytes ++ x) (by-other q b [] not)))

-- a mark that is doubled
pub on_pair : (q : ℕ) (text bytes : List ℕ) (at : ℕ) → at + 1 < length text → text ≡ doubled_by q bytes ++ drop at text → get_or text at 0 ≡ q → get_or text (at + 1) 0 ≡ q
    → text ≡ doubled_by q (bytes ++ get_or text at 0 ∷ []) ++ drop (at + 2) text
on_pair q text bytes at less so_far is next =
    let b = get_or text at 0 in
    let two : at + 1 + 1 ≡ at + 2 = omega arith in
    let mark : (b == q) ≡ true = ap (λ n. n == q) is ∙ eq-eqb q q refl in
    let both : drop at text ≡ b ∷ b ∷ drop (at + 2) text =
    drop_more text at 0 (omega arith)
    ∙ ap (λ (x : List ℕ). b ∷ x) (drop_more text (at + 1) 0 less ∙ ap (λ n. n ∷ drop (at + 1 + 1) text) (next ∙ sym is) ∙ ap (λ n. b ∷ drop n text) two) in
    so_far
    ∙ ap (λ (x : List ℕ). doubled_by q bytes ++ x) both
    ∙ sym (append_assoc (doubled_by q bytes) (b ∷ b ∷ []) (drop (at + 2) text))
    ∙ ap (λ (x : List ℕ). x ++ drop (at + 2) text) (sym (by-append q bytes (b ∷ []) ∙ ap (λ (x : List ℕ). doubled_by q bytes ++ x) (by-mark q b [] mark)))

-- a mark that stands alone
pub on_alone : (q : ℕ) (text bytes : List ℕ) (at : ℕ) → at < length text → text ≡ doubled_by q bytes ++ drop at text → get_or text at 0 ≡ q → starts q (drop (at + 1) text) ≡ false
    → IsRun q text bytes (drop (at + 1) text)
on_alone q text bytes at less so_far is alone = record {
  is = so_far ∙ ap (λ (x : List ℕ). doubled_by q bytes ++ x) (drop_more text at 0 less ∙ ap (λ n. n ∷ drop (at + 1) text) is);
  alone = alone;
}

-- the byte behind is none, or is no mark
pub alone_end : (q : ℕ) (text : List ℕ) (at : ℕ) → length text ≤ at → starts q (drop at text) ≡ false
alone_end q text at past = ap (starts q) (drop_all at text past)

pub alone_byte : (q : ℕ) (text : List ℕ) (at : ℕ) → at < length text → (get_or text at 0 == q) ≡ false → starts q (drop at text) ≡ false
alone_byte q text at less not = ap (starts q) (drop_more text at 0 less) ∙ not

-- the end of the text
pub at_end : (q : ℕ) (text bytes : List ℕ) (at : ℕ) → length text ≤ at → text ≡ doubled_by q bytes ++ drop at text → (xs r : List ℕ) → IsRun q text xs r → ⊥
at_end q text bytes at past so_far xs r run = no_run q xs r bytes run.alone (sym run.is ∙ so_far ∙ ap (λ (x : List ℕ). doubled_by q bytes ++ x) (drop_all at text past))

-- WRITING ON

pub by_next : (q : ℕ) (xs : List ℕ) (i : ℕ) → i < length xs → doubled_by q (take (i + 1) xs) ≡ doubled_by q (take i xs) ++ doubled_by q (get_or xs i 0 ∷ [])
by_next q xs i less = ap (doubled_by q) (next_taken xs i less) ∙ by-append q (take i xs) (get_or xs i 0 ∷ [])
  where
    next_taken : (xs : List ℕ) (i : ℕ) → i < length xs → take (i + 1) xs ≡ take i xs ++ get_or xs i 0 ∷ []
    next_taken xs i less = rw add-one (take-suc xs i 0 less)

pub one_mark : (q b : ℕ) → b ≡ q → doubled_by q (b ∷ []) ≡ b ∷ b ∷ []
one_mark q b is = by-mark q b [] (eq-eqb b q is)

pub one_other : (q b : ℕ) → (b ≡ q → ⊥) → doubled_by q (b ∷ []) ≡ b ∷ []
one_other q b not = by-other q b [] (ne_eqb b q not)

-- a byte put behind bytes, once or twice
pub put_one : (q : ℕ) (old xs : List ℕ) (i : ℕ) → i < length xs → (get_or xs i 0 ≡ q → ⊥) → (old ++ doubled_by q (take i xs)) ++ get_or xs i 0 ∷ [] ≡ old ++ doubled_by q (take (i + 1) xs)
put_one q old xs i less not =
    append_assoc old (doubled_by q (take i xs)) (get_or xs i 0 ∷ [])
    ∙ ap (λ (x : List ℕ). old ++ x) (ap (λ (x : List ℕ). doubled_by q (take i xs) ++ x) (sym (one_other q (get_or xs i 0) not)) ∙ sym (by_next q xs i less))

pub put_two : (q : ℕ) (old xs : List ℕ) (i : ℕ) → i < length xs → get_or xs i 0 ≡ q
    → ((old ++ doubled_by q (take i xs)) ++ get_or xs i 0 ∷ []) ++ get_or xs i 0 ∷ [] ≡ old ++ doubled_by q (take (i + 1) xs)
put_two q old xs i less is =
    let b = get_or xs i 0 in
    append_assoc (old ++ doubled_by q (take i xs)) (b ∷ []) (b ∷ [])
    ∙ append_assoc old (doubled_by q (take i xs)) (b ∷ b ∷ [])
    ∙ ap (λ (x : List ℕ). old ++ x) (ap (λ (x : List ℕ). doubled_by q (take i xs) ++ x) (sym (one_mark q b is)) ∙ sym (by_next q xs i less))

-- LENGTHS

-- where both marks are doubled, each makes one byte more
pub twice_long : (xs : List ℕ) → length (doubled_by 33 (doubled_by 39 xs)) + length xs ≡ length (doubled_by 33 xs) + length (doubled_by 39 xs)
twice_long [] = refl
twice_long (b ∷ xs) = by_test (b == 39)
    (λ quote. let other : (b == 33) ≡ false = ne_eqb b 33 (λ e. let q = eqb-true b 39 quote in omega arith) in
    let one = ap (λ (x : List ℕ). length (doubled_by 33 x)) (by-mark 39 b xs quote) ∙ ap length (by-other 33 b (b ∷ doubled_by 39 xs) other) ∙ ap (λ (x : List ℕ). length (b ∷ x)) (by-other 33 b (doubled_by 39 xs) other) in
    omega (arith, one, twice_long xs, ap length (by-other 33 b xs other), ap length (by-mark 39 b xs quote)))
    (λ not. by_test (b == 33)
    (λ mark. let one = ap (λ (x : List ℕ). length (doubled_by 33 x)) (by-other 39 b xs not) ∙ ap length (by-mark 33 b (doubled_by 39 xs) mark) in
    omega (arith, one, twice_long xs, ap length (by-mark 33 b xs mark), ap length (by-other 39 b xs not)))
    (λ other. let one = ap (λ (x : List ℕ). length (doubled_by 33 x)) (by-other 39 b xs not) ∙ ap length (by-other 33 b (doubled_by 39 xs) other) in
    omega (arith, one, twice_long xs, ap length (by-other 33 b xs other), ap length (by-other 39 b xs not))))

-- letters and digits are no marks
pub word_plain : (xs : List ℕ) → list_all is_ascii_alphanumeric xs ≡ true → doubled_by 33 xs ≡ xs
word_plain [] all = refl
word_plain (b ∷ xs) all =
    let parts = and_parts (is_ascii_alphanumeric b) (list_all is_ascii_alphanumeric xs) all in
    by_test (b == 33)
    (λ e. let wrong : is_ascii_alphanumeric 33 ≡ true = subst (λ n. is_ascii_alphanumeric n ≡ true) (eqb-true b 33 e) parts.0 in absurd cc)
    (λ not. by-other 33 b xs not ∙ ap (λ (x : List ℕ). b ∷ x) (word_plain xs parts.1))

pub doubled_least : (q : ℕ) (xs : List ℕ) → length xs ≤ length (doubled_by q xs)
doubled_least q [] = omega arith
doubled_least q (b ∷ xs) = by_test (b == q)
    (λ is. omega (arith, ap length (by-mark q b xs is), doubled_least q xs))
    (λ not. omega (arith, ap length (by-other q b xs not), doubled_least q xs))

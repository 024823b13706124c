-- A text is said byte by byte as it is line by line.
use Rattle.std.proofs.Common.{◌≡◌, ℕ, suc, ◌+◌, ◌<◌, List, [], ◌∷◌, ◌++◌, length, take, get_or, Bool, true, false, refl, sym, ap, ◌∙◌, arith, append_assoc}
use Rattle.std.specs.Prelude.{codes, ◌==◌, if◌then◌else◌}
use Rattle.std.specs.List.{flat_map, onto_first}
use Rattle.std.proofs.lemmas.List.{take_more}
use Rattle.st_model.specs.Text.{escaped, escaped_byte}
use Rattle.st_browse.specs.Sources.{lines_of, source_line, source_byte}

-- HOW MANY LINES

-- how many line feeds a text has
feeds : List ℕ → ℕ
feeds [] = 0
feeds (b ∷ text) = if b == 10 then suc (feeds text) else feeds text

onto_first_length : (b n : ℕ) (lines : List (List ℕ)) → length lines ≡ suc n → length (onto_first b lines) ≡ suc n
onto_first_length b n [] e = absurd (omega (arith, e))
onto_first_length b n (line ∷ lines) e = e

lines_length : (text : List ℕ) → length (lines_of text) ≡ suc (feeds text)
unfolding feeds
lines_length [] = refl
lines_length (b ∷ text) = over (b == 10) (lines_length text)
  where
    over : (t : Bool) → length (lines_of text) ≡ suc (feeds text) → length (if t then [] ∷ lines_of text else onto_first b (lines_of text)) ≡ suc (if t then suc (feeds text) else feeds text)
    over true rest = ap suc rest
    over false rest = onto_first_length b (feeds text) (lines_of text) rest

feeds_both : (a c : List ℕ) → feeds (a ++ c) ≡ feeds a + feeds c
unfolding feeds
feeds_both [] c = omega arith
feeds_both (b ∷ a) c = over (b == 10) (feeds_both a c)
  where
    over : (t : Bool) → feeds (a ++ c) ≡ feeds a + feeds c → (if t then suc (feeds (a ++ c)) else feeds (a ++ c)) ≡ (if t then suc (feeds a) else feeds a) + feeds c
    over true rest = omega (arith, rest)
    over false rest = rest

feed_one : (b : ℕ) (t : Bool) → (b == 10) ≡ t → feeds (b ∷ []) ≡ (if t then 1 else 0)
unfolding feeds
feed_one b t e = ap (λ (x : Bool). if x then 1 else 0) e

-- one byte more
module _ (text : List ℕ) (i : ℕ) (less : i < length text) where
  more : (t : Bool) → (get_or text i 0 == 10) ≡ t → length (lines_of (take (i + 1) text)) ≡ length (lines_of (take i text)) + (if t then 1 else 0)
  more t e =
      let b = get_or text i 0 in
      let l1 = lines_length (take (i + 1) text) in
      let l2 = lines_length (take i text) in
      let both = ap feeds (take_more text i 0 less) ∙ feeds_both (take i text) (b ∷ []) in
      let one = feed_one b t e in
      omega (arith, l1, l2, both, one)

  pub line_more : (get_or text i 0 == 10) ≡ true → length (lines_of (take (i + 1) text)) ≡ length (lines_of (take i text)) + 1
  line_more e = more true e

  pub line_same : (get_or text i 0 == 10) ≡ false → length (lines_of (take (i + 1) text)) ≡ length (lines_of (take i text))
  line_same e = let m = more false e in omega (arith, m)

-- BYTES

abbrev all_lines : List (List ℕ) → List ℕ
all_lines lines = flat_map source_line lines

behind : (x y : List ℕ) → codes "| " ++ x ≡ codes "| " ++ y → x ≡ y
behind x y e = cc

first_byte : (b : ℕ) (lines : List (List ℕ)) (bytes : List ℕ) (n : ℕ) → length lines ≡ suc n → all_lines lines ≡ codes "| " ++ bytes
    → all_lines (onto_first b lines) ≡ codes "| " ++ (escaped_byte b ++ bytes)
first_byte b [] bytes n l e = absurd (omega (arith, l))
first_byte b (line ∷ lines) bytes n l e =
    let rest = all_lines lines in
    let same : (escaped line ++ codes "\n") ++ rest ≡ bytes = behind ((escaped line ++ codes "\n") ++ rest) bytes e in
    ap (λ (t : List ℕ). codes "| " ++ t)
    (ap (λ (t : List ℕ). t ++ rest) (append_assoc (escaped_byte b) (escaped line) (codes "\n"))
    ∙ (append_assoc (escaped_byte b) (escaped line ++ codes "\n") rest ∙ ap (λ (t : List ℕ). escaped_byte b ++ t) same))

pub lines_are : (text : List ℕ) → all_lines (lines_of text) ≡ codes "| " ++ (flat_map source_byte text ++ codes "\n")
lines_are [] = refl
lines_are (b ∷ text) = over (b == 10) (lines_are text)
  where
    over : (t : Bool) → all_lines (lines_of text) ≡ codes "| " ++ (flat_map source_byte text ++ codes "\n") → all_lines (if t then [] ∷ lines_of text else onto_first b (lines_of text)) ≡ codes "| " ++ (((if t then codes "\n| " else escaped_byte b) ++ flat_map source_byte text) ++ codes "\n")
    over true rest = ap (λ (t : List ℕ). codes "| \n" ++ t) rest
    over false rest =
        let bytes = flat_map source_byte text in
        first_byte b (lines_of text) (bytes ++ codes "\n") (feeds text) (lines_length text) rest
        ∙ ap (λ (t : List ℕ). codes "| " ++ t) (sym (append_assoc (escaped_byte b) bytes (codes "\n")))

-- Blanks at the ends of a text.
use Rattle.std.proofs.Common.{◌≡◌, ℕ, ◌+◌, ◌-◌, ◌<◌, suc, true, false, List, [], ◌∷◌, length, take, drop, get_or, reverse, refl, sym, ap, ◌∙◌, arith, add-one, length-drop}
use Rattle.std.specs.List.{prefix_len}
use Rattle.std.proofs.lemmas.List.{reverse-append, reverse-reverse, take_all}
use Rattle.std.proofs.Math.Seq.{take-suc}
use Rattle.st_chunk.specs.Texts.{is_blank}
use Rattle.st_chunk.specs.Groups.{after_blanks}
use Rattle.st_chunk.specs.inside.Headings.{before_blanks}
use Rattle.st_chunk.proofs.Cases.{by_test}

one : (n : ℕ) → 1 + n ≡ suc n
one n = omega arith

pub blanks_front : (text : List ℕ) → drop (prefix_len is_blank text) text ≡ after_blanks text
blanks_front [] = refl
blanks_front (b ∷ text) = by_test (is_blank b)
    (λ e. rw e (rw (one (prefix_len is_blank text)) (blanks_front text)))
    (λ e. rw e refl)

-- so much of the text, without the blanks at its end
last_first : (text : List ℕ) (k : ℕ) → k < length text → reverse (take (k + 1) text) ≡ get_or text k 0 ∷ reverse (take k text)
last_first text k less = rw add-one (ap reverse (take-suc text k 0 less) ∙ reverse-append (take k text) (get_or text k 0 ∷ []))

blank_step : (b : ℕ) (xs : List ℕ) → is_blank b ≡ true → after_blanks (b ∷ xs) ≡ after_blanks xs
blank_step b xs e = rw e refl

other_step : (b : ℕ) (xs : List ℕ) → is_blank b ≡ false → after_blanks (b ∷ xs) ≡ b ∷ xs
other_step b xs e = rw e refl

pub blank_last : (text : List ℕ) (k : ℕ) → k < length text → is_blank (get_or text k 0) ≡ true → before_blanks (take (k + 1) text) ≡ before_blanks (take k text)
blank_last text k less e =
    ap (λ (x : List ℕ). reverse (after_blanks x)) (last_first text k less)
    ∙ ap (λ (x : List ℕ). reverse x) (blank_step (get_or text k 0) (reverse (take k text)) e)

pub other_last : (text : List ℕ) (k : ℕ) → k < length text → is_blank (get_or text k 0) ≡ false → before_blanks (take (k + 1) text) ≡ take (k + 1) text
other_last text k less e =
    ap (λ (x : List ℕ). reverse (after_blanks x)) (last_first text k less)
    ∙ ap (λ (x : List ℕ). reverse x) (other_step (get_or text k 0) (reverse (take k text)) e ∙ sym (last_first text k less))
    ∙ reverse-reverse (take (k + 1) text)

pub all_taken : (text : List ℕ) → take (length text) text ≡ text
all_taken text = take_all (length text) text (omega arith)

-- what stands behind a place
pub tail_whole : (text : List ℕ) (n : ℕ) → take (length text - n) (drop n text) ≡ drop n text
tail_whole text n = take_all (length text - n) (drop n text) (omega (arith, length-drop n text))

pub ruleset blanks = (blanks_front, blank_last, other_last, all_taken, tail_whole)

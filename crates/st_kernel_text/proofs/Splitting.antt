-- The first word of a text, and what stands behind it.
use Rattle.std.proofs.Common.{◌≡◌, ℕ, ◌+◌, ◌≤◌, suc, true, List, [], ◌∷◌, ◌++◌, length, take, drop, refl, sym, ap, ◌∙◌, arith, append_assoc, Option, Some}
use Rattle.std.proofs.lemmas.List.{append-nil}
use Rattle.std.specs.List.{prefix_len, list_all}
use Rattle.std.specs.Option.{option_map}
use Rattle.std.specs.Global.{Vec}
use Rattle.st_chunk.proofs.Cases.{by_test}
use Rattle.st_chunk.specs.Texts.{is_blank}
use Rattle.st_chunk.specs.Groups.{after_blanks, is_name}
use Rattle.st_kernel_text.specs.Words.{words, words_from, no_blank, names_in}
use Rattle.st_kernel_text.specs.inside.Lists.{texts_of}

one : (n : ℕ) → 1 + n ≡ suc n
one n = omega arith

-- blanks at the front are no part of a word
pub words_behind_blanks : (text : List ℕ) → words (after_blanks text) ≡ words text
words_behind_blanks [] = refl
words_behind_blanks (b ∷ text) = by_test (is_blank b)
    (λ e. rw e (words_behind_blanks text))
    (λ e. rw (e, e) refl)

-- where no word stands at the front of what has no blank there, nothing stands
pub nothing_left : (text : List ℕ) → prefix_len no_blank (after_blanks text) ≡ 0 → after_blanks text ≡ []
nothing_left [] e = refl
nothing_left (b ∷ text) e = by_test (is_blank b)
    (λ is. let step : after_blanks (b ∷ text) ≡ after_blanks text = rw is refl in
    step ∙ nothing_left text (ap (prefix_len no_blank) (sym step) ∙ e))
    (λ is. let step : after_blanks (b ∷ text) ≡ b ∷ text = rw is refl in
    let count : prefix_len no_blank (b ∷ text) ≡ 1 + prefix_len no_blank text = rw is refl in
    let none : prefix_len no_blank (b ∷ text) ≡ 0 = ap (prefix_len no_blank) (sym step) ∙ e in
    absurd (omega (arith, count, none)))

-- a word goes up to the first blank
word_goes : (word text : List ℕ) → words_from word text ≡ (word ++ take (prefix_len no_blank text) text) ∷ words (drop (prefix_len no_blank text) text)
word_goes word [] = ap (λ (w : List ℕ). w ∷ []) (sym (append-nil word))
word_goes word (b ∷ text) = by_test (is_blank b)
    (λ e. rw (e, e) (ap (λ (w : List ℕ). w ∷ words text) (sym (append-nil word))))
    (λ e. rw e (rw (one (prefix_len no_blank text))
    (word_goes (word ++ b ∷ []) text ∙ ap (λ (w : List ℕ). w ∷ words (drop (prefix_len no_blank text) text)) (append_assoc word (b ∷ []) (take (prefix_len no_blank text) text)))))

pub first_is : (text : List ℕ) → (prefix_len no_blank text ≡ 0 → ⊥) → words text ≡ take (prefix_len no_blank text) text ∷ words (drop (prefix_len no_blank text) text)
first_is [] none = absurd (none refl)
first_is (b ∷ text) none = by_test (is_blank b)
    (λ e. let zero : prefix_len no_blank (b ∷ text) ≡ 0 = rw e refl in absurd (none zero))
    (λ e. rw e (rw (one (prefix_len no_blank text)) (word_goes (b ∷ []) text)))

pub after_short : (text : List ℕ) → length (after_blanks text) ≤ length text
after_short [] = omega arith
after_short (b ∷ text) = let less = after_short text in by_test (is_blank b) (λ e. rw e (omega arith)) (λ e. rw e (omega arith))

-- NAMES

texts_last : (ts : List (Vec ℕ)) (t : Vec ℕ) → texts_of (ts ++ t ∷ []) ≡ texts_of ts ++ t.items ∷ []
texts_last [] t = refl
texts_last (x ∷ ts) t = ap (λ (xs : List (List ℕ)). x.items ∷ xs) (texts_last ts t)

abbrev behind_names : List (List ℕ) → Option (List (List ℕ)) → Option (List (List ℕ))
behind_names front names = option_map (λ (xs : List (List ℕ)). front ++ xs) names

one_name : (front : List (List ℕ)) (word : List ℕ) (words : List (List ℕ)) → is_name word ≡ true
    → behind_names front (names_in (word ∷ words)) ≡ behind_names (front ++ word ∷ []) (names_in words)
one_name front word words e = rw e (by_test (list_all is_name words)
    (λ is. rw is (ap (λ (xs : List (List ℕ)). Some xs) (sym (append_assoc front (word ∷ []) words))))
    (λ is. rw is refl))

pub names_more : (whole rest behind : List (List ℕ)) (names new : List (Vec ℕ)) (t : Vec ℕ) (word : List ℕ) → names_in whole ≡ behind_names (texts_of names) (names_in rest)
    → rest ≡ word ∷ behind → is_name word ≡ true → new ≡ names ++ t ∷ [] → t.items ≡ word → names_in whole ≡ behind_names (texts_of new) (names_in behind)
names_more whole rest behind names new t word so_far is good put text =
    so_far
    ∙ ap (λ (ws : List (List ℕ)). behind_names (texts_of names) (names_in ws)) is
    ∙ one_name (texts_of names) word behind good
    ∙ ap (λ (w : List ℕ). behind_names (texts_of names ++ w ∷ []) (names_in behind)) (sym text)
    ∙ ap (λ (ts : List (List ℕ)). behind_names ts (names_in behind)) (sym (ap texts_of put ∙ texts_last names t))

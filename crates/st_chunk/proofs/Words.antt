-- What stands at the front of a text.
use Rattle.std.proofs.Common.{◌≡◌, ℕ, ◌+◌, ◌<◌, ◌≤◌, zero, suc, Bool, true, false, List, [], ◌∷◌, length, take, drop, get_or, refl, sym, ap, ◌∙◌, arith, Bor}
use Rattle.std.specs.Prelude.{◌==◌, ◌&&◌, ◌||◌, nat_eq, if◌then◌else◌, Option, Some, None, MatchOption}
use Rattle.std.specs.Option.{option_map}
use Rattle.std.specs.List.{prefix_len, list_all}
use Rattle.std.specs.Cmp.Lexicographic.{pointwise}
use Rattle.std.specs.Int.{is_in_range}
use Rattle.std.specs.Char.{is_ascii_alphabetic, is_ascii_alphanumeric}
use Rattle.std.proofs.Math.Seq.{drop-cons}
use Rattle.st_chunk.specs.Groups.{begins, is_name, word_of, behind_word, behind}
use Rattle.st_chunk.proofs.Cases.{by_test}

one : (n : ℕ) → 1 + n ≡ suc n
one n = omega arith

pub word_front : (text : List ℕ) → take (prefix_len is_ascii_alphanumeric text) text ≡ word_of text
word_front [] = refl
word_front (b ∷ text) = by_test (is_ascii_alphanumeric b)
    (λ e. rw e (rw (one (prefix_len is_ascii_alphanumeric text)) (ap (λ (x : List ℕ). b ∷ x) (word_front text))))
    (λ e. rw e refl)

pub word_behind : (text : List ℕ) → drop (prefix_len is_ascii_alphanumeric text) text ≡ behind_word text
word_behind [] = refl
word_behind (b ∷ text) = by_test (is_ascii_alphanumeric b)
    (λ e. rw e (rw (one (prefix_len is_ascii_alphanumeric text)) (word_behind text)))
    (λ e. rw e refl)

-- letters and digits, by which of the three they are
letter : (d u l : Bool) → (u || l) ≡ true → ((d || u) || l) ≡ true
letter true true l e = refl
letter true false true e = refl
letter true false false e = cc
letter false true l e = refl
letter false false true e = refl
letter false false false e = cc

alphanumeric : (b : ℕ) → is_ascii_alphabetic b ≡ true → is_ascii_alphanumeric b ≡ true
alphanumeric b e = letter (is_in_range 48 57 b) (is_in_range 65 90 b) (is_in_range 97 122 b) e

no_letter : (b : ℕ) → is_ascii_alphanumeric b ≡ false → is_ascii_alphabetic b ≡ false
no_letter b e = by_test (is_ascii_alphabetic b) (λ t. let h = alphanumeric b t in absurd cc) (λ f. f)

all_letters : (text : List ℕ) → list_all is_ascii_alphanumeric (word_of text) ≡ true
all_letters [] = refl
all_letters (b ∷ text) = by_test (is_ascii_alphanumeric b) (λ e. rw (e, e) (all_letters text)) (λ e. rw e refl)

both : (t : Bool) → (t && true) ≡ t
both true = refl
both false = refl

pub name_front : (text : List ℕ) → is_name (word_of text) ≡ begins is_ascii_alphabetic text
name_front [] = refl
name_front (b ∷ text) = by_test (is_ascii_alphanumeric b)
    (λ e. rw (e, e) (ap (λ t. is_ascii_alphabetic b && t) (all_letters text) ∙ both (is_ascii_alphabetic b)))
    (λ e. rw e (sym (no_letter b e)))

-- the first byte
pub begins_at : (p : ℕ → Bool) (text : List ℕ) (k d : ℕ) → k < length text → begins p (drop k text) ≡ p (get_or text k d)
begins_at p text k d less = ap (begins p) (drop-cons text k d less)

pub begins_first : (p : ℕ → Bool) (text : List ℕ) (d : ℕ) → 0 < length text → begins p text ≡ p (get_or text 0 d)
begins_first p [] d less = absurd (omega arith)
begins_first p (b ∷ text) d less = refl

pub begins_none : (p : ℕ → Bool) (text : List ℕ) (k : ℕ) → length text ≤ k → begins p (drop k text) ≡ false
begins_none p [] zero less = refl
begins_none p [] (suc k) less = refl
begins_none p (b ∷ text) zero less = absurd (omega arith)
begins_none p (b ∷ text) (suc k) less = begins_none p text k (omega arith)

pub begins_empty : (p : ℕ → Bool) (text : List ℕ) → length text ≡ 0 → begins p text ≡ false
begins_empty p [] e = refl
begins_empty p (b ∷ text) e = absurd (omega arith)

pub begins_within : (p : ℕ → Bool) (text : List ℕ) (k : ℕ) → begins p (drop k text) ≡ true → k < length text
begins_within p [] zero e = cc
begins_within p [] (suc k) e = cc
begins_within p (b ∷ text) zero e = omega arith
begins_within p (b ∷ text) (suc k) e = let less = begins_within p text k e in omega arith

-- what stands behind some bytes
pub behind_is : (front text : List ℕ) → behind front text ≡ (if pointwise nat_eq (take (length front) text) front then Some (drop (length front) text) else None)
behind_is [] text = refl
behind_is (b ∷ front) [] = refl
behind_is (b ∷ front) (c ∷ text) =
    elim (c == b) as (λ t. (if t then behind front text else None) ≡ (if t && pointwise nat_eq (take (length front) text) front then Some (drop (length front) text) else None))
    [ true ↦ behind_is front text | false ↦ refl ]

abbrev tested : List ℕ → List ℕ → Bool → Option (List ℕ)
tested front text t = if t then Some (drop (length front) text) else None

pub stripped : (front text : List ℕ) (o : Option (Bor (List ℕ)))
    → MatchOption o (pointwise nat_eq (take (length front) text) front ≡ false) (λ x. (pointwise nat_eq (take (length front) text) front ≡ true) × (x.now ≡ drop (length front) text) × (length x.now + length front ≡ length text))
    → option_map (λ x. x.now) o ≡ behind front text
stripped front text None other = sym (behind_is front text ∙ ap (tested front text) other)
stripped front text (Some x) same = ap (λ (y : List ℕ). Some y) same.1 ∙ sym (behind_is front text ∙ ap (tested front text) same.0)

pub ruleset words = (word_front, word_behind, name_front, begins_at, begins_first, begins_none, begins_empty, begins_within, behind_is)

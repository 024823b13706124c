-- Words put one after the other, and lists that are gone through.
use Rattle.std.proofs.Common.{◌≡◌, ℕ, suc, ◌+◌, ◌-◌, ◌<◌, ◌≤◌, false, List, [], ◌∷◌, ◌++◌, length, get_or, take, drop, refl, sym, ap, ◌∙◌, append_assoc, add-one, drop-cons, arith, length-drop}
use Rattle.std.specs.Prelude.{◌==◌}
use Rattle.std.specs.Str.{byte}
use Rattle.std.proofs.lemmas.List.{append-nil}
use Rattle.std.proofs.Math.Seq.{take-length}
use Rattle.st_print.specs.Words.{Word, word_text, spaced}
use Rattle.st_print.proofs.Spacing.{spaced-append}

-- a word
pub put_word : (out new : List ℕ) (w : Word) → new ≡ out ++ byte " " ∷ word_text w → new ≡ out ++ spaced (w ∷ [])
put_word out new w e = e ∙ ap (λ (x : List ℕ). out ++ byte " " ∷ x) (sym (append-nil (word_text w)))

-- words behind words
pub put_then : (out new end : List ℕ) (ws vs : List Word) → new ≡ out ++ spaced ws → end ≡ new ++ spaced vs → end ≡ out ++ spaced (ws ++ vs)
put_then out new end ws vs first second =
    second
    ∙ ap (λ (x : List ℕ). x ++ spaced vs) first
    ∙ append_assoc out (spaced ws) (spaced vs)
    ∙ ap (λ (x : List ℕ). out ++ x) (sym (spaced-append ws vs))

-- two words
pub put_two : (out new end : List ℕ) (w v : Word) → new ≡ out ++ byte " " ∷ word_text w → end ≡ new ++ byte " " ∷ word_text v → end ≡ out ++ spaced (w ∷ v ∷ [])
put_two out new end w v first second = put_then out new end (w ∷ []) (v ∷ []) (put_word out new w first) (put_word new end v second)

-- a turn of a loop: what is left gives what the whole gives
pub turn : (out new end : List ℕ) (all ws vs : List Word) → out ++ spaced all ≡ end → all ≡ ws ++ vs → new ≡ out ++ spaced ws → new ++ spaced vs ≡ end
turn out new end all ws vs kept parts step =
    put_then out new (new ++ spaced vs) ws vs step refl ∙ ap (λ (x : List Word). out ++ spaced x) (sym parts) ∙ kept

pub drop_at : {A : Type 0} (xs : List A) (i : ℕ) (x : A) → i < length xs → x ≡ get_or xs i x → drop i xs ≡ x ∷ drop (i + 1) xs
drop_at xs i x less is = rw add-one (drop-cons xs i x less ∙ ap (λ y. y ∷ drop (suc i) xs) (sym is))

-- a turn of a loop over a list
pub turn_at : {A : Type 0} (words_of : List A → List Word) (xs : List A) (i : ℕ) (x : A) (ws : List Word) (out new end : List ℕ) → i < length xs → x ≡ get_or xs i x → words_of (x ∷ drop (i + 1) xs) ≡ ws ++ words_of (drop (i + 1) xs)
    → out ++ spaced (words_of (drop i xs)) ≡ end → new ≡ out ++ spaced ws → new ++ spaced (words_of (drop (i + 1) xs)) ≡ end
turn_at words_of xs i x ws out new end less is more kept step = turn out new end (words_of (drop i xs)) ws (words_of (drop (i + 1) xs)) kept (ap words_of (drop_at xs i x less is) ∙ more) step

pub take_rest : {A : Type 0} (xs : List A) (i : ℕ) → take (length xs - i) (drop i xs) ≡ drop i xs
take_rest xs i = ap (λ n. take n (drop i xs)) (sym (length-drop i xs)) ∙ take-length (drop i xs)

pub not_empty : {A : Type 0} (xs : List A) → false ≡ (length xs == 0) → 1 ≤ length xs
not_empty [] e = absurd cc
not_empty (x ∷ xs) e = omega arith

-- the first of a list, and then the others
pub first_then : {A : Type 0} (words_of next : List A → List Word) (xs : List A) (ws : List Word) (out one end : List ℕ) → words_of xs ≡ ws ++ next (drop 1 xs) → one ≡ out ++ spaced ws
    → end ≡ one ++ spaced (next (take (length xs - 1) (drop 1 xs))) → end ≡ out ++ spaced (words_of xs)
first_then words_of next xs ws out one end parts first last =
    put_then out one end ws (next (drop 1 xs)) first (last ∙ ap (λ ys. one ++ spaced (next ys)) (take_rest xs 1)) ∙ ap (λ (vs : List Word). out ++ spaced vs) (sym parts)

-- Words behind words.
use Rattle.std.proofs.Common.{◌≡◌, ℕ, List, [], ◌∷◌, ◌++◌, drop, refl, sym, ap, ◌∙◌, append_assoc}
use Rattle.std.specs.Str.{byte}
use Rattle.st_print.specs.Words.{Word, word_text, spaced, text_of}

pub spaced-append : (xs ys : List Word) → spaced (xs ++ ys) ≡ spaced xs ++ spaced ys
spaced-append [] ys = refl
spaced-append (w ∷ xs) ys =
    ap (λ (x : List ℕ). byte " " ∷ (word_text w ++ x)) (spaced-append xs ys)
    ∙ ap (λ (x : List ℕ). byte " " ∷ x) (sym (append_assoc (word_text w) (spaced xs) (spaced ys)))

pub text_behind : (ws : List Word) → text_of ws ≡ drop 1 (spaced ws)
text_behind [] = refl
text_behind (w ∷ ws) = refl

pub ruleset spacing = (spaced-append, text_behind)

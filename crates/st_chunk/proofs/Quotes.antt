-- A string's bytes, up to its closing quote.
use Rattle.std.proofs.Common.{◌≡◌, ◌≢◌, ℕ, ◌+◌, ◌<◌, ◌≤◌, zero, suc, true, false, List, [], ◌∷◌, ◌++◌, length, drop, get_or, refl, sym, ap, ◌∙◌, arith, append_assoc, length-drop}
use Rattle.std.specs.Prelude.{◌==◌, Option, Some, None}
use Rattle.std.specs.Option.{option_map}
use Rattle.std.proofs.lemmas.Bool.{eqb-true}
use Rattle.std.proofs.lemmas.List.{append-nil, drop_all}
use Rattle.std.proofs.Math.Seq.{drop-cons}
use Rattle.st_chunk.specs.Groups.{begins, inside_quotes, behind_quote}

-- what the whole text means, where these bytes were read of it
abbrev pub Goes : List ℕ → List ℕ → ℕ → Type 0
Goes text done at = inside_quotes text ≡ option_map (λ t. done ++ t) (inside_quotes (drop at text))

next : (n : ℕ) → n + 1 ≡ suc n
next n = omega arith

composed : (done : List ℕ) (b : ℕ) (o : Option (List ℕ)) → option_map (λ t. done ++ t) (option_map (λ t. b ∷ t) o) ≡ option_map (λ t. (done ++ b ∷ []) ++ t) o
composed done b None = refl
composed done b (Some t) = ap (λ (x : List ℕ). Some x) (sym (append_assoc done (b ∷ []) t))

inside_other : (b : ℕ) (t : List ℕ) → (b == 39) ≡ false → inside_quotes (b ∷ t) ≡ option_map (λ x. b ∷ x) (inside_quotes t)
inside_other b t e = rw e refl

inside_mark : (b : ℕ) (t : List ℕ) → (b == 39) ≡ true → inside_quotes (b ∷ t) ≡ behind_quote t
inside_mark b t e = rw e refl

pub quote_other : (text done : List ℕ) (at : ℕ) → at < length text → (get_or text at 0 == 39) ≡ false → Goes text done at → Goes text (done ++ get_or text at 0 ∷ []) (at + 1)
quote_other text done at less other so_far =
    let b = get_or text at 0 in
    so_far
    ∙ ap (λ (x : List ℕ). option_map (λ t. done ++ t) (inside_quotes x)) (drop-cons text at 0 less)
    ∙ ap (λ (o : Option (List ℕ)). option_map (λ t. done ++ t) o) (inside_other b (drop (suc at) text) other)
    ∙ composed done b (inside_quotes (drop (suc at) text))
    ∙ ap (λ (k : ℕ). option_map (λ t. (done ++ b ∷ []) ++ t) (inside_quotes (drop k text))) (sym (next at))

pair_form : (t : List ℕ) → begins (λ b. b == 39) t ≡ true → behind_quote t ≡ option_map (λ x. 39 ∷ x) (inside_quotes (drop 1 t))
pair_form [] e = cc
pair_form (b ∷ t) e = rw e (ap (λ (n : ℕ). option_map (λ x. n ∷ x) (inside_quotes t)) (eqb-true b 39 e))

drop_one : (k : ℕ) (text : List ℕ) → drop 1 (drop k text) ≡ drop (suc k) text
drop_one zero [] = refl
drop_one (suc k) [] = refl
drop_one zero (b ∷ t) = refl
drop_one (suc k) (b ∷ t) = drop_one k t

marked : (text done : List ℕ) (at : ℕ) → at < length text → (get_or text at 0 == 39) ≡ true → Goes text done at
    → inside_quotes text ≡ option_map (λ t. done ++ t) (behind_quote (drop (at + 1) text))
marked text done at less is so_far =
    so_far
    ∙ ap (λ (x : List ℕ). option_map (λ t. done ++ t) (inside_quotes x)) (drop-cons text at 0 less)
    ∙ ap (λ (o : Option (List ℕ)). option_map (λ t. done ++ t) o) (inside_mark (get_or text at 0) (drop (suc at) text) is)
    ∙ ap (λ (k : ℕ). option_map (λ t. done ++ t) (behind_quote (drop k text))) (sym (next at))

two_on : (at : ℕ) → suc (at + 1) ≡ at + 2
two_on at = omega arith

pub quote_pair : (text done : List ℕ) (at : ℕ) → at < length text → (get_or text at 0 == 39) ≡ true → begins (λ b. b == 39) (drop (at + 1) text) ≡ true → Goes text done at
    → Goes text (done ++ get_or text at 0 ∷ []) (at + 2)
quote_pair text done at less is more so_far =
    marked text done at less is so_far
    ∙ ap (λ (o : Option (List ℕ)). option_map (λ t. done ++ t) o) (pair_form (drop (at + 1) text) more)
    ∙ composed done 39 (inside_quotes (drop 1 (drop (at + 1) text)))
    ∙ ap (λ (n : ℕ). option_map (λ t. (done ++ n ∷ []) ++ t) (inside_quotes (drop 1 (drop (at + 1) text)))) (sym (eqb-true (get_or text at 0) 39 is))
    ∙ ap (λ (x : List ℕ). option_map (λ t. (done ++ get_or text at 0 ∷ []) ++ t) (inside_quotes x)) (drop_one (at + 1) text ∙ ap (λ (k : ℕ). drop k text) (two_on at))

nothing_behind : (t : List ℕ) → length t ≡ 0 → behind_quote t ≡ Some []
nothing_behind [] e = refl
nothing_behind (b ∷ t) e = absurd (omega arith)

something_behind : (t : List ℕ) → 0 < length t → begins (λ b. b == 39) t ≡ false → behind_quote t ≡ None
something_behind [] less e = absurd (omega arith)
something_behind (b ∷ t) less e = rw e refl

-- the closing quote
pub quote_closes : (text done : List ℕ) (at : ℕ) → at < length text → (get_or text at 0 == 39) ≡ true → at + 1 ≡ length text → Goes text done at → inside_quotes text ≡ Some done
quote_closes text done at less is end so_far =
    marked text done at less is so_far
    ∙ ap (λ (o : Option (List ℕ)). option_map (λ t. done ++ t) o) (nothing_behind (drop (at + 1) text) (omega (arith, length-drop (at + 1) text)))
    ∙ ap (λ (x : List ℕ). Some x) (append-nil done)

pub quote_within : (text done : List ℕ) (at : ℕ) → at < length text → (get_or text at 0 == 39) ≡ true → at + 1 ≢ length text → begins (λ b. b == 39) (drop (at + 1) text) ≡ false → Goes text done at
    → inside_quotes text ≡ None
quote_within text done at less is far none so_far =
    marked text done at less is so_far
    ∙ ap (λ (o : Option (List ℕ)). option_map (λ t. done ++ t) o) (something_behind (drop (at + 1) text) (omega (arith, length-drop (at + 1) text)) none)

pub quote_missing : (text done : List ℕ) (at : ℕ) → length text ≤ at → Goes text done at → inside_quotes text ≡ None
quote_missing text done at far so_far = so_far ∙ ap (λ (x : List ℕ). option_map (λ t. done ++ t) (inside_quotes x)) (drop_all at text far)

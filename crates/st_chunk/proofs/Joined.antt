-- A text is that of what is cut from it.
use Rattle.std.proofs.Common.{◌≡◌, ℕ, true, false, List, [], ◌∷◌, ◌++◌, refl, sym, ap, ◌∙◌, append_assoc}
use Rattle.std.specs.Prelude.{◌==◌, if◌then◌else◌}
use Rattle.std.proofs.lemmas.List.{append-nil}
use Rattle.std.proofs.lemmas.Bool.{eqb-true}
use Rattle.st_chunk.proofs.Cases.{by_test}
use Rattle.st_chunk.specs.Texts.{mark, cut_behind, behind_mark, cut, doubled, joined}

pub doubled-one : (b : ℕ) → (b == mark) ≡ false → doubled (b ∷ []) ≡ b ∷ []
doubled-one b e = rw e

pub doubled-append : (xs ys : List ℕ) → doubled (xs ++ ys) ≡ doubled xs ++ doubled ys
doubled-append [] ys = refl
doubled-append (b ∷ xs) ys =
    elim (b == mark) as (λ t. (if t then b ∷ b ∷ doubled (xs ++ ys) else b ∷ doubled (xs ++ ys)) ≡ (if t then b ∷ b ∷ doubled xs else b ∷ doubled xs) ++ doubled ys)
    [ true ↦ ap (λ zs. b ∷ b ∷ zs) (doubled-append xs ys) | false ↦ ap (λ zs. b ∷ zs) (doubled-append xs ys) ]

-- one byte more of what stands before a text
kept : (before : List ℕ) (b : ℕ) (text : List ℕ) → (b == mark) ≡ false → doubled (before ++ b ∷ []) ++ text ≡ doubled before ++ b ∷ text
kept before b text e =
    ap (λ (x : List ℕ). x ++ text) (doubled-append before (b ∷ []) ∙ ap (λ (x : List ℕ). doubled before ++ x) (doubled-one b e))
    ∙ append_assoc (doubled before) (b ∷ []) text

twice : (before : List ℕ) (b : ℕ) (text : List ℕ) → (b == mark) ≡ true → doubled (before ++ b ∷ []) ++ text ≡ doubled before ++ mark ∷ b ∷ text
twice before b text e =
    let two : doubled (b ∷ []) ≡ mark ∷ b ∷ [] = rw e (ap (λ (n : ℕ). n ∷ b ∷ []) (eqb-true b mark e)) in
    ap (λ (x : List ℕ). x ++ text) (doubled-append before (b ∷ []) ∙ ap (λ (x : List ℕ). doubled before ++ x) two)
    ∙ append_assoc (doubled before) (mark ∷ b ∷ []) text

mutual
  joined_behind : (before text : List ℕ) → joined (cut_behind before text) ≡ doubled before ++ text
  joined_behind before [] = sym (append-nil (doubled before))
  joined_behind before (b ∷ text) = by_test (b == mark)
      (λ e. rw e (joined_marked before text ∙ ap (λ (n : ℕ). doubled before ++ n ∷ text) (sym (eqb-true b mark e))))
      (λ e. rw e (joined_behind (before ++ b ∷ []) text ∙ kept before b text e))

  joined_marked : (before text : List ℕ) → joined (behind_mark before text) ≡ doubled before ++ mark ∷ text
  joined_marked before [] = refl
  joined_marked before (b ∷ text) = by_test (b == mark)
      (λ e. rw e (joined_behind (before ++ b ∷ []) text ∙ twice before b text e))
      (λ e. rw e (ap (λ (x : List ℕ). doubled before ++ mark ∷ x) (joined_behind (b ∷ []) text ∙ ap (λ (x : List ℕ). x ++ text) (doubled-one b e))))

pub joined_cut : (text : List ℕ) → joined (cut text) ≡ text
joined_cut text = joined_behind [] text

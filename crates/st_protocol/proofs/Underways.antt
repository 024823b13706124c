-- Moments of deeds, and of more deeds behind them.
use Rattle.std.proofs.Common.{◌≡◌, ◌≤◌, inl, inr, ⊎_elim, ℕ, List, [], ◌∷◌, ◌++◌, length, take, refl, sym, ap, ◌∙◌, subst, arith, append_assoc, append-nil, length-append, length-take}
use Rattle.std.proofs.lemmas.List.{take-append-le, take_all}
use Rattle.std.proofs.lemmas.Bool.{cases_lt}
use Rattle.std.proofs.Math.Seq.{take-append_seam}
use Rattle.st_host.specs.Files.{Files}
use Rattle.st_host.specs.Stops.{SaidPart}
use Rattle.st_protocol.specs.Courses.{Deed, Reply, Keep, said_of, commits_of, last_of}
use Rattle.st_protocol.specs.Underway.{Underway}

-- nothing of a text was said
pub nothing_of : (before text now : List ℕ) → now ≡ before → SaidPart before text now
nothing_of before text now same = record {
  least = omega (arith, ap length same);
  begins = ap (λ n. take n (before ++ text)) (ap length same) ∙ take-append_seam before text ∙ sym same;
}

-- some first bytes of a text are first bytes of a longer one
pub part_more : (before a b now : List ℕ) → SaidPart before a now → SaidPart before (a ++ b) now
part_more before a b now part =
    let short : length now ≤ length (before ++ a) = omega (arith, length-take (length now) (before ++ a), ap length part.begins) in
    record {
      least = part.least;
      begins = ap (take (length now)) (sym (append_assoc before a b)) ∙ take-append-le (length now) (before ++ a) b short ∙ part.begins;
    }

-- what follows a text that was said whole follows in the joined text
pub part_after : (before mid a b now : List ℕ) → mid ≡ before ++ a → SaidPart mid b now → SaidPart before (a ++ b) now
part_after before mid a b now all part = record {
  least = omega (arith, part.least, ap length all, length-append before a);
  begins = ap (take (length now)) (sym (append_assoc before a b) ∙ ap (λ x. x ++ b) (sym all)) ∙ part.begins;
}

-- the text was said whole
pub part_all : (before text now : List ℕ) → now ≡ before ++ text → SaidPart before text now
part_all before text now all =
    subst (λ t. SaidPart before t now) (append-nil text) (part_after before (before ++ text) text [] now refl (nothing_of (before ++ text) [] now all))

-- of a joined text no more was said than some first bytes of the first
part_front : (before a b now : List ℕ) → length now ≤ length (before ++ a) → SaidPart before (a ++ b) now → SaidPart before a now
part_front before a b now short part = record {
  least = part.least;
  begins = sym (take-append-le (length now) (before ++ a) b short) ∙ ap (take (length now)) (append_assoc before a b) ∙ part.begins;
}

-- or the first was said whole
part_rest : (before a b now : List ℕ) → length (before ++ a) ≤ length now → SaidPart before (a ++ b) now → SaidPart (before ++ a) b now
part_rest before a b now long part = record {
  least = long;
  begins = ap (take (length now)) (append_assoc before a b) ∙ part.begins;
}

part_empty : (before now : List ℕ) → SaidPart before [] now → now ≡ before
part_empty before now part =
    let all : take (length now) (before ++ []) ≡ before ++ [] = take_all (length now) (before ++ []) (omega (arith, part.least, length-append before [])) in
    sym part.begins ∙ all ∙ append-nil before

module _ {C : Type 0} (opens : C → Files → Type 0) where
  -- before the first of them
  pub starts : (c : C) (said : List ℕ) (ds : List (Deed C)) (f : Files) (s : List ℕ) → s ≡ said → opens c f → Underway opens c said ds f s
  starts c said [] f s e o = (e, o)
  starts c said (Reply text ∷ ds) f s e o = inl (nothing_of said text s e, o)
  starts c said (Keep d ∷ ds) f s e o = inl (e, inl o)

  -- a moment of these is one of them with more behind them
  pub more : (c : C) (said : List ℕ) (a b : List (Deed C)) (f : Files) (s : List ℕ) → Underway opens c said a f s → Underway opens c said (a ++ b) f s
  more c said [] b f s u = starts c said b f s u.0 u.1
  more c said (Reply text ∷ ds) b f s (inl u) = inl u
  more c said (Reply text ∷ ds) b f s (inr u) = inr (more c (said ++ text) ds b f s u)
  more c said (Keep d ∷ ds) b f s (inl u) = inl u
  more c said (Keep d ∷ ds) b f s (inr u) = inr (more d said ds b f s u)

  -- a moment of those behind is one of all
  pub behind : (c : C) (said : List ℕ) (a b : List (Deed C)) (f : Files) (s : List ℕ) → Underway opens (last_of c a) (said ++ said_of a) b f s → Underway opens c said (a ++ b) f s
  behind c said [] b f s u = subst (λ (t : List ℕ). Underway opens c t b f s) (append-nil said) u
  behind c said (Reply text ∷ ds) b f s u =
      inr (behind c (said ++ text) ds b f s (subst (λ (t : List ℕ). Underway opens (last_of c ds) t b f s) (sym (append_assoc said text (said_of ds))) u))
  behind c said (Keep d ∷ ds) b f s u = inr (behind d said ds b f s u)

  -- deeds that keep nothing: a moment at which a part of their words was said is one of them
  pub while_said : (c : C) (said : List ℕ) (ds : List (Deed C)) (f : Files) (s : List ℕ) → commits_of ds ≡ [] → SaidPart said (said_of ds) s → opens c f → Underway opens c said ds f s
  while_said c said [] f s none part o = (part_empty said s part, o)
  while_said c said (Keep d ∷ ds) f s none part o = cc
  while_said c said (Reply text ∷ ds) f s none part o = ⊎_elim
      (λ more. inr (while_said c (said ++ text) ds f s none (part_rest said text (said_of ds) s (omega (arith, more)) part) o))
      (λ short. inl (part_front said text (said_of ds) s short part, o))
      (cases_lt (length (said ++ text)) (length s))

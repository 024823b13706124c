-- Acknowledgements in parts of what was said, and that each moment keeps the promise.
use Rattle.std.proofs.Common.{◌≡◌, ◌⊎◌, inl, inr, ⊎_elim, ℕ, zero, suc, ◌+◌, ◌≤◌, Bool, true, false, List, [], ◌∷◌, ◌++◌, length, take, drop, refl, sym, ap, ◌∙◌, subst, arith, append_assoc}
use Rattle.std.specs.Prelude.{◌==◌, if◌then◌else◌}
use Rattle.std.proofs.lemmas.List.{append-nil, take-append-drop}
use Rattle.st_host.specs.Files.{Files}
use Rattle.st_host.specs.Stops.{SaidPart}
use Rattle.st_protocol.specs.Courses.{Deed, Reply, Keep, said_of, commits_of}
use Rattle.st_protocol.specs.Acknowledged.{counts, acknowledged_from, acknowledged, rest_from, AcknowledgesEach, Promised}
use Rattle.st_protocol.specs.Underway.{Underway}

pub acknowledged_both : (line a b : List ℕ) → acknowledged_from line (a ++ b) ≡ acknowledged_from line a + acknowledged_from (rest_from line a) b
acknowledged_both line [] b = omega arith
acknowledged_both line (x ∷ a) b = over (x == 10) (acknowledged_both [] a b) (acknowledged_both (line ++ x ∷ []) a b)
  where
    over : (t : Bool) → acknowledged_from [] (a ++ b) ≡ acknowledged_from [] a + acknowledged_from (rest_from [] a) b
        → acknowledged_from (line ++ x ∷ []) (a ++ b) ≡ acknowledged_from (line ++ x ∷ []) a + acknowledged_from (rest_from (line ++ x ∷ []) a) b
        → (if t then counts line + acknowledged_from [] (a ++ b) else acknowledged_from (line ++ x ∷ []) (a ++ b))
        ≡ (if t then counts line + acknowledged_from [] a else acknowledged_from (line ++ x ∷ []) a) + acknowledged_from (if t then rest_from [] a else rest_from (line ++ x ∷ []) a) b
    over true h k = omega (arith, h)
    over false h k = k

pub rest_both : (line a b : List ℕ) → rest_from line (a ++ b) ≡ rest_from (rest_from line a) b
rest_both line [] b = refl
rest_both line (x ∷ a) b = over (x == 10) (rest_both [] a b) (rest_both (line ++ x ∷ []) a b)
  where
    over : (t : Bool) → rest_from [] (a ++ b) ≡ rest_from (rest_from [] a) b → rest_from (line ++ x ∷ []) (a ++ b) ≡ rest_from (rest_from (line ++ x ∷ []) a) b → (if t then rest_from [] (a ++ b) else rest_from (line ++ x ∷ []) (a ++ b)) ≡ rest_from (if t then rest_from [] a else rest_from (line ++ x ∷ []) a) b
    over true h k = h
    over false h k = k

-- some first bytes of a text acknowledge no more than the text
abbrev pub IsFront : List ℕ → List ℕ → Type 0
IsFront words text = (rest : List ℕ) × (words ++ rest ≡ text)

pub front_acknowledges_from : (line words text : List ℕ) → IsFront words text → acknowledged_from line words ≤ acknowledged_from line text
front_acknowledges_from line words text front =
    let e : acknowledged_from line text ≡ acknowledged_from line words + acknowledged_from (rest_from line words) front.0 = ap (acknowledged_from line) (sym front.1) ∙ acknowledged_both line words front.0 in
    omega (arith, e)

pub front_acknowledges : (words text : List ℕ) → IsFront words text → acknowledged words ≤ acknowledged text
front_acknowledges words text front =
    let e : acknowledged text ≡ acknowledged words + acknowledged_from (rest_from [] words) front.0 = ap acknowledged (sym front.1) ∙ acknowledged_both [] words front.0 in
    omega (arith, e)

front_from : (said text s : List ℕ) → length said ≤ length s → take (length s) (said ++ text) ≡ s → (words : List ℕ) × (s ≡ said ++ words) × IsFront words text
front_from [] text s least e = (s, refl, (drop (length s) text, ap (λ t. t ++ drop (length s) text) (sym e) ∙ take-append-drop (length s) text))
front_from (x ∷ said) text [] least e = absurd (omega (arith, least))
front_from (x ∷ said) text (y ∷ s) least e =
    let first : x ≡ y = cc in
    let behind : take (length s) (said ++ text) ≡ s = cc in
    let more = front_from said text s (omega (arith, least)) behind in
    (more.0, (λ i. sym first i ∷ more.1 i), more.2)

pub front_of : (said text s : List ℕ) → SaidPart said text s → (words : List ℕ) × (s ≡ said ++ words) × IsFront words text
front_of said text s part = front_from said text s part.least part.begins

module _ {C : Type 0} (opens : C → Files → Type 0) where
  pub promised : (c : C) (said : List ℕ) (ds : List (Deed C)) (f : Files) (s : List ℕ) → AcknowledgesEach ds → Underway opens c said ds f s → Promised opens (c ∷ commits_of ds) said f s
  promised c said [] f s law u = record { words = []; said_is = u.0 ∙ sym (append-nil said); number = 0; commit = c; is_of = refl; opens_as = u.1; acknowledges = inl refl }
  promised c said (Reply text ∷ ds) f s law (inl u) =
      let front = front_of said text s u.0 in
      let none : 0 ≡ acknowledged front.0 = omega (arith, front_acknowledges front.0 text front.2, (law.0).count) in
      record { words = front.0; said_is = front.1; number = 0; commit = c; is_of = refl; opens_as = u.1; acknowledges = inl none }
  promised c said (Reply text ∷ ds) f s law (inr u) =
      let p = promised c (said ++ text) ds f s law.1 u in
      let e : acknowledged (text ++ p.words) ≡ acknowledged p.words = acknowledged_both [] text p.words ∙ (λ i. (law.0).count i + acknowledged_from ((law.0).whole i) p.words) ∙ omega arith in
      record {
        words = text ++ p.words;
        said_is = p.said_is ∙ append_assoc said text p.words;
        number = p.number;
        commit = p.commit;
        is_of = p.is_of;
        opens_as = p.opens_as;
        acknowledges = subst (λ n. (p.number ≡ n) ⊎ (p.number ≡ suc n)) (sym e) p.acknowledges;
      }
  promised c said (Keep d ∷ []) f s law u = absurd law
  promised c said (Keep d ∷ Keep e ∷ ds) f s law u = absurd law
  promised c said (Keep d ∷ Reply text ∷ ds) f s law (inl u) =
      ⊎_elim
      (λ old. record { words = []; said_is = u.0 ∙ sym (append-nil said); number = 0; commit = c; is_of = refl; opens_as = old; acknowledges = inl refl })
      (λ new. record { words = []; said_is = u.0 ∙ sym (append-nil said); number = 1; commit = d; is_of = refl; opens_as = new; acknowledges = inr refl })
      u.1
  promised c said (Keep d ∷ Reply text ∷ ds) f s law (inr (inl u)) =
      let front = front_of said text s u.0 in
      let most : acknowledged front.0 ≤ 1 = omega (arith, front_acknowledges front.0 text front.2, (law.0).count) in
      record { words = front.0; said_is = front.1; number = 1; commit = d; is_of = refl; opens_as = u.1; acknowledges = one (acknowledged front.0) most }
    where
      one : (n : ℕ) → n ≤ 1 → (1 ≡ n) ⊎ (1 ≡ suc n)
      one zero l = inr refl
      one (suc n) l = inl (omega (arith, l))
  promised c said (Keep d ∷ Reply text ∷ ds) f s law (inr (inr u)) =
      let p = promised d (said ++ text) ds f s law.1 u in
      let e : acknowledged (text ++ p.words) ≡ suc (acknowledged p.words) = acknowledged_both [] text p.words ∙ (λ i. (law.0).count i + acknowledged_from ((law.0).whole i) p.words) ∙ omega arith in
      record {
        words = text ++ p.words;
        said_is = p.said_is ∙ append_assoc said text p.words;
        number = suc p.number;
        commit = p.commit;
        is_of = p.is_of;
        opens_as = p.opens_as;
        acknowledges = ⊎_elim (λ same. inl (ap suc same ∙ sym e)) (λ next. inr (ap suc next ∙ ap suc (sym e))) p.acknowledges;
      }

-- what the first of lawful deeds say are whole lines
pub first_whole : {C : Type 0} (a b : List (Deed C)) → AcknowledgesEach (a ++ b) → rest_from [] (said_of a) ≡ []
first_whole [] b h = refl
first_whole (Reply text ∷ a) b h = rest_both [] text (said_of a) ∙ (ap (λ l. rest_from l (said_of a)) (h.0).whole ∙ first_whole a b h.1)
first_whole (Keep c ∷ []) b h = refl
first_whole (Keep c ∷ Keep d ∷ a) b h = absurd h
first_whole (Keep c ∷ Reply text ∷ a) b h = rest_both [] text (said_of a) ∙ (ap (λ l. rest_from l (said_of a)) (h.0).whole ∙ first_whole a b h.1)

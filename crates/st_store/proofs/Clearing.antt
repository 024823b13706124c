-- What a stop leaves while a name is cleared.
use Rattle.std.proofs.Common.{◌≡◌, ◌≢◌, ◌⊎◌, inl, inr, ⊎_elim, ℕ, zero, suc, ◌+◌, ◌<◌, ◌≤◌, List, [], ◌∷◌, length, slice_index, codes, Option, Bool, true, false, true≢false, IsTrue, refl, sym, subst, ◌∙◌, ap, arith}
use Rattle.std.specs.Prelude.{◌↔◌, Some, None}
use Rattle.std.proofs.lemmas.List.{get_or_past}
use Rattle.std.proofs.lemmas.Bool.{cases_lt, cases_eq}
use Rattle.st_host.specs.Files.{bytes_of, IsCut}
use Rattle.st_host.specs.Stops.{TornByCut, Here}
use Rattle.st_host.specs.Runs.{LeavesOnly, Narrows, ChangesOneFile, ReadsAlike, Touched, Cuts, IsSynced}
use Rattle.st_host.specs.declared.host.Host.{Ghosts}
use Rattle.st_host.proofs.Joining.{weaker, moments_join}
use Rattle.st_host.proofs.Touching.{cut_changes, changes_join}
use Rattle.st_store.specs.Names.{roots_file}
use Rattle.st_store.specs.Roots.{HasLetters}
use Rattle.st_store.specs.Founding.{IsNoStore, IsCleared}
use Rattle.st_store.proofs.Turning.{came}

-- no letter is 0
pub letter_is : (i : ℕ) → i < 8 → 0 ≢ slice_index (codes "ST80ROOT") i
letter_is zero low e = cc
letter_is (suc zero) low e = cc
letter_is (suc (suc zero)) low e = cc
letter_is (suc (suc (suc zero))) low e = cc
letter_is (suc (suc (suc (suc zero)))) low e = cc
letter_is (suc (suc (suc (suc (suc zero))))) low e = cc
letter_is (suc (suc (suc (suc (suc (suc zero)))))) low e = cc
letter_is (suc (suc (suc (suc (suc (suc (suc zero))))))) low e = cc
letter_is (suc (suc (suc (suc (suc (suc (suc (suc i)))))))) low e = absurd (omega arith)

-- a file has the letters, or one is wrong
pub letters_or_none : (file : Option (List ℕ)) (n : ℕ) → n ≤ 8 → ((i : ℕ) → i < n → slice_index (bytes_of file) i ≡ slice_index (codes "ST80ROOT") i) ⊎ IsNoStore file
letters_or_none file zero le = inl (λ i low. absurd (omega arith))
letters_or_none file (suc n) le = ⊎_elim
    (λ below. ⊎_elim
    (λ is. inl (λ i low. ⊎_elim (λ less. below i less) (λ last. let e : i ≡ n = omega arith in ap (λ (j : ℕ). slice_index (bytes_of file) j) e ∙ is ∙ ap (λ (j : ℕ). slice_index (codes "ST80ROOT") j) (sym e)) (cases_lt i n)))
    (λ other. inr (λ letters. other (letters n (omega arith))))
    (cases_eq (slice_index (bytes_of file) n) (slice_index (codes "ST80ROOT") n)))
    (λ none. inr none)
    (letters_or_none file n (omega arith))

-- a cut to no bytes of what is no store's leaves that it is none
cut_none : (file d c : Option (List ℕ)) → IsNoStore d → d ≡ file → TornByCut file 0 d c → IsNoStore c
cut_none file d c wrong is torn letters = wrong (λ i low. ⊎_elim
    (λ inside. sym (torn.same i inside (omega (arith, torn.longest)) (omega (arith, torn.longest, ap (λ (x : Option (List ℕ)). length (bytes_of x)) is)) (inr (omega arith))) ∙ letters i low)
    (λ past. absurd (letter_is i low (sym (get_or_past (bytes_of c) i 0 past) ∙ letters i low)))
    (cases_lt i (length (bytes_of c))))

nothing : (xs : List ℕ) → length xs ≡ 0 → xs ≡ []
nothing [] e = refl
nothing (x ∷ xs) e = absurd (omega arith)

empty_of : (file : Option (List ℕ)) (old : Option (List ℕ)) → IsCut 0 old file → bytes_of file ≡ []
empty_of file old cut = nothing (bytes_of file) cut.long

pub cut_empty : (old new : Option (List ℕ)) → IsCut 0 old new → new ≡ Some []
cut_empty old None cut = let a = cut.there in cc
cut_empty old (Some xs) cut = ap Some (nothing xs cut.long)

module _ {D : Type 0} (host : Ghosts D) (name : List ℕ) where
  pub while_looked : (a b : D) → IsTrue host.is_told → Narrows host a b → LeavesOnly host a b (λ f s. (s ≡ host.said a) × IsCleared host name a f)
  while_looked a b told narrows = weaker host a b (λ f s. (s ≡ host.said a) × IsCleared host name a f) (Here (host.may_leave a) (host.said a)) (narrows.moments told) (λ f s here. (here.1, inl here.0))

  pub while_cut : (a b c : D) → IsTrue host.is_told → Narrows host a b → ReadsAlike host a b → IsSynced host (roots_file name) b → IsNoStore (host.files a (roots_file name))
      → Cuts host (roots_file name) 0 b c → LeavesOnly host a c (λ f s. (s ≡ host.said a) × IsCleared host name a f)
  while_cut a b c told narrows alike synced none cuts =
      let roots = roots_file name in
      moments_join host a b c (λ f s. (s ≡ host.said a) × IsCleared host name a f) (Touched host (TornByCut (host.files b roots) 0) roots b)
      (while_looked a b told narrows) (cuts.run.moments told)
      (λ f s so. (
        so.quiet ∙ narrows.quiet told,
        inr (
          none,
          came (host.may_leave b roots) (TornByCut (host.files b roots) 0) IsNoStore (f roots)
              (λ d could torn. cut_none (host.files b roots) d (f roots)
              (subst IsNoStore (sym (synced.is told d could ∙ alike.same told roots)) none)
              (synced.is told d could) torn) so.own,
        ),
      ))

  pub emptied : (b c : D) → IsTrue host.is_told → IsCut 0 (host.files b (roots_file name)) (host.files c (roots_file name)) → IsSynced host (roots_file name) c
      → (x : Option (List ℕ)) → host.may_leave c (roots_file name) x → bytes_of x ≡ []
  emptied b c told cut synced x can = ap bytes_of (synced.is told x can) ∙ empty_of (host.files c (roots_file name)) (host.files b (roots_file name)) cut

  -- A run that looked whether the roots file has the letters, and cut it where it has none.
  pub record Clears (a d : D) : Type 0 where
    pub moments : IsTrue host.is_told → LeavesOnly host a d (λ f s. (s ≡ host.said a) × IsCleared host name a f)
    pub only : ChangesOneFile host (roots_file name) a d

  -- the same, with the file by the names that the code has
  pub clears : (a b d : D) (n r s : List ℕ) (there : Bool) → n ≡ name → r ≡ roots_file n → s ≡ roots_file n → Narrows host a b → ReadsAlike host a b → IsSynced host r b → ChangesOneFile host r a b
      → (IsTrue host.is_told → IsTrue there ↔ HasLetters (bytes_of (host.files a r))) → there ≡ false → Cuts host s 0 b d → Clears a d
  clears a b d n r s there is looked_at cut_at narrows alike synced looked found none cuts =
      let roots : r ≡ roots_file name = looked_at ∙ ap roots_file is in
      let here = subst (λ (x : List ℕ). Cuts host x 0 b d) (cut_at ∙ ap roots_file is) cuts in
      let not_there : IsTrue host.is_told → IsNoStore (host.files a (roots_file name)) =
      λ told letters. true≢false (sym ((found told).1 (subst (λ (x : List ℕ). HasLetters (bytes_of (host.files a x))) (sym roots) letters)) ∙ none) in
      record {
        moments = λ told. while_cut a b d told narrows alike (subst (λ (x : List ℕ). IsSynced host x b) roots synced) (not_there told) here;
        only = changes_join host (roots_file name) a b d (subst (λ (x : List ℕ). ChangesOneFile host x a b) roots looked) (cut_changes host (roots_file name) 0 b d here);
      }

-- a cut, by the name that the code has
pub cuts_as : {D : Type 0} (host : Ghosts D) (n m : List ℕ) (len : ℕ) (a b : D) → n ≡ m → Cuts host n len a b → Cuts host m len a b
cuts_as host n m len a b is cuts = subst (λ (x : List ℕ). Cuts host x len a b) is cuts

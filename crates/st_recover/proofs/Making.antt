-- What a stop leaves while a store is made.
use Rattle.std.proofs.Common.{◌≡◌, ◌≢◌, inl, inr, ⊎_elim, ℕ, List, [], length, Option, IsTrue, refl, sym, subst, ap, ◌∙◌}
use Rattle.std.specs.Prelude.{◌⊎◌, Some, None, Result}
use Rattle.std.proofs.lemmas.List.Elements.{All-nil}
use Rattle.st_host.specs.Files.{Files, bytes_of}
use Rattle.st_host.specs.Stops.{Here}
use Rattle.st_host.specs.Runs.{LeavesOnly, Elsewhere, ChangesOneFile, ChangesBoth, Spares, IsSynced, IsAtRest, Makes}
use Rattle.st_host.specs.declared.host.Host.{Ghosts}
use Rattle.st_host.proofs.Joining.{weaker, moments_join}
use Rattle.st_host.proofs.Touching.{changes_spare, spares_join}
use Rattle.st_chunk.specs.Definitions.{IsDefinition}
use Rattle.st_store.specs.Names.{roots_file, changes_file, image_file}
use Rattle.st_store.specs.Roots.{HasLetters}
use Rattle.st_store.specs.Stored.{StoreState, Stored, Begins, Leaves, IsKept}
use Rattle.st_store.specs.Founding.{OpensMaybe, IsCleared, first_root, first_stored, first_file}
use Rattle.st_store.specs.Faults.{RestsUnlessLetters}
use Rattle.st_store.proofs.Founding.{empty_none}
use Rattle.st_store.proofs.Others.{image_roots, image_changes}
use Rattle.st_recover.specs.inside.Archives.{store_of}
use Rattle.st_recover.specs.Images.{IsReadable}
use Rattle.st_recover.specs.Commits.{stored_of}
use Rattle.st_recover.specs.Creating.{first_commit, IsMade, IsNoFirstFile, AreFirstFiles}
use Rattle.st_recover.proofs.Beside.{whole}

module _ {D : Type 0} (host : Ghosts D) (name image : List ℕ) (a : D) where
  -- what stands at a moment of the making
  abbrev pub Moment : Files → List ℕ → Type 0
  Moment f s = (s ≡ host.said a) × IsMade host name (first_commit image) a f

  cleared_made : (f : Files) → IsCleared host name a f → IsMade host name (first_commit image) a f
  cleared_made f so = ⊎_elim (λ could. inl could) (λ none. inr (none.0, inl none.1)) so

  -- while the roots file is emptied
  pub clearing : (b : D) → LeavesOnly host a b (λ f s. (s ≡ host.said a) × IsCleared host name a f) → LeavesOnly host a b Moment
  clearing b run = weaker host a b Moment (λ f s. (s ≡ host.said a) × IsCleared host name a f) run (λ f s so. (so.0, cleared_made f so.1))

  module _ (b : D) (told : IsTrue host.is_told) (none : HasLetters (bytes_of (host.files a (roots_file name))) → ⊥)
      (empty : Leaves host b (roots_file name) (λ file. bytes_of file ≡ [])) (quiet : host.said b ≡ host.said a) where
    -- while the image is written
    pub imaging : (d : D) → LeavesOnly host a b Moment → ChangesOneFile host (image_file name 0) b d → LeavesOnly host a d Moment
    imaging d first run = moments_join host a b d Moment (Elsewhere host (image_file name 0) b) first (run.moments told)
        (λ f s so. (so.0 ∙ quiet, inr (none, inl (empty_none (f (roots_file name)) (empty (f (roots_file name)) (so.1 (roots_file name) (λ e. image_roots name 0 (sym e))))))))

    pub still_empty : (d : D) → ChangesOneFile host (image_file name 0) b d → Leaves host d (roots_file name) (λ file. bytes_of file ≡ [])
    still_empty d run x can = empty x ((run.others told).fewer (roots_file name) x (λ e. image_roots name 0 (sym e)) can)

    maybe_made : (f : Files) → IsReadable image → OpensMaybe name None f ⊎ OpensMaybe name (Some (first_stored (length image) image)) f → IsMade host name (first_commit image) a f
    maybe_made f readable so = ⊎_elim (λ is. inr (none, inl is)) (λ is. inr (none, inr (record { slot = 0; opens = is; readable = readable; good = All-nil IsDefinition }))) so

    -- while the store is founded
    pub founding : {R E : Type 0} (d e : D) (result : Result R E) → IsReadable image → LeavesOnly host a d Moment → host.said d ≡ host.said b
        → Makes {C = Option Stored} host (OpensMaybe name) None (Some (first_stored (length image) image)) d e result → LeavesOnly host a e Moment
    founding d e result readable first calm makes = moments_join host a d e Moment (λ f s. (s ≡ host.said d) × (OpensMaybe name None f ⊎ OpensMaybe name (Some (first_stored (length image) image)) f))
        first makes.moments (λ f s so. (so.0 ∙ calm ∙ quiet, maybe_made f readable so.1))

  -- what stands behind it is what stands at its last moment
  pub behind : (b : D) → IsTrue host.is_told → ((f : Files) (s : List ℕ) → Here (host.may_leave b) (host.said b) f s → host.left_since b (host.moment a) f s)
      → LeavesOnly host a b Moment → (f : Files) → ((n : List ℕ) → host.may_leave b n (f n)) → IsMade host name (first_commit image) a f
  behind b told counts run f can = (run.each f (host.said b) (counts f (host.said b) (can, refl))).1

-- after a fault
module _ {D : Type 0} (host : Ghosts D) (name : List ℕ) (a : D) where
  abbrev pub Cleared : Unit {0} → Files → Type 0
  Cleared u f = IsCleared host name a f

  -- the roots file wasn't emptied
  pub cleared_rest : (b : D) → ((f : Files) (s : List ℕ) → Here (host.may_leave b) (host.said b) f s → host.left_since b (host.moment a) f s)
      → LeavesOnly host a b (λ f s. (s ≡ host.said a) × IsCleared host name a f) → IsAtRest host Cleared tt b
  cleared_rest b counts run = record { opens_as = λ f can. (run.each f (host.said b) (counts f (host.said b) (can, refl))).1 }

  module _ (d : D) (none : HasLetters (bytes_of (host.files a (roots_file name))) → ⊥) where
    -- it was, and the image wasn't written
    pub empty_rest : Leaves host d (roots_file name) (λ file. bytes_of file ≡ []) → IsAtRest host Cleared tt d
    empty_rest empty = record { opens_as = λ f can. inr (none, empty_none (f (roots_file name)) (empty (f (roots_file name)) (can (roots_file name)))) }

    none_rest : (x : D) → IsAtRest {C = Option Stored} host (OpensMaybe name) None x → IsAtRest host Cleared tt x
    none_rest x rest = record { opens_as = λ f can. inr (none, rest.opens_as f can) }

    -- it was, and the store wasn't founded
    pub founds_broken : (e : D) (n : List ℕ) → n ≡ name → Leaves host d (roots_file name) (λ file. bytes_of file ≡ [])
        → (Leaves host d (roots_file n) (λ file. bytes_of file ≡ []) → RestsUnlessLetters host {C = Option Stored} (OpensMaybe n) n None e) → RestsUnlessLetters host Cleared name tt e
    founds_broken e n named empty broken = ⊎_elim
        (λ rest. inl (none_rest e rest))
        (λ letters. inr (record { before = letters.before; rest = none_rest letters.before letters.rest; writes = letters.writes; fault = letters.fault }))
        (subst (λ (x : List ℕ). RestsUnlessLetters host {C = Option Stored} (OpensMaybe x) x None e) named
        (broken (subst (λ (x : List ℕ). Leaves host d (roots_file x) (λ file. bytes_of file ≡ [])) (sym named) empty)))

pub both_spare : {D : Type 0} (host : Ghosts D) (one two : List ℕ) (names : List ℕ → Type 0) (a b : D) → ((n : List ℕ) → names n → n ≢ one) → ((n : List ℕ) → names n → n ≢ two)
    → ChangesBoth host one two a b → Spares host names a b
both_spare host one two names a b not_one not_two run = record {
  files = λ told n is. run.files told n (not_one n is) (not_two n is);
  fewer = λ told n c is. run.fewer told n c (not_one n is) (not_two n is);
  more = λ told n c is. run.more told n c (not_one n is) (not_two n is);
}

-- the image stands in its file
pub image_stands : {D : Type 0} (host : Ghosts D) (name image file : List ℕ) (d : D) → IsTrue host.is_told → file ≡ image_file name 0 → host.files d file ≡ Some image → IsSynced host file d
    → Leaves host d (image_file name 0) (Begins (length image) image)
image_stands host name image file d told is reads synced x can =
    subst (λ (y : Option (List ℕ)). Begins (length image) image y) (sym (synced.is told x (subst (λ (n : List ℕ). host.may_leave d n x) (sym is) can) ∙ reads)) (whole image)

-- what is found, by the name and the length that the code has
module _ {D : Type 0} (host : Ghosts D) (name image : List ℕ) (d e : D) (n : List ℕ) (l : ℕ) (named : n ≡ name) (long : l ≡ length image)
    (empty : Leaves host d (roots_file name) (λ file. bytes_of file ≡ [])) (firm : Leaves host d (image_file name 0) (Begins (length image) image)) where
  empty_as : Leaves host d (roots_file n) (λ file. bytes_of file ≡ [])
  empty_as = subst (λ (x : List ℕ). Leaves host d (roots_file x) (λ file. bytes_of file ≡ [])) (sym named) empty

  firm_as : Leaves host d (image_file n 0) (Begins l image)
  firm_as = subst (λ (k : ℕ). Leaves host d (image_file n 0) (Begins k image)) (sym long) (subst (λ (x : List ℕ). Leaves host d (image_file x 0) (Begins (length image) image)) (sym named) firm)

  pub found_makes : {R E : Type 0} (result : Result R E)
      → ((im : List ℕ) → Leaves host d (roots_file n) (λ file. bytes_of file ≡ []) → Leaves host d (image_file n 0) (Begins l im) → Makes {C = Option Stored} host (OpensMaybe n) None (Some (first_stored l im)) d e result)
      → Makes {C = Option Stored} host (OpensMaybe name) None (Some (first_stored (length image) image)) d e result
  found_makes {R = R} {E = E} result makes =
      subst (λ (k : ℕ). Makes {C = Option Stored} {R = R} {E = E} host (OpensMaybe name) None (Some (first_stored k image)) d e result) long
      (subst (λ (x : List ℕ). Makes {C = Option Stored} {R = R} {E = E} host (OpensMaybe x) None (Some (first_stored l image)) d e result) named
      (makes image empty_as firm_as))

  pub found_kept : (store : StoreState)
      → ((im : List ℕ) → Leaves host d (roots_file n) (λ file. bytes_of file ≡ []) → Leaves host d (image_file n 0) (Begins l im) → IsKept host e store (first_stored l im))
      → IsKept host e store (stored_of 0 (first_commit image))
  found_kept store kept = subst (λ (k : ℕ). IsKept host e store (first_stored k image)) long (kept image empty_as firm_as)

  pub found_files : IsTrue host.is_told → host.files d (image_file name 0) ≡ Some image → ChangesBoth host (changes_file n 0) (roots_file n) d e
      → (Leaves host d (roots_file n) (λ file. bytes_of file ≡ []) → host.files e (roots_file n) ≡ Some (first_file (first_root l)))
      → host.files e (changes_file n 0) ≡ Some [] → AreFirstFiles name image (host.files e)
  found_files told reads run roots changes = record {
    roots = subst (λ (x : List ℕ). host.files e (roots_file x) ≡ Some (first_file (first_root (length image)))) named
        (roots empty_as ∙ ap (λ k. Some (first_file (first_root k))) long);
    picture = subst (λ (x : List ℕ). host.files e (image_file x 0) ≡ Some image) named
        (run.files told (image_file n 0) (image_changes n 0 0) (image_roots n 0) ∙ subst (λ (x : List ℕ). host.files d (image_file x 0) ≡ Some image) (sym named) reads);
    changes = subst (λ (x : List ℕ). host.files e (changes_file x 0) ≡ Some []) named changes;
  }

pub found_store : (name image n : List ℕ) (l : ℕ) (store : StoreState) → n ≡ name → l ≡ length image → store ≡ record { name = n; chosen = 0; root = first_root l } → store ≡ store_of name 0 0 (first_commit image)
found_store name image n l store named long is = is ∙ (λ i. record { name = named i; chosen = 0; root = first_root (long i) })

-- the files that it spares
module _ {D : Type 0} (host : Ghosts D) (name : List ℕ) (a b d : D) where
  pub roots_spared : ChangesOneFile host (roots_file name) a b → Spares host (IsNoFirstFile name) a b
  roots_spared run = changes_spare host (roots_file name) (IsNoFirstFile name) a b (λ n no. no.roots) run

  pub image_spared : ChangesOneFile host (roots_file name) a b → ChangesOneFile host (image_file name 0) b d → Spares host (IsNoFirstFile name) a d
  image_spared first second =
      spares_join host (IsNoFirstFile name) a b d (roots_spared first) (changes_spare host (image_file name 0) (IsNoFirstFile name) b d (λ n no. no.image) second)

  pub found_spared : (e : D) (n : List ℕ) → n ≡ name → ChangesOneFile host (roots_file name) a b → ChangesOneFile host (image_file name 0) b d → ChangesBoth host (changes_file n 0) (roots_file n) d e
      → Spares host (IsNoFirstFile name) a e
  found_spared e n named first second third =
      spares_join host (IsNoFirstFile name) a d e (image_spared first second)
      (both_spare host (changes_file name 0) (roots_file name) (IsNoFirstFile name) d e (λ n no. no.changes) (λ n no. no.roots)
      (subst (λ (x : List ℕ). ChangesBoth host (changes_file x 0) (roots_file x) d e) named third))

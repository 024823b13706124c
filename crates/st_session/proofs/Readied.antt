-- If each store that a stop may leave opens as one commit, each root that it may leave chosen names what is firm.
use Rattle.std.proofs.Common.{◌≡◌, ◌≢◌, ◌⊎◌, inl, inr, ⊎_elim, ℕ, List, Option, IsTrue, refl, sym, ap, subst, ◌∙◌}
use Rattle.st_host.specs.Files.{Files, bytes_of}
use Rattle.st_host.specs.inside.Names.{same_or_other}
use Rattle.st_host.specs.Runs.{IsAtRest}
use Rattle.st_host.specs.declared.host.Host.{Ghosts}
use Rattle.st_store.specs.Names.{roots_file, changes_file, image_file}
use Rattle.st_store.specs.Roots.{place, root_at, HasLetters, Chooses}
use Rattle.st_store.specs.Stored.{Begins, Opens, IsReady}
use Rattle.st_store.specs.declared.root.Root.{Root}
use Rattle.st_store.proofs.Others.{changes_roots, image_roots}
use Rattle.st_recover.specs.Commits.{Commit, OpensAs, root_of, stored_of}

-- a roots file chooses one root
one_root : (k l : ℕ) (r s : Root) (file : Option (List ℕ)) → Chooses k r file → Chooses l s file → r ≡ s
one_root k l r s file x y = sym x.names ∙ ap (λ (j : ℕ). root_at (place j) (bytes_of file)) (sym x.gate ∙ y.gate) ∙ y.names

-- these files, but one of them is this
with_file : Files → List ℕ → Option (List ℕ) → Files
with_file f n x m = ⊎_elim (λ is. x) (λ differs. f m) (same_or_other m n)

with_it : (f : Files) (n : List ℕ) (x : Option (List ℕ)) → with_file f n x n ≡ x
unfolding with_file
with_it f n x = over (same_or_other n n)
  where
    over : (t : (n ≡ n) ⊎ (n ≢ n)) → ⊎_elim (λ is. x) (λ differs. f n) t ≡ x
    over (inl is) = refl
    over (inr differs) = absurd (differs refl)

with_others : (f : Files) (n m : List ℕ) (x : Option (List ℕ)) → m ≢ n → with_file f n x m ≡ f m
unfolding with_file
with_others f n m x apart = over (same_or_other m n)
  where
    over : (t : (m ≡ n) ⊎ (m ≢ n)) → ⊎_elim (λ is. x) (λ differs. f m) t ≡ f m
    over (inl is) = absurd (apart is)
    over (inr differs) = refl

module _ {D : Type 0} (host : Ghosts D) (h : D) where
  could : (f : Files) (n : List ℕ) (x : Option (List ℕ)) → ((m : List ℕ) → host.may_leave h m (f m)) → host.may_leave h n x → (m : List ℕ) → host.may_leave h m (with_file f n x m)
  unfolding with_file
  could f n x can here m = over (same_or_other m n)
    where
      over : (t : (m ≡ n) ⊎ (m ≢ n)) → host.may_leave h m (⊎_elim (λ is. x) (λ differs. f m) t)
      over (inl is) = subst (λ (y : List ℕ). host.may_leave h y x) (sym is) here
      over (inr differs) = can m

  -- each files that a stop may leave, if they are a store's
  abbrev pub EachStore : List ℕ → (Files → Type 0) → Type 0
  EachStore name P = (f : Files) → ((n : List ℕ) → host.may_leave h n (f n)) → HasLetters (bytes_of (f (roots_file name))) → P f

  module _ (name : List ℕ) (c : Commit) (reads : (n : List ℕ) → host.may_leave h n (host.files h n)) (opens : EachStore name (OpensAs name c))
      (x : Option (List ℕ)) (can : host.may_leave h (roots_file name) x) (letters : HasLetters (bytes_of x)) where
    -- the files as they read, but the roots file is this
    here : Files
    here = with_file (host.files h) (roots_file name) x

    here_could : (n : List ℕ) → host.may_leave h n (here n)
    unfolding here
    here_could = could (host.files h) (roots_file name) x reads can

    here_letters : HasLetters (bytes_of (here (roots_file name)))
    unfolding here
    here_letters = subst (λ (y : Option (List ℕ)). HasLetters (bytes_of y)) (sym (with_it (host.files h) (roots_file name) x)) letters

    was : OpensAs name c here
    was = opens here here_could here_letters

    -- whatever another of them is, the root stays
    opens_with : (n : List ℕ) (y : Option (List ℕ)) → roots_file name ≢ n → host.may_leave h n y → Opens name (stored_of was.slot c) (with_file here n y)
    opens_with n y apart may =
        let apart_is = with_others here n (roots_file name) y apart in
        let now = opens (with_file here n y) (could here n y here_could may) (subst (λ (z : Option (List ℕ)). HasLetters (bytes_of z)) (sym apart_is) here_letters) in
        let chosen = subst (Chooses now.opens.number (root_of now.slot c)) apart_is now.opens.chosen in
        let same = one_root now.opens.number was.opens.number (root_of now.slot c) (root_of was.slot c) (here (roots_file name)) chosen was.opens.chosen in
        subst (λ (k : ℕ). Opens name (stored_of k c) (with_file here n y)) (ap (λ (r : Root). r.slot) same) now.opens

    ready_root : (k : ℕ) × Chooses k (root_of was.slot c) x
    unfolding here
    ready_root = (was.opens.number, subst (Chooses was.opens.number (root_of was.slot c)) (with_it (host.files h) (roots_file name) x) was.opens.chosen)

    image_firm : (y : Option (List ℕ)) → host.may_leave h (image_file name was.slot) y → Begins (root_of was.slot c).image_length c.image y
    image_firm y may =
        let n = image_file name was.slot in
        subst (Begins (root_of was.slot c).image_length c.image) (with_it here n y) (opens_with n y (λ e. image_roots name was.slot (sym e)) may).image

    changes_firm : (y : Option (List ℕ)) → host.may_leave h (changes_file name was.slot) y → Begins (root_of was.slot c).length (stored_of was.slot c).changes y
    changes_firm y may =
        let n = changes_file name was.slot in
        subst (Begins (root_of was.slot c).length (stored_of was.slot c).changes) (with_it here n y) (opens_with n y (λ e. changes_roots name was.slot (sym e)) may).changes

  one_ready : (name : List ℕ) (c : Commit) → ((n : List ℕ) → host.may_leave h n (host.files h n)) → EachStore name (OpensAs name c) → IsReady host h name
  one_ready name c reads opens x can letters =
      let root = ready_root name c reads opens x can letters in
      let at = was name c reads opens x can letters in
      (root.0, stored_of at.slot c, root.1, record { sound = at.opens.sound; image = image_firm name c reads opens x can letters; changes = changes_firm name c reads opens x can letters })

  -- where the store is at rest
  pub rest_ready : (name : List ℕ) (c : Commit) → ((n : List ℕ) → host.may_leave h n (host.files h n)) → IsAtRest host (OpensAs name) c h → IsReady host h name
  rest_ready name c reads rest = one_ready name c reads (λ f can letters. rest.opens_as f can)

  -- where it opens as what only one can be
  pub made_ready : {A : Type 0} (name : List ℕ) (commit : A → Commit) (right : A → Type 0) → ((a b : A) → right a → right b → a ≡ b) → ((n : List ℕ) → host.may_leave h n (host.files h n))
      → EachStore name (λ f. (a : A) × right a × OpensAs name (commit a) f) → IsReady host h name
  made_ready name commit right one reads opens x can letters =
      let read = host.files h in
      let at = opens (with_file read (roots_file name) x) (could read (roots_file name) x reads can)
      (subst (λ (y : Option (List ℕ)). HasLetters (bytes_of y)) (sym (with_it read (roots_file name) x)) letters) in
      one_ready name (commit at.0) reads
      (λ f may there. let is = opens f may there in subst (λ a. OpensAs name (commit a) f) (one is.0 at.0 is.1 at.1) is.2) x can letters

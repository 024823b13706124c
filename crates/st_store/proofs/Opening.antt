-- What a stop leaves while a store is opened.
use Rattle.std.proofs.Common.{◌≡◌, ◌≢◌, ◌⊎◌, inl, inr, ⊎_elim, ℕ, ◌+◌, ◌-◌, ◌<◌, ◌≤◌, List, [], ◌∷◌, length, slice_index, Option, IsTrue, refl, sym, subst, ◌∙◌, arith, lit<}
use Rattle.std.specs.Prelude.{Some, None, Result}
use Rattle.st_host.specs.Files.{Files, bytes_of, IsWritten}
use Rattle.st_host.specs.Stops.{Here}
use Rattle.st_host.specs.Runs.{LeavesOnly, Narrows, NarrowsBut, ChangesOneFile, Spares, ReadsAlike, IsSynced, Makes}
use Rattle.st_host.specs.declared.host.Host.{Ghosts}
use Rattle.st_host.proofs.Joining.{weaker, moments_join, alike_join, synced_on}
use Rattle.st_host.proofs.Touching.{narrows_but, changes_but, but_join, changes_spare, spares_join, spares_fewer}
use Rattle.st_store.specs.Names.{roots_file, changes_file, image_file, IsNoFileOf}
use Rattle.st_store.specs.Roots.{place, Chooses, IsFresh}
use Rattle.st_store.specs.Refusals.{Fit, RefusesFront, RefusesNumbers, Refuses, IsRefusal}
use Rattle.st_store.specs.Stored.{Stored, Begins, Opens, IsChosen, IsStaged, IsReady, IsOpening, stored_in}
use Rattle.st_store.specs.Faults.{OpensAsOne}
use Rattle.st_store.specs.declared.root.Root.{Root}
use Rattle.st_store.specs.declared.fault.StorePlace.TheVariants.{Roots, Changes as ChangesPlace}
use Rattle.st_store.specs.declared.fault.StoreFault.{StoreFault}
use Rattle.st_store.specs.declared.fault.StoreFault.TheVariants.{Missing, Exists, NotAStore, Disk, OutOfMemory}
use Rattle.st_store.proofs.Bytes.{root_same}
use Rattle.st_store.proofs.Clearing.{letters_or_none}
use Rattle.st_store.proofs.Turning.{opens_as, rests}

pub front_refuses : (name : List ℕ) (f : Files) (e : StoreFault) → RefusesFront (f (roots_file name)) e → Refuses name f e
front_refuses name f Missing why = why
front_refuses name f Exists why = why
front_refuses name f (NotAStore (Roots at)) why = inl why
front_refuses name f (NotAStore (ChangesPlace at)) why = why
front_refuses name f Disk why = tt
front_refuses name f OutOfMemory why = tt

pub refusal_is_of_files : (e : StoreFault) → IsRefusal e → e ≡ Disk → ⊥
refusal_is_of_files e is same = subst IsRefusal same is

pub numbers_refuse : (name : List ℕ) (f : Files) (k : ℕ) (root : Root) (e : StoreFault) → Chooses k root (f (roots_file name)) → root.slot ≤ 3
    → RefusesNumbers k root (length (bytes_of (f (image_file name root.slot)))) (length (bytes_of (f (changes_file name root.slot)))) e → Refuses name f e
numbers_refuse name f k root Missing chosen slot why = absurd why
numbers_refuse name f k root Exists chosen slot why = why
numbers_refuse name f k root (NotAStore (Roots at)) chosen slot why = inr (record { number = k; root = root; chosen = chosen; slot = slot; wrong = why })
numbers_refuse name f k root (NotAStore (ChangesPlace at)) chosen slot why = why
numbers_refuse name f k root Disk chosen slot why = tt
numbers_refuse name f k root OutOfMemory chosen slot why = tt

pub stored_same : (name : List ℕ) (root : Root) (f g : Files) → ((n : List ℕ) → f n ≡ g n) → stored_in name f root ≡ stored_in name g root
stored_same name root f g same = λ i. stored_in name (λ n. same n i) root

-- what is tested opens
pub tested_opens : (name : List ℕ) (f : Files) (k : ℕ) (root : Root) → Chooses k root (f (roots_file name)) → root.slot ≤ 3
    → Fit root (length (bytes_of (f (image_file name root.slot)))) (length (bytes_of (f (changes_file name root.slot)))) → Opens name (stored_in name f root) f
tested_opens name f k root chosen slot fit = record {
  number = k;
  chosen = chosen;
  sound = record { slot = slot; base = fit.base; limit = fit.limit };
  image = record { long = fit.fits; is = refl };
  changes = record { long = fit.length; is = refl };
}

module _ {D : Type 0} (host : Ghosts D) (name : List ℕ) where
  -- what opens is chosen, once a stop leaves just what is read
  pub looked : (m : D) (root : Root) (k : ℕ) → IsTrue host.is_told → k ≤ 1 → Chooses k root (host.files m (roots_file name)) → Opens name (stored_in name (host.files m) root) (host.files m)
      → IsSynced host (roots_file name) m → IsSynced host (image_file name root.slot) m → IsSynced host (changes_file name root.slot) m
      → IsChosen host m name k (stored_in name (host.files m) root)
  looked m root k told one chosen opens roots image changes =
      let c = stored_in name (host.files m) root in
      record {
        which = one;
        roots = λ x can. subst (λ (y : Option (List ℕ)). Chooses k root y) (sym (roots.is told x can)) chosen;
        firm = record {
          sound = opens.sound;
          image = λ x can. subst (λ (y : Option (List ℕ)). Begins root.image_length c.image y) (sym (image.is told x can)) opens.image;
          changes = λ x can. subst (λ (y : Option (List ℕ)). Begins root.length c.changes y) (sym (changes.is told x can)) opens.changes;
        };
      }

  -- the same by the names that the code has, and seen from where the opening began
  pub looked_at : (a b m : D) (r im ch : List ℕ) (root : Root) (k : ℕ) → IsTrue host.is_told → r ≡ roots_file name → im ≡ image_file name root.slot → ch ≡ changes_file name root.slot
      → k ≤ 1 → root.slot ≤ 3 → Chooses k root (host.files a r) → IsSynced host r b → ReadsAlike host a b → Narrows host b m → ReadsAlike host b m
      → Fit root (length (bytes_of (host.files b im))) (length (bytes_of (host.files b ch))) → IsSynced host im m → IsSynced host ch m
      → IsChosen host m name k (stored_in name (host.files a) root)
  looked_at a b m r im ch root k told is_roots is_image is_changes one slot chooses roots alike narrows still fit image changes =
      let roots_name = roots_file name in
      let image_name = image_file name root.slot in
      let changes_name = changes_file name root.slot in
      let whole = alike_join host a b m alike still in
      let chosen : Chooses k root (host.files m roots_name) =
      subst (λ (x : Option (List ℕ)). Chooses k root x) (sym (whole.same told roots_name)) (subst (λ (x : List ℕ). Chooses k root (host.files a x)) is_roots chooses) in
      let at_names : Fit root (length (bytes_of (host.files b image_name))) (length (bytes_of (host.files b changes_name))) =
      subst (λ (x : List ℕ). Fit root (length (bytes_of (host.files b image_name))) (length (bytes_of (host.files b x)))) is_changes
      (subst (λ (x : List ℕ). Fit root (length (bytes_of (host.files b x))) (length (bytes_of (host.files b ch)))) is_image fit) in
      let fits : Fit root (length (bytes_of (host.files m image_name))) (length (bytes_of (host.files m changes_name))) =
      subst (λ (x : Option (List ℕ)). Fit root (length (bytes_of (host.files m image_name))) (length (bytes_of x))) (sym (still.same told changes_name))
      (subst (λ (x : Option (List ℕ)). Fit root (length (bytes_of x)) (length (bytes_of (host.files b changes_name)))) (sym (still.same told image_name)) at_names) in
      subst (λ (x : Stored). IsChosen host m name k x) (stored_same name root (host.files m) (host.files a) (λ n. whole.same told n))
      (looked m root k told one chosen (tested_opens name (host.files m) k root chosen slot fits)
      (synced_on host roots_name b m (subst (λ (x : List ℕ). IsSynced host x b) is_roots roots) narrows still)
      (subst (λ (x : List ℕ). IsSynced host x m) is_image image)
      (subst (λ (x : List ℕ). IsSynced host x m) is_changes changes))

  -- a number that is wrong for the files as the code names them
  pub refused_at : (a b : D) (r im ch : List ℕ) (root : Root) (k : ℕ) (e : StoreFault) → IsTrue host.is_told → r ≡ roots_file name → im ≡ image_file name root.slot → ch ≡ changes_file name root.slot
      → root.slot ≤ 3 → Chooses k root (host.files a r) → ReadsAlike host a b
      → RefusesNumbers k root (length (bytes_of (host.files b im))) (length (bytes_of (host.files b ch))) e → Refuses name (host.files a) e
  refused_at a b r im ch root k e told is_roots is_image is_changes slot chooses alike why =
      let image_name = image_file name root.slot in
      let changes_name = changes_file name root.slot in
      let at_names : RefusesNumbers k root (length (bytes_of (host.files b image_name))) (length (bytes_of (host.files b changes_name))) e =
      subst (λ (x : List ℕ). RefusesNumbers k root (length (bytes_of (host.files b image_name))) (length (bytes_of (host.files b x))) e) is_changes
      (subst (λ (x : List ℕ). RefusesNumbers k root (length (bytes_of (host.files b x))) (length (bytes_of (host.files b ch))) e) is_image why) in
      numbers_refuse name (host.files a) k root e (subst (λ (x : List ℕ). Chooses k root (host.files a x)) is_roots chooses) slot
      (subst (λ (x : Option (List ℕ)). RefusesNumbers k root (length (bytes_of (host.files a image_name))) (length (bytes_of x)) e) (alike.same told changes_name)
      (subst (λ (x : Option (List ℕ)). RefusesNumbers k root (length (bytes_of x)) (length (bytes_of (host.files b changes_name))) e) (alike.same told image_name) at_names))

  -- no call
  pub narrows_none : (a : D) → (IsTrue host.is_told → (f : Files) (s : List ℕ) → host.left_since a (host.moment a) f s → Here (host.may_leave a) (host.said a) f s) → Narrows host a a
  narrows_none a only_now = record {
    disk = omega arith;
    say = refl;
    alike = λ calm. record { same = λ told n. refl };
    quiet = λ told. refl;
    fewer = λ told n c can. can;
    moments = λ told. record { later = omega arith; each = only_now told; before = λ t f s le left. inl left };
  }

  -- reads and syncs, and then changes to the roots file
  pub but_roots : (a m d : D) → Narrows host a m → ChangesOneFile host (roots_file name) m d → NarrowsBut host (roots_file name) a d
  but_roots a m d narrows changes = but_join host (roots_file name) a m d (narrows_but host (roots_file name) a m narrows) (changes_but host (roots_file name) m d changes)

  pub only_looked : (a c : D) → IsTrue host.is_told → Narrows host a c → LeavesOnly host a c (λ f s. (s ≡ host.said a) × IsOpening host a name f)
  only_looked a c told narrows = weaker host a c (λ f s. (s ≡ host.said a) × IsOpening host a name f) (Here (host.may_leave a) (host.said a)) (narrows.moments told) (λ f s here. (here.1, inl here.0))

  -- a file that was synced stays so where it is left alone
  pub still_synced : (n : List ℕ) (names : List ℕ → Type 0) (a b : D) → names n → Spares host names a b → IsSynced host n a → IsSynced host n b
  still_synced n names a b is spares synced = record { is = λ told c can. synced.is told c (spares.fewer told n c is can) ∙ sym (spares.files told n is) }

  -- what was read opens
  pub read_opens : (a m : D) (c : Stored) (k : ℕ) → IsTrue host.is_told → ReadsAlike host a m → ((n : List ℕ) → host.may_leave m n (host.files m n)) → IsChosen host m name k c
      → Opens name c (host.files a)
  read_opens a m c k told alike reads chosen = subst (λ (g : Files). Opens name c g) (λ i n. alike.same told n i) (rests host name m k c (host.files m) chosen reads)

  -- all the moments of an opening
  pub opened : {R E : Type 0} (a m d : D) (c : Stored) (k : ℕ) (result : Result R E) → IsTrue host.is_told → Narrows host a m → ReadsAlike host a m
      → ((n : List ℕ) → host.may_leave m n (host.files m n)) → IsChosen host m name k c
      → Makes host (Opens name) c c m d result
      → LeavesOnly host a d (λ f s. (s ≡ host.said a) × IsOpening host a name f)
  opened a m d c k result told narrows alike reads chosen makes =
      let read = read_opens a m c k told alike reads chosen in
      moments_join host a m d (λ f s. (s ≡ host.said a) × IsOpening host a name f) (λ f s. (s ≡ host.said m) × (Opens name c f ⊎ Opens name c f))
      (only_looked a m told narrows)
      makes.moments
      (λ f s so. (so.0 ∙ narrows.quiet told, inr (record { is = c; read = read; now = ⊎_elim (λ x. x) (λ x. x) so.1 })))

  -- If each root that could be chosen names what is firm, the files open at each moment as some that a stop before could leave.
  pub as_before : (a d : D) → ((n : List ℕ) → host.may_leave a n (host.files a n)) → IsReady host a name
      → LeavesOnly host a d (λ f s. (s ≡ host.said a) × IsOpening host a name f) → LeavesOnly host a d (λ f s. (s ≡ host.said a) × OpensAsOne host a name f)
  as_before a d reads ready run = weaker host a d (λ f s. (s ≡ host.said a) × OpensAsOne host a name f) (λ f s. (s ≡ host.said a) × IsOpening host a name f) run (λ f s so. (so.0, one f so.1))
    where
      one : (f : Files) → IsOpening host a name f → OpensAsOne host a name f
      one f (inl could) = ⊎_elim
          (λ letters.
          let at = ready (f (roots_file name)) (could (roots_file name)) letters in
          let opens = opens_as host name a at.1 f at.0 at.3 (λ n other. could n) at.2 in
          record { is = Some at.1; were = f; could = could; was = opens; now = opens })
          (λ none. record { is = None; were = f; could = could; was = none; now = none })
          (letters_or_none (f (roots_file name)) 8 (omega arith))
      one f (inr opens) = record { is = Some opens.is; were = host.files a; could = reads; was = opens.read; now = opens.now }

  -- both roots are one, and the gate is written
  pub freshly : (m d : D) (k : ℕ) (c : Stored) → host.may_leave m (roots_file name) (host.files m (roots_file name)) → IsStaged host m name k c c
      → host.may_leave d (roots_file name) (host.files d (roots_file name)) → IsChosen host d name k c
      → IsWritten 8 (k ∷ []) (host.files m (roots_file name)) (host.files d (roots_file name)) → IsFresh k c.root (host.files d (roots_file name))
  freshly m d k c reads staged now chosen written =
      let was = bytes_of (host.files m (roots_file name)) in
      let is = bytes_of (host.files d (roots_file name)) in
      let same : (i : ℕ) → (i < 8) ⊎ (8 + 1 ≤ i) → slice_index is i ≡ slice_index was i = λ i out. written.outside i out in
      record {
        chosen = chosen.roots (host.files d (roots_file name)) now;
        gate = written.inside 0 (lit< tt);
        other = root_same (place (1 - k)) is was (λ i l u. same i (inr (omega arith))) ∙ staged.other (host.files m (roots_file name)) reads;
      }

  -- other files than the store's, while the roots file is looked at and what it names is synced
  pub spared : (a b m : D) (r im ch : List ℕ) (slot : ℕ) → r ≡ roots_file name → im ≡ image_file name slot → ch ≡ changes_file name slot
      → ChangesOneFile host r a b → Spares host (λ n. (n ≢ im) × (n ≢ ch)) b m → Spares host (IsNoFileOf name) a m
  spared a b m r im ch slot is_roots is_image is_changes looked firm =
      spares_join host (IsNoFileOf name) a b m
      (changes_spare host r (IsNoFileOf name) a b (λ n no same. no.roots (same ∙ is_roots)) looked)
      (spares_fewer host (λ n. (n ≢ im) × (n ≢ ch)) (IsNoFileOf name) b m (λ n no. (λ same. no.image slot (same ∙ is_image), λ same. no.changes slot (same ∙ is_changes))) firm)

  -- and then the roots file is changed
  pub spared_on : (a m d : D) → Spares host (IsNoFileOf name) a m → ChangesOneFile host (roots_file name) m d → Spares host (IsNoFileOf name) a d
  spared_on a m d spares changes = spares_join host (IsNoFileOf name) a m d spares (changes_spare host (roots_file name) (IsNoFileOf name) m d (λ n no. no.roots) changes)

-- the same moments, where the code has the name
pub opened_as : {D R E : Type 0} (host : Ghosts D) (n name : List ℕ) (a m d : D) (c : Stored) (k : ℕ) (result : Result R E) → n ≡ name → IsTrue host.is_told → Narrows host a m → ReadsAlike host a m
    → ((j : List ℕ) → host.may_leave m j (host.files m j)) → IsChosen host m n k c → Makes host (Opens n) c c m d result → LeavesOnly host a d (λ f s. (s ≡ host.said a) × IsOpening host a name f)
opened_as host n name a m d c k result same told narrows alike reads chosen makes =
    subst (λ (y : List ℕ). LeavesOnly host a d (λ f s. (s ≡ host.said a) × IsOpening host a y f)) same (opened host n a m d c k result told narrows alike reads chosen makes)

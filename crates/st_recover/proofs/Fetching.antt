-- What is read of a store once it is open.
use Rattle.std.proofs.Common.{◌≡◌, ◌≤◌, ℕ, List, take, Option, IsTrue, ap, subst, ◌∙◌}
use Rattle.st_host.specs.Files.{Files, bytes_of}
use Rattle.st_host.specs.Stops.{Here}
use Rattle.st_host.specs.Runs.{LeavesOnly, ReadsAlike, Narrows, NarrowsBut, ChangesOneFile, Spares, IsAtRest}
use Rattle.st_host.specs.declared.host.Host.{Ghosts}
use Rattle.st_host.proofs.Joining.{moments_join}
use Rattle.st_host.proofs.Touching.{narrows_but, but_join, changes_spare, spares_join}
use Rattle.st_store.specs.Names.{roots_file, changes_file, image_file, IsNoFileOf}
use Rattle.st_store.specs.Stored.{Stored, StoreState, Opens, IsKept}
use Rattle.st_store.proofs.Turning.{rests}
use Rattle.st_changes.specs.Lists.{kept_changes}
use Rattle.st_recover.specs.Openings.{image_in}
use Rattle.st_store.proofs.Determined.{one_stored}

module _ {D : Type 0} (host : Ghosts D) where
  -- what is read of a store that is kept is what it has
  module _ (store : StoreState) (c : Stored) (b : D) (told : IsTrue host.is_told) (kept : IsKept host b store c) (reads : (n : List ℕ) → host.may_leave b n (host.files b n)) where
    here_opens : Opens store.name c (host.files b)
    here_opens = rests host store.name b store.chosen c (host.files b) kept.is reads

    pub image_is : image_in store (host.files b) ≡ c.image
    image_is = subst (λ root. take root.image_length (bytes_of (host.files b (image_file store.name root.slot))) ≡ c.image) kept.root here_opens.image.is

    pub changes_are : (m : D) → ReadsAlike host b m → kept_changes store (host.files m) ≡ c.changes
    changes_are m alike =
        ap (λ (x : Option (List ℕ)). take store.root.length (bytes_of x)) (alike.same told (changes_file store.name store.root.slot))
        ∙ subst (λ root. take root.length (bytes_of (host.files b (changes_file store.name root.slot))) ≡ c.changes) kept.root here_opens.changes.is

  -- reading leaves it so
  pub kept_on : (store : StoreState) (c : Stored) (b d : D) → IsTrue host.is_told → Narrows host b d → IsKept host b store c → IsKept host d store c
  kept_on store c b d told narrows kept = record {
    root = kept.root;
    is = record {
      which = kept.is.which;
      roots = λ x can. kept.is.roots x (narrows.fewer told (roots_file store.name) x can);
      firm = record {
        sound = kept.is.firm.sound;
        image = λ x can. kept.is.firm.image x (narrows.fewer told (image_file store.name c.root.slot) x can);
        changes = λ x can. kept.is.firm.changes x (narrows.fewer told (changes_file store.name c.root.slot) x can);
      };
    };
  }

  -- so each state that a stop may leave opens as what was read
  pub rests_as_read : (name : List ℕ) (store : StoreState) (c : Stored) (a d : D) (x : Stored) → IsTrue host.is_told → store.name ≡ name → Opens name c (host.files a) → Opens name x (host.files a) → IsKept host d store c
      → IsAtRest host (Opens name) x d
  rests_as_read name store c a d x told named was is kept = record {
    opens_as = λ f can. subst (λ (y : Stored). Opens name y f) (one_stored name c x (host.files a) was is)
        (subst (λ (n : List ℕ). Opens n c f) named (rests host store.name d store.chosen c f kept.is can));
  }

  -- A run that only reads behind a run: each state that a stop may leave is one that could be left before.
  module _ (P : Files → List ℕ → Type 0) (a b : D) (now : (f : Files) (s : List ℕ) → host.moment a ≤ host.moment b → Here (host.may_leave b) (host.said b) f s → host.left_since b (host.moment a) f s) where
    pub left_now : LeavesOnly host a b P → (f : Files) (s : List ℕ) → Here (host.may_leave b) (host.said b) f s → P f s
    left_now run f s here = run.each f s (now f s run.later here)

    pub left_reading : (d : D) → IsTrue host.is_told → LeavesOnly host a b P → Narrows host b d → LeavesOnly host a d P
    left_reading d told run narrows = moments_join host a b d P (Here (host.may_leave b) (host.said b)) run (narrows.moments told) (left_now run)

  -- the image's file is read, and then the changes file
  pub but_reading : (name : List ℕ) (a b d : D) → NarrowsBut host (roots_file name) a b → Narrows host b d → NarrowsBut host (roots_file name) a d
  but_reading name a b d first narrows = but_join host (roots_file name) a b d first (narrows_but host (roots_file name) b d narrows)

  pub spares_image : (name other : List ℕ) (slot : ℕ) (a b m : D) → other ≡ name → Spares host (IsNoFileOf name) a b → ChangesOneFile host (image_file other slot) b m → Spares host (IsNoFileOf name) a m
  spares_image name other slot a b m same first changes =
      spares_join host (IsNoFileOf name) a b m first
      (changes_spare host (image_file other slot) (IsNoFileOf name) b m (λ n no e. no.image slot (e ∙ ap (λ x. image_file x slot) same)) changes)

  pub spares_changes : (name other : List ℕ) (slot : ℕ) (a m d : D) → other ≡ name → Spares host (IsNoFileOf name) a m → ChangesOneFile host (changes_file other slot) m d → Spares host (IsNoFileOf name) a d
  spares_changes name other slot a m d same first changes =
      spares_join host (IsNoFileOf name) a m d first
      (changes_spare host (changes_file other slot) (IsNoFileOf name) m d (λ n no e. no.changes slot (e ∙ ap (λ x. changes_file x slot) same)) changes)

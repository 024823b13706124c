-- Why a store isn't opened, by the call that refuses it.
use Rattle.std.proofs.Common.{◌≡◌, ◌≤◌, ◌<◌, ℕ, List, length, refl, sym, subst, arith, length-take}
use Rattle.std.specs.Prelude.{Err}
use Rattle.st_model.specs.Limits.{longest_image}
use Rattle.st_host.specs.Files.{Files, bytes_of}
use Rattle.st_host.specs.declared.host.Host.{Ghosts}
use Rattle.st_host.proofs.Rising.{rose_second}
use Rattle.st_store.specs.Names.{image_file}
use Rattle.st_store.specs.Refusals.{Refuses, IsOfOpening, FaultHasCause, IsRefusal}
use Rattle.st_store.specs.Stored.{Stored, StoreState, Opens, stored_in}
use Rattle.st_store.specs.declared.fault.StoreFault.{StoreFault}
use Rattle.st_store.specs.declared.fault.StoreFault.TheVariants.{Missing, Exists, NotAStore, Disk, OutOfMemory}
use Rattle.st_store.specs.declared.fault.StorePlace.TheVariants.{Roots, Changes}
use Rattle.st_changes.specs.Lists.{RefusesChanges, IsOfLoading}
use Rattle.st_recover.specs.Openings.{IsReadable, IsFaulty, RefusesImage, IsOfImage, by_store, RefusesOpening, IsOfReopening, IsOfRoots, IsOfNamed, OpeningHasCause}
use Rattle.st_recover.specs.declared.fault.OpenFault.{OpenFault}
use Rattle.st_recover.specs.declared.fault.OpenFault.TheVariants as opening

-- FAULTS OF THE STORE

pub store_refuses : (name : List ℕ) (f : Files) (e : StoreFault) → Refuses name f e → RefusesOpening name f (by_store e)
store_refuses name f Missing why = why
store_refuses name f Exists why = why
store_refuses name f (NotAStore (Roots at)) why = why
store_refuses name f (NotAStore (Changes at)) why = absurd why
store_refuses name f Disk why = tt
store_refuses name f OutOfMemory why = tt

pub store_kind : (e : StoreFault) → IsOfOpening e → IsOfReopening (by_store e)
store_kind Missing is = tt
store_kind Exists is = is
store_kind (NotAStore place) is = tt
store_kind Disk is = tt
store_kind OutOfMemory is = tt

-- none of opening the store is one of what its root names
pub store_unnamed : (e : StoreFault) → IsOfOpening e → IsOfNamed (by_store e) → ⊥
store_unnamed Missing is named = named
store_unnamed Exists is named = is
store_unnamed (NotAStore (Roots at)) is named = named
store_unnamed (NotAStore (Changes at)) is named = is
store_unnamed Disk is named = named
store_unnamed OutOfMemory is named = named

-- a fault of the roots file is one that it shows
pub roots_refuse : (e : StoreFault) → IsOfRoots (by_store e) → IsRefusal e
roots_refuse Missing h = tt
roots_refuse Exists h = h
roots_refuse (NotAStore place) h = tt
roots_refuse Disk h = h
roots_refuse OutOfMemory h = h

-- and none of the disk
pub no_disk : (e : StoreFault) → IsOfRoots (by_store e) → e ≡ Disk → ⊥
no_disk Missing is same = cc
no_disk Exists is same = absurd is
no_disk (NotAStore place) is same = cc
no_disk Disk is same = absurd is
no_disk OutOfMemory is same = absurd is

module _ {D : Type 0} (host : Ghosts D) where
  pub store_cause : {T : Type 0} (a b : D) (e : StoreFault) → FaultHasCause {T = T} (host.disk_faults a) (host.disk_faults b) (Err e)
      → OpeningHasCause host a b (by_store e)
  store_cause a b Missing cause = tt
  store_cause a b Exists cause = tt
  store_cause a b (NotAStore place) cause = tt
  store_cause a b Disk cause = cause.rose refl
  store_cause a b OutOfMemory cause = tt

  -- what came before doesn't lower the count
  pub cause_behind : (a b d : D) (e : OpenFault) → host.disk_faults a ≤ host.disk_faults b → OpeningHasCause host b d e → OpeningHasCause host a d e
  cause_behind a b d (opening.Store fault) le cause = tt
  cause_behind a b d (opening.Image fault) le cause = tt
  cause_behind a b d opening.TooLarge le cause = tt
  cause_behind a b d opening.Disk le cause = rose_second (host.disk_faults a) (host.disk_faults b) (host.disk_faults d) le cause
  cause_behind a b d opening.OutOfMemory le cause = tt

-- FAULTS OF THE IMAGE

pub image_kind : (e : OpenFault) → IsOfImage e → IsOfReopening e
image_kind (opening.Store fault) is = absurd is
image_kind (opening.Image fault) is = tt
image_kind opening.TooLarge is = tt
image_kind opening.Disk is = tt
image_kind opening.OutOfMemory is = tt

pub image_no_roots : (e : OpenFault) → IsOfImage e → IsOfRoots e → ⊥
image_no_roots (opening.Store fault) is roots = is
image_no_roots (opening.Image fault) is roots = roots
image_no_roots opening.TooLarge is roots = roots
image_no_roots opening.Disk is roots = roots
image_no_roots opening.OutOfMemory is roots = roots

module _ (name : List ℕ) (f : Files) (store : StoreState) (opens : Opens name (stored_in name f store.root) f) (read : List ℕ) (same : read ≡ (stored_in name f store.root).image) where
  image_long : length (stored_in name f store.root).image ≡ store.root.image_length
  image_long = length_take_all
    where
      length_take_all : length (stored_in name f store.root).image ≡ store.root.image_length
      length_take_all = omega (arith, length-take store.root.image_length (bytes_of (f (image_file name store.root.slot))), opens.image.long)

  pub image_refuses : (e : OpenFault) → RefusesImage store read e → RefusesOpening name f e
  image_refuses (opening.Store fault) why = absurd why
  image_refuses (opening.Image fault) why = (stored_in name f store.root, opens, subst (λ b. IsFaulty b fault) same why)
  image_refuses opening.TooLarge why = (stored_in name f store.root, opens, subst (λ n. longest_image < n) (sym image_long) why)
  image_refuses opening.Disk why = tt
  image_refuses opening.OutOfMemory why = tt

-- FAULTS OF THE CHANGES

pub changes_kind : (e : StoreFault) → IsOfLoading e → IsOfReopening (by_store e)
changes_kind Missing is = absurd is
changes_kind Exists is = absurd is
changes_kind (NotAStore place) is = tt
changes_kind Disk is = tt
changes_kind OutOfMemory is = tt

pub changes_no_roots : (e : StoreFault) → IsOfLoading e → IsOfRoots (by_store e) → ⊥
changes_no_roots Missing is roots = is
changes_no_roots Exists is roots = is
changes_no_roots (NotAStore (Roots at)) is roots = is
changes_no_roots (NotAStore (Changes at)) is roots = roots
changes_no_roots Disk is roots = roots
changes_no_roots OutOfMemory is roots = roots

pub changes_refuse : (name : List ℕ) (f : Files) (c : Stored) (bytes : List ℕ) → Opens name c f → IsReadable c.image → bytes ≡ c.changes
    → (e : StoreFault) → RefusesChanges bytes c.root e → RefusesOpening name f (by_store e)
changes_refuse name f c bytes opens readable same Missing why = absurd why
changes_refuse name f c bytes opens readable same Exists why = absurd why
changes_refuse name f c bytes opens readable same (NotAStore (Roots at)) why = absurd why
changes_refuse name f c bytes opens readable same (NotAStore (Changes at)) why =
    (c, opens, readable, subst (λ b. RefusesChanges b c.root (NotAStore (Changes at))) same why)
changes_refuse name f c bytes opens readable same Disk why = tt
changes_refuse name f c bytes opens readable same OutOfMemory why = tt

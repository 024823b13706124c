-- What a stop may leave of a store behind a session, by the commits that this made.
use Rattle.std.specs.Prelude.{◌≡◌, ◌⊎◌, ℕ, suc, List, ◌++◌, slice_get, Some}
use Rattle.st_host.specs.Files.{Files}
use Rattle.st_host.specs.Runs.{LeavesOnly, Syncs, IsAtRest}
use Rattle.st_host.specs.Stops.{SameStops}
use Rattle.st_host.specs.declared.host.Host.{Ghosts}
use Rattle.st_store.specs.Faults.{GateFails, LettersFail}
use Rattle.st_store.specs.Names.{roots_file}
use Rattle.st_protocol.specs.Acknowledged.{acknowledged}
use Rattle.st_protocol.specs.Done.{RestsAsOne}

module _ {D : Type 0} (host : Ghosts D) {C : Type 0} (opens : C → Files → Type 0) where
  -- From a sync of the roots file on a stop leaves files that open as this.
  pub record OpensFrom (name : List ℕ) (c : C) (old new : D) : Type 0 where
    pub synced : D
    pub first : Syncs host (roots_file name) old synced
    pub moments : LeavesOnly host synced new (λ f s. opens c f)

  -- Something failed where files opened as this, and behind that no file was touched.
  pub record HasFailed (breaks : List ℕ → C → D → Type 0) (name : List ℕ) (c : C) (new : D) : Type 0 where
    pub failed : D
    pub fails : breaks name c failed
    pub behind : SameStops (host.may_leave failed) (host.may_leave new)

  -- the write of the gate or its sync, or those of the eight letters
  abbrev pub GateFailed : List ℕ → C → D → Type 0
  GateFailed name c new = HasFailed (GateFails host opens) name c new

  abbrev pub LettersFailed : List ℕ → C → D → Type 0
  LettersFailed name c new = HasFailed (LettersFail host opens) name c new

  -- Each state that a stop may leave opens as one of two commits, of which the second follows the first: as the second was made the
  -- gate failed.
  pub record RestsAsEither (name : List ℕ) (commits : List C) (new : D) : Type 0 where
    pub number : ℕ
    pub commit : C
    pub next : C
    pub is_of : slice_get commits number ≡ Some commit
    pub follows : slice_get commits (suc number) ≡ Some next
    pub either : (f : Files) → ((n : List ℕ) → host.may_leave new n (f n)) → opens commit f ⊎ opens next f
    pub gate : GateFailed name commit new

  -- as one of the commits, or, only where the gate failed as a commit was made, as that or as the one before it
  abbrev pub RestsBroken : List ℕ → List C → D → Type 0
  RestsBroken name commits new = RestsAsOne host opens commits new ⊎ RestsAsEither name commits new

  -- as the commit whose number is that of the commits acknowledged since this was said
  pub record RestsAcknowledged (commits : List C) (said : List ℕ) (new : D) : Type 0 where
    pub words : List ℕ
    pub said_is : host.said new ≡ said ++ words
    pub commit : C
    pub is_of : slice_get commits (acknowledged words) ≡ Some commit
    pub at : IsAtRest host opens commit new

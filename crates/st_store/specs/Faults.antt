-- What a fault of the disk leaves of a store.
use Rattle.std.specs.Prelude.{◌⊎◌, ℕ, List, Option}
use Rattle.st_host.specs.Counts.{Rose}
use Rattle.st_host.specs.Files.{Files}
use Rattle.st_host.specs.Runs.{LeavesOnly, Narrows, Writes, Syncs, IsSynced, IsAtRest}
use Rattle.st_host.specs.declared.host.Host.{Ghosts}
use Rattle.st_store.specs.Founding.{OpensMaybe}
use Rattle.st_store.specs.Names.{roots_file}
use Rattle.st_store.specs.Stored.{Stored, Opens, IsReady}

module _ {D : Type 0} (host : Ghosts D) where
  -- Each state that a stop could leave opened as this, whatever it is that files open as. Since then nothing was changed but n bytes at
  -- a place of the roots file, and a call on a file failed, so that these bytes may not be synced.
  pub record FailsAt (at n : ℕ) {C : Type 0} (opens : C → Files → Type 0) (name : List ℕ) (c : C) (new : D) : Type 0 where
    pub before : D
    pub rest : IsAtRest host opens c before
    pub writes : Writes host (roots_file name) at n before new
    pub fault : Rose (host.disk_faults before) (host.disk_faults new)

  -- It was the gate, a byte after the eight letters. Each root that a stop may leave chosen names what is firm.
  pub record GateFails {C : Type 0} (opens : C → Files → Type 0) (name : List ℕ) (c : C) (new : D) : Type 0 where
    pub fails : FailsAt 8 1 opens name c new
    pub ready : IsReady host new name

  abbrev pub LettersFail : {C : Type 0} → (C → Files → Type 0) → List ℕ → C → D → Type 0
  LettersFail opens name c new = FailsAt 0 8 opens name c new

  -- Each state that a stop may leave opens as this, but where it was the gate that failed.
  abbrev pub RestsUnlessGate : {C : Type 0} → (C → Files → Type 0) → List ℕ → C → D → Type 0
  RestsUnlessGate opens name c new = IsAtRest host opens c new ⊎ GateFails opens name c new

  -- or but where it was the letters
  abbrev pub RestsUnlessLetters : {C : Type 0} → (C → Files → Type 0) → List ℕ → C → D → Type 0
  RestsUnlessLetters opens name c new = IsAtRest host opens c new ⊎ LettersFail opens name c new

  -- WHILE A STORE IS OPENED

  -- the files open as some that a stop could leave of this, or both are no store's
  pub record OpensAsOne (h : D) (name : List ℕ) (f : Files) : Type 0 where
    pub is : Option Stored
    pub were : Files
    pub could : (n : List ℕ) → host.may_leave h n (were n)
    pub was : OpensMaybe name is were
    pub now : OpensMaybe name is f

  -- the file was synced, and after that there were only reads and syncs
  pub record SyncsFirst (file : List ℕ) (old new : D) : Type 0 where
    pub synced : D
    pub first : Syncs host file old synced
    pub is : IsSynced host file synced
    pub behind : Narrows host synced new

  -- or a stop leaves of the file no more than it could leave, and of each other file just what it could
  abbrev pub TriesSync : List ℕ → D → D → Type 0
  TriesSync file old new = Syncs host file old new ⊎ SyncsFirst file old new

  -- From a sync of the roots file on a stop leaves files that open as this.
  pub record OpensSince {C : Type 0} (opens : C → Files → Type 0) (name : List ℕ) (c : C) (old new : D) : Type 0 where
    pub synced : D
    pub first : Syncs host (roots_file name) old synced
    pub moments : LeavesOnly host synced new (λ f s. opens c f)
    pub rest : IsAtRest host opens c new

  -- since then there is one answer
  abbrev pub HasSettled : {C : Type 0} → (C → Files → Type 0) → List ℕ → D → D → Type 0
  HasSettled {C = C} opens name old new = (c : C) × OpensSince opens name c old new

  -- or a stop leaves of the roots file no more than it could leave, and of each other file just what it could
  abbrev pub Settles : List ℕ → D → D → Type 0
  Settles name old new = Syncs host (roots_file name) old new ⊎ HasSettled {C = Option Stored} (OpensMaybe name) name old new

-- What the files of a name open as while a store is made.
use Rattle.std.specs.Prelude.{◌≡◌, ◌≢◌, ◌⊎◌, ℕ, List, [], length, Option, Some, None}
use Rattle.st_host.specs.Files.{Files, bytes_of}
use Rattle.st_host.specs.declared.host.Host.{Ghosts}
use Rattle.st_store.specs.Names.{roots_file, changes_file, image_file}
use Rattle.st_store.specs.Roots.{HasLetters}
use Rattle.st_store.specs.Founding.{IsNoStore, first_root, first_file}
use Rattle.st_recover.specs.Commits.{Commit, OpensAs}

-- what a new store holds: an image, and no definitions
abbrev pub first_commit : List ℕ → Commit
first_commit image = record { image = image; before = []; definitions = [] }

-- they are no store's, or they open as this
abbrev pub OpensIfAny : List ℕ → Option Commit → Files → Type 0
OpensIfAny name None f = IsNoStore (f (roots_file name))
OpensIfAny name (Some c) f = OpensAs name c f

-- Nothing was changed so far; or there was no store, and the files of this name are none's, or open as this.
abbrev pub IsMade : {D : Type 0} → Ghosts D → List ℕ → Commit → D → Files → Type 0
IsMade host name c old f = ((n : List ℕ) → host.may_leave old n (f n))
    ⊎ ((HasLetters (bytes_of (host.files old (roots_file name))) → ⊥) × (OpensIfAny name None f ⊎ OpensIfAny name (Some c) f))

-- the name is of none of the files that a new store has
pub record IsNoFirstFile (name n : List ℕ) : Type 0 where
  pub roots : n ≢ roots_file name
  pub changes : n ≢ changes_file name 0
  pub image : n ≢ image_file name 0

-- the files of a new store, byte for byte
pub record AreFirstFiles (name image : List ℕ) (f : Files) : Type 0 where
  pub roots : f (roots_file name) ≡ Some (first_file (first_root (length image)))
  pub picture : f (image_file name 0) ≡ Some image
  pub changes : f (changes_file name 0) ≡ Some []

-- What a session keeps, as contracts see it.
use Rattle.std.specs.Prelude.{◌≡◌, ◌≢◌, ℕ, Bool, nat_lt, List, length, Option, Some, IsTrue, All, ⊤}
use Rattle.st_host.specs.declared.host.Host.{Ghosts}
use Rattle.st_chunk.specs.Definitions.{Definition, IsDefinition, entries}
use Rattle.st_store.specs.Names.{roots_file, changes_file, image_file}
use Rattle.st_store.specs.Stored.{StoreState, IsKept, IsSound}
use Rattle.st_changes.specs.Lists.{StandsAt}
use Rattle.st_changes.specs.inside.States.{ChangesState}
use Rattle.st_protocol.specs.declared.status.Status.{Status}
use Rattle.st_protocol.specs.declared.status.Status.TheVariants.{DiskFault, TooLarge, OutOfMemory}
use Rattle.st_recover.specs.Images.{IsReadable}
use Rattle.st_recover.specs.Commits.{Commit, all_of, root_of, stored_of, other_image}

-- The open store, which there is none after a fault of the disk; its name; and the definitions of the changes file.
pub record ArchiveState : Type 0 where
  pub name : List ℕ
  pub store : Option StoreState
  pub listed : List Definition

-- the store has this name, its root names the second changes file or the first, and it has the length of these definitions' entries
pub record IsStoreOf (name : List ℕ) (second : Bool) (listed : List Definition) (store : StoreState) : Type 0 where
  pub named : store.name ≡ name
  pub file : second ≡ nat_lt 1 store.root.slot
  pub whole : store.root.length ≡ length (entries listed)

-- The listed definitions are those of the store's changes file, and the numbers of its root are sound: its base stands at one of them
-- or at their end.
pub record IsListOf (store : StoreState) (changes : ChangesState) : Type 0 where
  pub of_store : IsStoreOf changes.name changes.second changes.listed store
  pub sound : IsSound store.root
  pub good : All IsDefinition changes.listed
  pub stands : StandsAt changes.listed store.root.base

-- a store of this name whose root names the commit, with its image and its changes in a slot
abbrev pub store_of : List ℕ → ℕ → ℕ → Commit → StoreState
store_of name chosen slot c = record { name = name; chosen = chosen; root = root_of slot c }

-- The archive is open, and what it holds is this commit, which a stop leaves as it is, and whose image can be read.
pub record Holds {D : Type 0} (host : Ghosts D) (h : D) (a : ArchiveState) (c : Commit) : Type 0 where
  pub chosen : ℕ
  pub slot : ℕ
  pub store : a.store ≡ Some (store_of a.name chosen slot c)
  pub listed : a.listed ≡ all_of c
  pub good : All IsDefinition (all_of c)
  pub kept : IsTrue host.is_told → IsKept host h (store_of a.name chosen slot c) (stored_of slot c)
  pub readable : IsReadable c.image

-- neither the roots file nor the changes file that the store's root names: no definition is kept in another
abbrev pub IsBesideChanges : StoreState → List ℕ → Type 0
IsBesideChanges store n = (n ≢ roots_file store.name) × (n ≢ changes_file store.name store.root.slot)

-- neither the roots file nor the image file that the root doesn't name: no snapshot is kept in another
abbrev pub IsBesideImage : StoreState → List ℕ → Type 0
IsBesideImage store n = (n ≢ roots_file store.name) × (n ≢ image_file store.name (other_image store.root.slot))

-- how keeping a definition ends, on any host
abbrev pub IsOfKeeping : Status → Type 0
IsOfKeeping DiskFault = ⊤
IsOfKeeping TooLarge = ⊤
IsOfKeeping OutOfMemory = ⊤
IsOfKeeping _ = ⊥

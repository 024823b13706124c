-- What a changes file lists, and where it is damaged.
use Rattle.std.specs.Prelude.{◌≡◌, ◌⊎◌, ℕ, ◌<◌, ◌≤◌, List, ◌++◌, length, take, All, ⊤}
use Rattle.st_host.specs.Files.{Files, bytes_of}
use Rattle.st_store.specs.Names.{changes_file}
use Rattle.st_store.specs.Stored.{StoreState}
use Rattle.st_store.specs.declared.root.Root.{Root}
use Rattle.st_store.specs.declared.fault.StorePlace.TheVariants.{Changes}
use Rattle.st_store.specs.declared.fault.StoreFault.{StoreFault}
use Rattle.st_store.specs.declared.fault.StoreFault.TheVariants.{NotAStore, Disk, OutOfMemory}
use Rattle.st_chunk.specs.Definitions.{Definition, IsDefinition, entries}
use Rattle.st_changes.specs.Entries.{BeginsWith}

-- the bytes of the changes file up to the length of the store's root
abbrev pub kept_changes : StoreState → Files → List ℕ
kept_changes store f = take store.root.length (bytes_of (f (changes_file store.name store.root.slot)))

-- the place is the first byte of one of these definitions' entries, or their end
pub record StandsAt (ds : List Definition) (base : ℕ) : Type 0 where
  pub count : ℕ
  pub within : count ≤ length ds
  pub is : base ≡ length (entries (take count ds))

-- The bytes are the entries of these definitions and nothing else, and the base stands at one of them or at the end.
pub record Lists (bytes : List ℕ) (base : ℕ) (ds : List Definition) : Type 0 where
  pub good : All IsDefinition ds
  pub is : bytes ≡ entries ds
  pub stands : StandsAt ds base

-- right entries stand before this place, and what stands there begins with none
pub record IsWrongEntry (bytes : List ℕ) (at : ℕ) : Type 0 where
  pub before : List Definition
  pub good : All IsDefinition before
  pub behind : List ℕ
  pub is : bytes ≡ entries before ++ behind
  pub place : at ≡ length (entries before)
  pub there : 1 ≤ length behind
  pub wrong : (d : Definition) (more : List ℕ) → BeginsWith d behind more → ⊥

-- all entries are right, and the base stands at none of them
pub record IsWrongBase (bytes : List ℕ) (base at : ℕ) : Type 0 where
  pub ds : List Definition
  pub good : All IsDefinition ds
  pub is : bytes ≡ entries ds
  pub place : at ≡ base
  pub apart : StandsAt ds base → ⊥

-- the first wrong place
abbrev pub IsDamaged : List ℕ → ℕ → ℕ → Type 0
IsDamaged bytes base at = IsWrongEntry bytes at ⊎ IsWrongBase bytes base at

-- all of this is right, and the file ends before it has the root's length
pub record EndsShort (bytes : List ℕ) (root : Root) (at : ℕ) : Type 0 where
  pub ds : List Definition
  pub lists : Lists bytes root.base ds
  pub place : at ≡ length bytes
  pub short : at < root.length

-- Why these bytes of a changes file, of which this is the root, aren't loaded. Disk and OutOfMemory come from outside.
abbrev pub RefusesChanges : List ℕ → Root → StoreFault → Type 0
RefusesChanges bytes root (NotAStore (Changes at)) = IsDamaged bytes root.base at ⊎ EndsShort bytes root at
RefusesChanges bytes root Disk = ⊤
RefusesChanges bytes root OutOfMemory = ⊤
RefusesChanges bytes root _ = ⊥

-- the faults of loading, on any host
abbrev pub IsOfLoading : StoreFault → Type 0
IsOfLoading (NotAStore (Changes at)) = ⊤
IsOfLoading Disk = ⊤
IsOfLoading OutOfMemory = ⊤
IsOfLoading _ = ⊥

-- the faults of calls and of memory
abbrev pub IsOutside : StoreFault → Type 0
IsOutside Disk = ⊤
IsOutside OutOfMemory = ⊤
IsOutside _ = ⊥

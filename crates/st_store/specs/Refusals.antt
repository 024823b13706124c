-- Where the files of a name are no store's: the first wrong place of the roots file.
use Rattle.std.specs.Prelude.{◌≡◌, ◌≢◌, ◌⊎◌, ℕ, ◌+◌, ◌^◌, ◌<◌, ◌≤◌, List, length, slice_index, codes, Option, Some, None, IsSome, Result, IsErrOf, ⊤}
use Rattle.st_host.specs.Counts.{Rose}
use Rattle.st_host.specs.Files.{Files, bytes_of}
use Rattle.st_store.specs.Names.{roots_file, changes_file, image_file}
use Rattle.st_store.specs.Roots.{place, root_at, HasLetters, IsWhole, chosen_number, Chooses}
use Rattle.st_store.specs.declared.root.Root.{Root}
use Rattle.st_store.specs.declared.fault.StorePlace.TheVariants.{Roots, Changes}
use Rattle.st_store.specs.declared.fault.StoreFault.{StoreFault}
use Rattle.st_store.specs.declared.fault.StoreFault.TheVariants.{Missing, Exists, NotAStore, Disk, OutOfMemory}

-- the first letter that is wrong, or that isn't there (an index past the end of a list gives 0)
pub record IsWrongLetter (file : List ℕ) (at : ℕ) : Type 0 where
  pub below : at < 8
  pub right : (i : ℕ) → i < at → slice_index file i ≡ slice_index (codes "ST80ROOT") i
  pub wrong : slice_index file at ≢ slice_index (codes "ST80ROOT") at

-- The first wrong place that the roots file shows by itself: a wrong letter; its end, where it has the letters and less than its
-- 80 bytes; or the chosen root's slot, which is above 3.
abbrev pub IsWrongFront : List ℕ → ℕ → Type 0
IsWrongFront file at = IsWrongLetter file at
    ⊎ ((HasLetters file × (length file < 80) × (at ≡ length file))
    ⊎ (IsWhole (Some file) × (at ≡ place (chosen_number file)) × (3 < (root_at at file).slot)))

-- the roots file is there, and this is the first wrong place that it shows by itself
abbrev pub IsWrongRoots : Option (List ℕ) → ℕ → Type 0
IsWrongRoots file at = IsSome file × IsWrongFront (bytes_of file) at

-- The first number of root k behind its slot that is wrong for an image file and a changes file of these lengths: the image's
-- length, above that of its file; the base, above the length; or the length, above that of the changes file or the limit of 2^30.
abbrev pub IsWrongNumber : ℕ → Root → ℕ → ℕ → ℕ → Type 0
IsWrongNumber k root image changes at =
    ((at ≡ place k + 8) × (image < root.image_length))
    ⊎ (((at ≡ place k + 16) × (root.image_length ≤ image) × (root.length < root.base))
    ⊎ ((at ≡ place k + 24) × (root.image_length ≤ image) × (root.base ≤ root.length) × ((changes < root.length) ⊎ (2 ^ 30 < root.length))))

-- no number behind the slot is wrong for files of these lengths
pub record Fit (root : Root) (image changes : ℕ) : Type 0 where
  pub fits : root.image_length ≤ image
  pub base : root.base ≤ root.length
  pub length : root.length ≤ changes
  pub limit : root.length ≤ 2 ^ 30

-- the roots file chooses this root, of which a number behind the slot is wrong
pub record NamesTooMuch (name : List ℕ) (f : Files) (at : ℕ) : Type 0 where
  pub number : ℕ
  pub root : Root
  pub chosen : Chooses number root (f (roots_file name))
  pub slot : root.slot ≤ 3
  pub wrong : IsWrongNumber number root (length (bytes_of (f (image_file name root.slot)))) (length (bytes_of (f (changes_file name root.slot)))) at

-- why a roots file is no store's by itself
abbrev pub RefusesFront : Option (List ℕ) → StoreFault → Type 0
RefusesFront file Missing = file ≡ None
RefusesFront file Exists = ⊥
RefusesFront file (NotAStore (Roots at)) = IsWrongRoots file at
RefusesFront file (NotAStore (Changes at)) = ⊥
RefusesFront file Disk = ⊤
RefusesFront file OutOfMemory = ⊥

-- why a root is refused for the files that it names
abbrev pub RefusesNumbers : ℕ → Root → ℕ → ℕ → StoreFault → Type 0
RefusesNumbers k root image changes Missing = ⊥
RefusesNumbers k root image changes Exists = ⊥
RefusesNumbers k root image changes (NotAStore (Roots at)) = IsWrongNumber k root image changes at
RefusesNumbers k root image changes (NotAStore (Changes at)) = ⊥
RefusesNumbers k root image changes Disk = ⊤
RefusesNumbers k root image changes OutOfMemory = ⊥

-- Why a store of this name isn't opened from these files. The last two come from outside.
abbrev pub Refuses : List ℕ → Files → StoreFault → Type 0
Refuses name f Missing = f (roots_file name) ≡ None
Refuses name f Exists = ⊥
Refuses name f (NotAStore (Roots at)) = IsWrongRoots (f (roots_file name)) at ⊎ NamesTooMuch name f at
Refuses name f (NotAStore (Changes at)) = ⊥
Refuses name f Disk = ⊤
Refuses name f OutOfMemory = ⊤

-- Why a store isn't made where this is the roots file: there is one. The last two come from outside.
abbrev pub RefusesNew : Option (List ℕ) → StoreFault → Type 0
RefusesNew file Missing = ⊥
RefusesNew file Exists = HasLetters (bytes_of file)
RefusesNew file (NotAStore place) = ⊥
RefusesNew file Disk = ⊤
RefusesNew file OutOfMemory = ⊤

-- the faults of opening a store, on any host
abbrev pub IsOfOpening : StoreFault → Type 0
IsOfOpening Missing = ⊤
IsOfOpening Exists = ⊥
IsOfOpening (NotAStore (Roots at)) = ⊤
IsOfOpening (NotAStore (Changes at)) = ⊥
IsOfOpening Disk = ⊤
IsOfOpening OutOfMemory = ⊤

-- the faults that the roots file shows, or what its root names
abbrev pub IsRefusal : StoreFault → Type 0
IsRefusal Missing = ⊤
IsRefusal Exists = ⊥
IsRefusal (NotAStore place) = ⊤
IsRefusal Disk = ⊥
IsRefusal OutOfMemory = ⊥

-- the faults of making a store, on any host
abbrev pub IsOfMaking : StoreFault → Type 0
IsOfMaking Missing = ⊥
IsOfMaking Exists = ⊤
IsOfMaking (NotAStore place) = ⊥
IsOfMaking Disk = ⊤
IsOfMaking OutOfMemory = ⊤

-- The count doesn't fall, and a disk fault comes only where it rose.
pub record FaultHasCause {T : Type 0} (before now : ℕ) (result : Result T StoreFault) : Type 0 where
  pub later : before ≤ now
  pub rose : IsErrOf result Disk → Rose before now

-- What the opening of a store answers.
use Rattle.std.specs.Prelude.{◌≡◌, ◌<◌, ℕ, List, length, take, slice_get, Some, IsTrue, ⊤}
use Rattle.st_host.specs.Counts.{Rose}
use Rattle.st_host.specs.Files.{Files, bytes_of}
use Rattle.st_host.specs.declared.host.Host.{Ghosts}
use Rattle.st_model.specs.Limits.{longest_image}
use Rattle.st_model.specs.Machine.{State, Went}
use Rattle.st_model.specs.Births.{Births}
use Rattle.st_model.specs.Image.{image_head}
use Rattle.st_model.specs.Start.{begin}
use Rattle.st_store.specs.Names.{image_file}
use Rattle.st_store.specs.Refusals.{Refuses}
use Rattle.st_store.specs.Stored.{Stored, StoreState, Opens, IsOpening}
use Rattle.st_store.specs.declared.fault.StoreFault.{StoreFault}
use Rattle.st_store.specs.declared.fault.StoreFault.TheVariants.{Missing, Exists, NotAStore, Disk as DiskOfStore, OutOfMemory as NoMemoryForStore}
use Rattle.st_store.specs.declared.fault.StorePlace.TheVariants.{Roots, Changes}
use Rattle.st_changes.specs.Lists.{RefusesChanges}
use Rattle.st_protocol.specs.Installing.{Install}
pub use Rattle.st_recover.specs.Images.{IsReadable, IsFaulty}
use Rattle.st_recover.specs.Commits.{Commit, OpensAs}
use Rattle.st_recover.specs.Replays.{Replayed, replay}
use Rattle.st_recover.specs.declared.fault.OpenFault.{OpenFault}
use Rattle.st_recover.specs.declared.fault.OpenFault.TheVariants as opening

-- IMAGES

-- the bytes of the image that a store's root names
abbrev pub image_in : StoreState → Files → List ℕ
image_in store f = take store.root.image_length (bytes_of (f (image_file store.name store.root.slot)))

-- why the image of a store, which is this, isn't read; the last two come from outside
abbrev pub RefusesImage : StoreState → List ℕ → OpenFault → Type 0
RefusesImage store image (opening.Store fault) = ⊥
RefusesImage store image (opening.Image fault) = IsFaulty image fault
RefusesImage store image opening.TooLarge = longest_image < store.root.image_length
RefusesImage store image opening.Disk = ⊤
RefusesImage store image opening.OutOfMemory = ⊤

-- the faults of reading a store's image, on any host
abbrev pub IsOfImage : OpenFault → Type 0
IsOfImage (opening.Store fault) = ⊥
IsOfImage _ = ⊤

-- WHAT IS OPENED

-- What a commit opens as: the book's machine begins with the image's objects, and the definitions from the base on are
-- installed again.
pub record Reopens (install : Install) (c : Commit) (r : Replayed) : Type 0 where
  pub readable : IsReadable c.image
  pub births : State Births
  pub begins : begin (image_head c.image) c.image ≡ Went tt births
  pub replays : r ≡ replay install births (length c.before) c.definitions

-- WHAT AN OPENING KEEPS

-- these files open as one of these commits
pub record OpensAmong (name : List ℕ) (commits : List Commit) (f : Files) : Type 0 where
  pub number : ℕ
  pub commit : Commit
  pub is_of : slice_get commits number ≡ Some commit
  pub opens_as : OpensAs name commit f

-- Where each state that a stop could leave opened as one of some commits, each that it may leave while the store is opened does so.
abbrev pub OpeningKeeps : {D : Type 0} → Ghosts D → Type 0
OpeningKeeps {D = D} host = (name : List ℕ) (commits : List Commit) (old : D) → IsTrue host.is_told
    → ((f : Files) → ((n : List ℕ) → host.may_leave old n (f n)) → OpensAmong name commits f)
    → (f : Files) → IsOpening host old name f → OpensAmong name commits f

-- REFUSALS

-- the fault of a store, as one of opening it
abbrev pub by_store : StoreFault → OpenFault
by_store DiskOfStore = opening.Disk
by_store NoMemoryForStore = opening.OutOfMemory
by_store Missing = opening.Store Missing
by_store Exists = opening.Store Exists
by_store (NotAStore place) = opening.Store (NotAStore place)

-- Why these files aren't opened, in the order of the tests: the roots file and its root, the image's length, the image, the
-- changes. The last two come from outside.
abbrev pub RefusesOpening : List ℕ → Files → OpenFault → Type 0
RefusesOpening name f (opening.Store (NotAStore (Changes at))) =
    (c : Stored) × Opens name c f × IsReadable c.image × RefusesChanges c.changes c.root (NotAStore (Changes at))
RefusesOpening name f (opening.Store fault) = Refuses name f fault
RefusesOpening name f (opening.Image fault) = (c : Stored) × Opens name c f × IsFaulty c.image fault
RefusesOpening name f opening.TooLarge = (c : Stored) × Opens name c f × (longest_image < length c.image)
RefusesOpening name f opening.Disk = ⊤
RefusesOpening name f opening.OutOfMemory = ⊤

-- the faults of opening, on any host: of the store only that it is missing or damaged
abbrev pub IsOfReopening : OpenFault → Type 0
IsOfReopening (opening.Store Missing) = ⊤
IsOfReopening (opening.Store (NotAStore place)) = ⊤
IsOfReopening (opening.Store fault) = ⊥
IsOfReopening _ = ⊤

-- the faults of the roots file, which is tested before anything is written
abbrev pub IsOfRoots : OpenFault → Type 0
IsOfRoots (opening.Store Missing) = ⊤
IsOfRoots (opening.Store (NotAStore (Roots at))) = ⊤
IsOfRoots _ = ⊥

-- the faults of what a root names, which come once the store is open
abbrev pub IsOfNamed : OpenFault → Type 0
IsOfNamed (opening.Store (NotAStore (Changes at))) = ⊤
IsOfNamed (opening.Image fault) = ⊤
IsOfNamed opening.TooLarge = ⊤
IsOfNamed _ = ⊥

-- a fault of the disk comes only where its count rose
abbrev pub OpeningHasCause : {D : Type 0} → Ghosts D → D → D → OpenFault → Type 0
OpeningHasCause host old new opening.Disk = Rose (host.disk_faults old) (host.disk_faults new)
OpeningHasCause host old new _ = ⊤

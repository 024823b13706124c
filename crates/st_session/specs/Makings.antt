-- How the making of a store of an image ends, whatever the image comes from.
use Rattle.std.specs.Prelude.{◌≡◌, ◌⊎◌, ℕ, List, [], ◌∷◌, ◌++◌, codes, Option, IsTrue, ⊤}
use Rattle.st_host.specs.Counts.{Rose}
use Rattle.st_host.specs.Files.{Files, bytes_of}
use Rattle.st_host.specs.Runs.{LeavesOnly, IsAtRest}
use Rattle.st_host.specs.Stops.{SaidPart}
use Rattle.st_host.specs.declared.host.Host.{Ghosts}
use Rattle.st_model.specs.Objects.{one, words_of}
use Rattle.st_model.specs.Machine.{Head}
use Rattle.st_model.specs.Table.{Table, total_used}
use Rattle.st_model.specs.Text.{numbers_text}
use Rattle.st_model.specs.View.{View}
use Rattle.st_store.specs.Names.{roots_file}
use Rattle.st_store.specs.Roots.{HasLetters}
use Rattle.st_store.specs.Founding.{IsNoStore, IsCleared}
use Rattle.st_store.specs.declared.fault.StoreFault.TheVariants.{Exists}
use Rattle.st_protocol.specs.declared.status.Status.{Status}
use Rattle.st_protocol.specs.declared.status.Status.TheVariants.{Done, SayFault, DiskFault, Store, OutOfMemory}
use Rattle.st_recover.specs.Commits.{Commit, OpensAs, image_with}
use Rattle.st_recover.specs.Creating.{first_commit, IsNoFirstFile, AreFirstFiles}
use Rattle.st_session.specs.declared.making.Origin.{Origin}
use Rattle.st_session.specs.declared.making.Origin.TheVariants.{Image, Kernel}
use Rattle.st_call.specs.LastLines.{SaysLastLine}
use Rattle.st_session.specs.Commands.{LeavesAlone}
use Rattle.st_session.specs.Resting.{LettersFailed}

-- What a store is made of: the objects of an image, under its head.
pub record Contents : Type 0 where
  pub objects : Table
  pub head : Head

-- those of a memory
abbrev pub contents_in : View → Contents
contents_in v = record { objects = v.objects; head = v.head }

-- what the new store holds: their image, and no definitions
abbrev pub commit_of : Contents → Commit
commit_of c = first_commit (image_with c.objects c.head)

-- the word that says that a store is made
abbrev pub made_word : Origin → List ℕ
made_word Image = codes "imported"
made_word Kernel = codes "built"

-- how many objects there are, and how many words they have
abbrev pub made_text : Origin → Contents → List ℕ
made_text origin c = made_word origin ++ (numbers_text (total_used one c.objects ∷ total_used words_of c.objects ∷ []) ++ codes "\n")

-- there is a store of this name
abbrev pub IsThere : {D : Type 0} → Ghosts D → List ℕ → D → Type 0
IsThere host store h = HasLetters (bytes_of (host.files h (roots_file store)))

-- The statuses in which nothing was read of which a store could be made, where this says in which of them what was read is wrong.
abbrev pub IsUnread : (Status → Type 0) → Status → Type 0
IsUnread wrong Done = ⊥
IsUnread wrong SayFault = ⊥
IsUnread wrong DiskFault = ⊤
IsUnread wrong (Store _) = ⊥
IsUnread wrong OutOfMemory = ⊤
IsUnread wrong status = wrong status

-- The statuses in which no store was begun.
abbrev pub IsUnbegun : Status → Type 0
IsUnbegun Done = ⊥
IsUnbegun SayFault = ⊥
IsUnbegun DiskFault = ⊥
IsUnbegun _ = ⊤

-- A run of calls that keeps all files: each reads as before, where no fault of the disk was counted, and a stop leaves of it no
-- more than it could.
pub record KeepsFiles {D : Type 0} (host : Ghosts D) (old new : D) : Type 0 where
  pub alike : (Rose (host.disk_faults old) (host.disk_faults new) → ⊥) → IsTrue host.is_told → (n : List ℕ) → host.files new n ≡ host.files old n
  pub fewer : IsTrue host.is_told → (n : List ℕ) (c : Option (List ℕ)) → host.may_leave new n c → host.may_leave old n c

-- A command reads of what a store is to be made, which is `right` of some contents, or the status is one in which it is `wrong`.
module _ {D : Type 0} (host : Ghosts D) (origin : Origin) (right : Contents → Type 0) (wrong : Status → Type 0) (store : List ℕ) where
  -- They were read, there was no store, and now there is one that holds them.
  pub record IsMadeOf (c : Contents) (old new : D) : Type 0 where
    pub read : right c
    pub none : IsThere host store old → ⊥
    pub files : AreFirstFiles store (commit_of c).image (host.files new)
    pub rest : IsAtRest host (OpensAs store) (commit_of c) new

  -- what is so in each status that such a command can have
  abbrev pub MakingHas : D → D → Status → Type 0
  MakingHas old new Done = IsTrue host.is_told → (c : Contents) × IsMadeOf c old new × (host.said new ≡ host.said old ++ made_text origin c)
  MakingHas old new SayFault = IsTrue host.is_told → (c : Contents) × IsMadeOf c old new × SaidPart (host.said old) (made_text origin c) (host.said new)
  MakingHas old new DiskFault = SaysLastLine host DiskFault old new
  MakingHas old new (Store Exists) = (IsTrue host.is_told → (c : Contents) × right c × IsThere host store old) × SaysLastLine host (Store Exists) old new
  MakingHas old new (Store _) = ⊥
  MakingHas old new OutOfMemory = SaysLastLine host OutOfMemory old new
  MakingHas old new status = wrong status × SaysLastLine host status old new

  -- they were read, there was no store, and the files of its name are none's, or hold them
  abbrev pub IsBeingMade : D → Files → Type 0
  IsBeingMade old f = (c : Contents) × right c × (IsThere host store old → ⊥) × (IsNoStore (f (roots_file store)) ⊎ OpensAs store (commit_of c) f)

  -- A stop while a store is made: nothing was changed so far, or it is being made. Once it was said that it is made, the files hold
  -- what was read.
  pub record IsMaking (old : D) (f : Files) (s : List ℕ) : Type 0 where
    pub files : ((n : List ℕ) → host.may_leave old n (f n)) ⊎ IsBeingMade old f
    pub said : (c : Contents) → right c → s ≡ host.said old ++ made_text origin c → OpensAs store (commit_of c) f

  -- How such a command ends.
  pub record MakingEnds (old new : D) (status : Status) : Type 0 where
    pub has : MakingHas old new status
    pub moments : IsTrue host.is_told → LeavesOnly host old new (IsMaking old)
    -- after a fault of the disk a stop may leave what it could leave before, or files that are no store's, unless the letters failed
    pub broken : status ≡ DiskFault → IsTrue host.is_told
        → ((f : Files) → ((n : List ℕ) → host.may_leave new n (f n)) → IsCleared host store old f)
        ⊎ LettersFailed host {C = Unit} (λ u f. IsCleared host store old f) store tt new
    -- what is refused, also for want of memory, was not begun
    pub unbegun : IsUnbegun status → KeepsFiles host old new
    -- files but the three that a new store has
    pub alone : LeavesAlone host (IsNoFirstFile store) old new
    -- without a fault of the host what is right becomes a store, where there was none, or there was no memory
    pub complete : IsTrue host.is_told → (c : Contents) → right c → (IsThere host store old → ⊥)
        → (Rose (host.disk_faults old) (host.disk_faults new) → ⊥) → (Rose (host.say_faults old) (host.say_faults new) → ⊥)
        → (status ≡ Done) ⊎ (status ≡ OutOfMemory)

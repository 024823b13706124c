-- How an image of what a store holds is exported: of all objects, or of those that can be reached.
use Rattle.std.specs.Prelude.{◌≡◌, ◌≢◌, ◌⊎◌, ℕ, List, ◌++◌, length, Option, Some, None, IsTrue, Result, Ok, Err, IfErr, ⊤}
use Rattle.std.specs.Option.{option_or}
use Rattle.st_host.specs.Files.{Files}
use Rattle.st_host.specs.Runs.{LeavesOnly, Spares, IsAtRest}
use Rattle.st_host.specs.Stops.{SaidPart}
use Rattle.st_host.specs.declared.host.Host.{Ghosts}
use Rattle.st_model.specs.declared.demand.Demand.{Demand}
use Rattle.st_model.specs.Machine.{Head, State, Transition, Died, Went}
use Rattle.st_model.specs.Births.{Births, births}
use Rattle.st_model.specs.Saving.{save}
use Rattle.st_model.specs.Show.{show}
use Rattle.st_model.specs.Table.{Table}
use Rattle.st_model.specs.Text.{dead_text}
use Rattle.st_store.specs.Names.{IsNoFileOf}
use Rattle.st_store.specs.Stored.{IsReady}
use Rattle.st_protocol.specs.declared.status.Status.{Status}
use Rattle.st_protocol.specs.Statuses.{Counts}
use Rattle.st_protocol.specs.declared.status.Status.TheVariants.{Done, Script, ReadFault, SayFault, DiskFault, OutOfMemory}
use Rattle.st_install.specs.Defining.{installed}
use Rattle.st_clean.specs.Cleaning.{IsCleaned}
use Rattle.st_recover.specs.Commits.{Commit, OpensAs, image_with}
use Rattle.st_recover.specs.Openings.{Reopens}
use Rattle.st_recover.specs.Replays.{Replayed}
use Rattle.st_call.specs.LastLines.{SaysLastLine}
use Rattle.st_call.specs.Replies.{exported_text, cleaned_text}
use Rattle.st_session.specs.Ends.{IsCalm}
use Rattle.st_session.specs.declared.extent.Extent.{Extent}
use Rattle.st_session.specs.declared.extent.Extent.TheVariants.{Kept, Reachable}
use Rattle.st_session.specs.Resting.{OpensFrom}
use Rattle.st_session.specs.StoreSessions.{IsRefused, IsOfSession}

-- WHAT IS EXPORTED

-- what is said, and the image that is written, if any
pub record Export : Type 0 where
  pub image : Option (List ℕ)
  pub text : List ℕ

abbrev pub exporting : List ℕ → Export
exporting image = record { image = Some image; text = exported_text (length image) }

-- a clean image of these objects, with how many objects and words it has
pub record IsCleanExport (t : Table) (h : Head) (x : Export) : Type 0 where
  pub image : List ℕ
  pub demand : Demand
  pub cleaned : IsCleaned t h image demand
  pub is : x ≡ record { image = Some image; text = cleaned_text demand }

-- what is exported of these objects under this head
abbrev pub ExportsImage : Extent → Table → Head → Export → Type 0
ExportsImage Kept t h x = x ≡ exporting (image_with t h)
ExportsImage Reachable t h x = IsCleanExport t h x

-- that of what saving comes to; where it dies the cause is said, and no image is written
abbrev pub ExportsSaved : Extent → Transition (State Births) Unit → Export → Type 0
ExportsSaved extent (Died cause) x = x ≡ record { image = None; text = dead_text 0 cause }
ExportsSaved extent (Went u s) x = ExportsImage extent (show s).memory (show s).head x

-- that of a state, which is saved first
abbrev pub ExportsState : Extent → State Births → Export → Type 0
ExportsState extent s x = ExportsSaved extent (save births s) x

-- the statuses in which an export can end that was begun, on any host
abbrev pub IsOfExporting : Status → Type 0
IsOfExporting SayFault = ⊤
IsOfExporting DiskFault = ⊤
IsOfExporting OutOfMemory = ⊤
IsOfExporting _ = ⊥

-- CALLS

module _ {D : Type 0} (host : Ghosts D) where
  -- A run of calls that changes no file but this one, whatever is said. A stop leaves of each other file what it could leave.
  pub record LeavesOthers (name : List ℕ) (old new : D) : Type 0 where
    pub spares : Spares host (λ n. n ≢ name) old new
    pub moments : IsTrue host.is_told → LeavesOnly host old new (λ f s. (n : List ℕ) → n ≢ name → host.may_leave old n (f n))

  -- The file of this name has the image of an export of these, and of its text this was said.
  pub record IsWritten (exports : Export → Type 0) (says : List ℕ → Type 0) (name : List ℕ) (old new : D) : Type 0 where
    pub export : Export
    pub is : exports export
    pub file : host.files new name ≡ option_or export.image (host.files old name)
    pub said : says export.text

  -- all of a text was said
  abbrev pub AllSaid : D → D → List ℕ → Type 0
  AllSaid old new text = host.said new ≡ host.said old ++ text

  -- some first bytes of it were said
  abbrev pub PartSaid : D → D → List ℕ → Type 0
  PartSaid old new text = SaidPart (host.said old) text (host.said new)

  -- the file of this name reads as before, and nothing was said
  pub record IsUnwritten (name : List ℕ) (old new : D) : Type 0 where
    pub file : host.files new name ≡ host.files old name
    pub quiet : host.said new ≡ host.said old

  -- the file of this name has the image, and the text was said; or that failed, for want of memory before the file was touched
  abbrev pub HasExported : List ℕ → (Export → Type 0) → D → D → Result Unit Status → Type 0
  HasExported name exports old new (Ok u) = IsWritten exports (AllSaid old new) name old new
  HasExported name exports old new (Err SayFault) = IsWritten exports (PartSaid old new) name old new
  HasExported name exports old new (Err OutOfMemory) = IsUnwritten name old new
  HasExported name exports old new (Err status) = host.said new ≡ host.said old

  -- What a call does that exports these to the file of this name: no other file is changed, and a fault has its cause.
  pub record DoesExport (name : List ℕ) (exports : Export → Type 0) (old new : D) (result : Result Unit Status) : Type 0 where
    pub has : IsTrue host.is_told → HasExported name exports old new result
    pub others : LeavesOthers name old new
    pub counts : Counts host ⊥ old new result
    pub kind : IfErr result IsOfExporting

  -- at each moment and behind it the store opens as this
  pub record Stays (store : List ℕ) (c : Commit) (old new : D) : Type 0 where
    pub moments : LeavesOnly host old new (λ f s. OpensAs store c f)
    pub rest : IsAtRest host (OpensAs store) c new

-- THE COMMAND

-- The statuses in which the commands export and clean can end. Where these are the files, a status that comes of them is the one of
-- their refusal.
abbrev pub IsOfExport : Type 0 → List ℕ → Files → Status → Type 0
IsOfExport told store f (Script line) = ⊥
IsOfExport told store f ReadFault = ⊥
IsOfExport told store f status = IsOfSession told store f status

-- these files open as this commit, which opens as this
pub record OpensWhole (store : List ℕ) (f : Files) (c : Commit) (r : Replayed) : Type 0 where
  pub opens : OpensAs store c f
  pub reopens : Reopens installed c r

module _ {D : Type 0} (host : Ghosts D) (store image : List ℕ) where
  -- The file of the image's name has these bytes. Where there are none it is as before, unless it is one of the store's.
  abbrev pub HasImage : Option (List ℕ) → D → D → Type 0
  HasImage (Some bytes) old new = host.files new image ≡ Some bytes
  HasImage None old new = IsNoFileOf store image → host.files new image ≡ host.files old image

  -- the image of an export of these is in the file, and of its text this was said
  pub record IsExport (exports : Export → Type 0) (says : List ℕ → Type 0) (old new : D) : Type 0 where
    pub export : Export
    pub is : exports export
    pub in_file : HasImage export.image old new
    pub said : says export.text

  -- what is so of an export in each status that it can have behind the opening
  abbrev pub ExportHas : (Export → Type 0) → D → D → Status → Type 0
  ExportHas exports old new Done = IsExport exports (AllSaid host old new) old new
  ExportHas exports old new SayFault = IsExport exports (PartSaid host old new) old new
  ExportHas exports old new DiskFault = SaysLastLine host DiskFault old new
  ExportHas exports old new OutOfMemory = HasImage None old new × SaysLastLine host OutOfMemory old new
  ExportHas exports old new _ = ⊥

module _ {D : Type 0} (host : Ghosts D) (extent : Extent) (store image : List ℕ) where
  -- The store is opened as the commit that its files hold, and the state that this opens as is saved and exported. IMAGE is no file of
  -- the store in what is said of stops.
  pub record IsExported (old new : D) (status : Status) : Type 0 where
    pub commit : Commit
    pub replayed : Replayed
    pub opened : OpensWhole store (host.files old) commit replayed
    pub has : ExportHas host store image (ExportsState extent replayed.state) old new status
    -- at each moment a stop leaves what it could leave before, or files that open as this commit
    pub meanwhile : IsNoFileOf store image → LeavesOnly host old new (λ f s. ((n : List ℕ) → host.may_leave old n (f n)) ⊎ OpensAs store commit f)
    -- after the call they open so, whatever a stop could leave before
    pub rests : IsNoFileOf store image → IsAtRest host (OpensAs store) commit new
    -- and from the first good sync of the roots file on, if each root that could be chosen names what is firm
    pub settled : IsNoFileOf store image → IsReady host old store → OpensFrom host (OpensAs store) store commit old new

  -- How the command export ends, or for what can be reached the command clean.
  pub record ExportEnds (old new : D) (status : Status) : Type 0 where
    pub over : IsTrue host.is_told → IsRefused host store old new status ⊎ IsExported old new status
    -- where each state that a stop could leave before opens as one commit
    pub stays : IsTrue host.is_told → IsNoFileOf store image → (c : Commit) → IsAtRest host (OpensAs store) c old → Stays host store c old new
    -- without a fault of the host a store that opens is exported, or there was no memory
    pub complete : IsTrue host.is_told → (c : Commit) (r : Replayed) → OpensWhole store (host.files old) c r → IsCalm host ⊥ old new
        → (status ≡ Done) ⊎ (status ≡ OutOfMemory)
    pub kind : IsOfExport (IsTrue host.is_told) store (host.files old) status
    -- no file is touched but the store's and the image's
    pub spares : Spares host (λ n. IsNoFileOf store n × (n ≢ image)) old new

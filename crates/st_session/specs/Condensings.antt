-- How the command condense ends.
use Rattle.std.specs.Prelude.{◌≡◌, ◌⊎◌, ℕ, List, length, IsTrue, Result, Ok, Err}
use Rattle.st_host.specs.Files.{Files}
use Rattle.st_host.specs.Runs.{LeavesOnly, Spares, IsAtRest}
use Rattle.st_host.specs.Stops.{SaidPart}
use Rattle.st_host.specs.declared.host.Host.{Ghosts}
use Rattle.st_chunk.specs.Definitions.{Definition}
use Rattle.st_store.specs.Faults.{RestsUnlessGate}
use Rattle.st_store.specs.Names.{IsNoFileOf}
use Rattle.st_store.specs.Stored.{StoreState, IsKept, IsReady}
use Rattle.st_protocol.specs.declared.status.Status.{Status}
use Rattle.st_protocol.specs.declared.status.Status.TheVariants.{Done, SayFault, DiskFault, OutOfMemory}
use Rattle.st_recover.specs.Commits.{Commit, OpensAs, all_of, stored_of}
use Rattle.st_recover.specs.Condensed.{IsCondensed, OpensCondensed}
use Rattle.st_recover.specs.Images.{IsReadable}
use Rattle.st_recover.specs.Replays.{Replayed}
use Rattle.st_call.specs.LastLines.{last_line, SaysLastLine}
use Rattle.st_call.specs.Replies.{condensed_text}
use Rattle.st_session.specs.Ends.{IsCalm}
use Rattle.st_session.specs.Exports.{AllSaid, PartSaid, IsOfExport, OpensWhole}
use Rattle.st_session.specs.Resting.{GateFailed, OpensFrom}
use Rattle.st_session.specs.StoreSessions.{IsRefused}

module _ {D : Type 0} (host : Ghosts D) where
  -- the open store keeps this commit, whose definitions are listed
  pub record IsKeptAs (h : D) (store : StoreState) (listed : List Definition) (c : Commit) : Type 0 where
    pub listed_is : listed ≡ all_of c
    pub kept : IsKept host h store (stored_of store.root.slot c)
    pub readable : IsReadable c.image

  module _ (name : List ℕ) (c : Commit) where
    -- Each state that a stop may leave opens as the commit condensed, and this was said of how many definitions it had and has.
    pub record HasCondensed (says : List ℕ → Type 0) (new : D) : Type 0 where
      pub commit : Commit
      pub condenses : IsCondensed c commit
      pub said : says (condensed_text (length (all_of c)) (length (all_of commit)))
      pub rests : IsAtRest host (OpensAs name) commit new

    -- It was condensed, or that failed: the commit stays, but where the gate failed.
    abbrev pub ResultHas : D → D → Result Unit Status → Type 0
    ResultHas old new (Ok u) = HasCondensed (AllSaid host old new) new
    ResultHas old new (Err SayFault) = HasCondensed (PartSaid host old new) new
    ResultHas old new (Err OutOfMemory) = (host.said new ≡ host.said old) × IsAtRest host (OpensAs name) c new
    ResultHas old new (Err DiskFault) = (host.said new ≡ host.said old) × RestsUnlessGate host (OpensAs name) name c new
    ResultHas old new (Err status) = host.said new ≡ host.said old

    -- at each moment the files open as the commit condensed, or as it was, and then nothing was said yet
    pub record DoesCondense (old new : D) (result : Result Unit Status) : Type 0 where
      pub moments : LeavesOnly host old new (λ f s. OpensCondensed name c f ⊎ (OpensAs name c f × (s ≡ host.said old)))
      pub has : ResultHas old new result

    -- what is so in each status that the command can have behind the opening
    abbrev pub CondenseHas : D → D → Status → Type 0
    CondenseHas old new Done = HasCondensed (AllSaid host old new) new
    CondenseHas old new SayFault = HasCondensed (PartSaid host old new) new
    CondenseHas old new DiskFault = SaysLastLine host DiskFault old new × (IsAtRest host (OpensAs name) c new ⊎ GateFailed host (OpensAs name) name c new)
    CondenseHas old new OutOfMemory = SaysLastLine host OutOfMemory old new × IsAtRest host (OpensAs name) c new
    CondenseHas old new _ = ⊥

  module _ (name : List ℕ) where
    -- files open as the commit condensed, or as it was, and then nothing but the last line of a fault was said
    abbrev pub IsWhole : Commit → D → Status → Files → List ℕ → Type 0
    IsWhole c old status f s = OpensCondensed name c f ⊎ (OpensAs name c f × SaidPart (host.said old) (last_line status) s)

    -- the store is opened as the commit that its files hold, and that is condensed
    pub record IsCondensedOver (old new : D) (status : Status) : Type 0 where
      pub commit : Commit
      pub opens : OpensAs name commit (host.files old)
      pub has : CondenseHas name commit old new status
      -- at each moment of the opening a stop leaves what it could leave before, or files that open as the commit
      pub opened : D
      pub meanwhile : LeavesOnly host old opened (λ f s. (s ≡ host.said old) × (((n : List ℕ) → host.may_leave old n (f n)) ⊎ OpensAs name commit f))
      -- these from the first good sync of the roots file on, if each root that could be chosen names what is firm
      pub settled : IsReady host old name → OpensFrom host (OpensAs name) name commit old opened
      -- after the opening they open as the commit condensed, or as it was
      pub moments : LeavesOnly host opened new (IsWhole commit old status)

    -- How the command condense ends.
    pub record CondenseEnds (old new : D) (status : Status) : Type 0 where
      pub over : IsTrue host.is_told → IsRefused host name old new status ⊎ IsCondensedOver old new status
      -- where each state that a stop could leave before opens as one commit: at each moment the files open as that condensed, or as it was
      pub whole : IsTrue host.is_told → (c : Commit) → IsAtRest host (OpensAs name) c old → LeavesOnly host old new (IsWhole c old status)
      -- without a fault of the host a store that opens is condensed, or there was no memory
      pub complete : IsTrue host.is_told → (c : Commit) (r : Replayed) → OpensWhole name (host.files old) c r → IsCalm host ⊥ old new
          → (status ≡ Done) ⊎ (status ≡ OutOfMemory)
      pub kind : IsOfExport (IsTrue host.is_told) name (host.files old) status
      -- no other file is touched
      pub spares : Spares host (IsNoFileOf name) old new

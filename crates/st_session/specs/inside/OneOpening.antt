-- What the files of a name open as, as one answer, and what calls say of it.
use Rattle.std.specs.Prelude.{◌≡◌, ℕ, List, ⊤}
use Rattle.st_host.specs.Files.{Files}
use Rattle.st_host.specs.Runs.{LeavesOnly}
use Rattle.st_host.specs.declared.host.Host.{Ghosts}
use Rattle.st_protocol.specs.declared.status.Status.{Status}
use Rattle.st_install.specs.Defining.{installed}
use Rattle.st_recover.specs.Commits.{Commit, OpensAs}
use Rattle.st_recover.specs.Openings.{Reopens, RefusesOpening, IsOfReopening}
use Rattle.st_recover.specs.Replays.{Replayed}
use Rattle.st_recover.specs.declared.fault.OpenFault.{OpenFault}
use Rattle.st_recover.specs.declared.fault.OpenFault.TheVariants as opening
use Rattle.st_session.specs.Exports.{Stays}
use Rattle.st_session.specs.StoreSessions.{IsRefused, IsFollowed}

-- a commit, with the state, the count and the losses that it comes to; or why there is none
pub data Opening : Type 0 where
  Gives : Commit → Replayed → Opening
  Refused : OpenFault → Opening

-- the refusals that come of the files, and of nothing outside
abbrev pub IsOfFiles : OpenFault → Type 0
IsOfFiles (opening.Store fault) = IsOfReopening (opening.Store fault)
IsOfFiles (opening.Image fault) = ⊤
IsOfFiles opening.TooLarge = ⊤
IsOfFiles opening.Disk = ⊥
IsOfFiles opening.OutOfMemory = ⊥

-- the files of this name open as this
abbrev pub OpensWith : List ℕ → Files → Opening → Type 0
OpensWith name f (Gives c r) = OpensAs name c f × Reopens installed c r
OpensWith name f (Refused fault) = IsOfFiles fault × RefusesOpening name f fault

-- two answers of the same files are the same
abbrev pub OneAnswer : Type 0
OneAnswer = (name : List ℕ) (f : Files) (a b : Opening) → OpensWith name f a → OpensWith name f b → a ≡ b

-- what opens as a commit gives that, with what it comes to
abbrev pub OpensGives : Type 0
OpensGives = (name : List ℕ) (c : Commit) (f : Files) → OpensAs name c f → (r : Replayed) × OpensWith name f (Gives c r)

module _ {D : Type 0} (host : Ghosts D) where
  -- a store that isn't opened for what its files hold
  abbrev pub RefusedIs : Type 0
  RefusedIs = (name : List ℕ) (old new : D) (status : Status) (at : IsRefused host name old new status) → IsOfFiles at.fault
      → OpensWith name (host.files old) (Refused at.fault)

  -- one over which a session goes on
  abbrev pub FollowedIs : Type 0
  FollowedIs = (name script left : List ℕ) (old new : D) (status : Status) (at : IsFollowed host name script left old new status)
      → OpensWith name (host.files old) (Gives at.commit at.replayed)

  -- one that a call only reads, at each moment of it
  abbrev pub StaysIs : Type 0
  StaysIs = (name : List ℕ) (c : Commit) (old new : D) → Stays host name c old new
      → LeavesOnly host old new (λ f s. (r : Replayed) × OpensWith name f (Gives c r))

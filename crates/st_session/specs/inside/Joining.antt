-- How one call joins the next: what a call leaves, after any stop, meets what the next one asks for.
use Rattle.std.specs.Prelude.{◌≡◌, ◌⊎◌, ◌++◌, ℕ, List, Option, IsTrue}
use Rattle.st_host.specs.Files.{Files}
use Rattle.st_host.specs.Runs.{LeavesOnly, IsAtRest}
use Rattle.st_host.specs.declared.host.Host.{Ghosts}
use Rattle.st_store.specs.Founding.{IsNoStore}
use Rattle.st_store.specs.Names.{roots_file}
use Rattle.st_store.specs.Stored.{Leaves, IsReady}
use Rattle.st_protocol.specs.declared.status.Status.{Status}
use Rattle.st_protocol.specs.Acknowledged.{Promised}
use Rattle.st_install.specs.Defining.{installed}
use Rattle.st_recover.specs.Commits.{Commit, OpensAs}
use Rattle.st_recover.specs.Condensed.{IsCondensed}
use Rattle.st_recover.specs.Openings.{Reopens}
use Rattle.st_recover.specs.Replays.{Replayed}
use Rattle.st_session.specs.declared.making.Origin.{Origin}
use Rattle.st_session.specs.Condensings.{IsWhole}
use Rattle.st_session.specs.Exports.{Stays}
use Rattle.st_session.specs.Makings.{Contents, commit_of, made_text, IsMaking}
use Rattle.st_session.specs.Resting.{GateFailed}
use Rattle.st_session.specs.StoreSessions.{IsRefused, IsFollowed, KeepsPromise, commits_over}

-- A host begins with these files, as after a stop that left them: a stop now leaves just these.
abbrev pub BeginsWith : {D : Type 0} → Ghosts D → D → Files → Type 0
BeginsWith host h f = (n : List ℕ) (c : Option (List ℕ)) → host.may_leave h n c → c ≡ f n

-- What a session or an export asks for as it begins: each state that a stop could leave opens as this commit, and that can be begun
-- with.
pub record MayBegin {D : Type 0} (host : Ghosts D) (name : List ℕ) (c : Commit) (h : D) : Type 0 where
  pub rest : IsAtRest host (OpensAs name) c h
  pub replayed : Replayed
  pub reopens : Reopens installed c replayed

-- Where no stop came: behind a call that left the store at rest.
abbrev pub RestJoins : {D : Type 0} → Ghosts D → Type 0
RestJoins {D = D} host = (name : List ℕ) (c : Commit) (h : D) → IsTrue host.is_told → IsAtRest host (OpensAs name) c h → MayBegin host name c h

-- Each root that a stop may leave chosen names what is firm: then there is one answer from the first good sync of an opening on.
abbrev pub ReadyJoins : {D : Type 0} → Ghosts D → Type 0
ReadyJoins {D = D} host = (name : List ℕ) (c : Commit) (h : D) → IsTrue host.is_told → IsAtRest host (OpensAs name) c h → IsReady host h name

-- So it is after a commit whose gate failed,
abbrev pub FailedJoins : {D : Type 0} → Ghosts D → Type 0
FailedJoins {D = D} host = (name : List ℕ) (c : Commit) (h : D) → GateFailed host (OpensAs name) name c h → IsReady host h name

-- and after a making, however it ended, if no stop could leave a store of this name before.
abbrev pub MadeJoins : {D : Type 0} → Ghosts D → Origin → (Contents → Type 0) → (Status → Type 0) → Type 0
MadeJoins {D = D} host origin right wrong = (name : List ℕ) (old new : D) → IsTrue host.is_told → Leaves host old (roots_file name) IsNoStore
    → LeavesOnly host old new (IsMaking host origin right wrong name old) → IsReady host new name

module _ {D E : Type 0} (host : Ghosts D) (after : Ghosts E) where
  -- Behind a session that a stop ended, at any moment: with the commit whose number is that of those acknowledged by then, or with the
  -- next.
  abbrev pub SessionJoins : Type 0
  SessionJoins = (name : List ℕ) (commits : List Commit) (old new : D) (status : Status) → KeepsPromise host name commits old new status
      → (f : Files) (s : List ℕ) → host.left_since new (host.moment old) f s → (h : E) → BeginsWith after h f
      → (p : Promised (OpensAs name) commits (host.said old) f s) × MayBegin after name p.commit h

  -- The same where the store wasn't at rest as the session began, at any moment from the opening's end on.
  abbrev pub FollowedJoins : Type 0
  FollowedJoins = (name script left : List ℕ) (old new : D) (status : Status) → IsTrue host.is_told → (at : IsFollowed host name script left old new status)
      → (f : Files) (s : List ℕ) → host.left_since at.closed (host.moment at.opened) f s → (h : E) → BeginsWith after h f
      → (p : Promised (OpensAs name) (commits_over at.commit at.replayed script) (host.said at.opened) f s) × MayBegin after name p.commit h

  -- after an opening that was refused for want of memory or by a fault of the disk, of a store that was at rest, at any moment
  abbrev pub RefusedJoins : Type 0
  RefusedJoins = (name : List ℕ) (c : Commit) (old new : D) (status : Status) → IsTrue host.is_told → IsAtRest host (OpensAs name) c old → IsRefused host name old new status
      → (f : Files) (s : List ℕ) → host.left_since new (host.moment old) f s → (h : E) → BeginsWith after h f → MayBegin after name c h

  -- behind an export that a stop ended, at any moment
  abbrev pub ExportJoins : Type 0
  ExportJoins = (name : List ℕ) (c : Commit) (old new : D) → Stays host name c old new
      → (f : Files) (s : List ℕ) → host.left_since new (host.moment old) f s → (h : E) → BeginsWith after h f → MayBegin after name c h

  -- behind a condense that a stop ended, at any moment: with the commit condensed, or as it was
  abbrev pub CondenseJoins : Type 0
  CondenseJoins = (name : List ℕ) (c : Commit) (old new : D) (status : Status) → LeavesOnly host old new (IsWhole host name c old status)
      → (f : Files) (s : List ℕ) → host.left_since new (host.moment old) f s → (h : E) → BeginsWith after h f
      → (d : Commit) × (IsCondensed c d ⊎ (d ≡ c)) × MayBegin after name d h

  -- behind the making of a store of what is right, once it was said that it is made
  abbrev pub MakingJoins : Origin → (Contents → Type 0) → (Status → Type 0) → Type 0
  MakingJoins origin right wrong = (name : List ℕ) (c : Contents) (old new : D)
      → LeavesOnly host old new (IsMaking host origin right wrong name old) → right c
      → (f : Files) (s : List ℕ) → host.left_since new (host.moment old) f s → s ≡ host.said old ++ made_text origin c
      → (h : E) → BeginsWith after h f → MayBegin after name (commit_of c) h

  -- At any moment of a making that a stop ended: nothing was changed, or there is no store, or there is the new one.
  abbrev pub BegunJoins : Origin → (Contents → Type 0) → (Status → Type 0) → Type 0
  BegunJoins origin right wrong = (name : List ℕ) (old new : D) → LeavesOnly host old new (IsMaking host origin right wrong name old)
      → (f : Files) (s : List ℕ) → host.left_since new (host.moment old) f s → (h : E) → BeginsWith after h f
      → ((n : List ℕ) → host.may_leave old n (f n)) ⊎ (IsNoStore (f (roots_file name)) ⊎ ((c : Contents) × right c × MayBegin after name (commit_of c) h))

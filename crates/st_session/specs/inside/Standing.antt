-- That a machine stands at a point.
use Rattle.std.specs.Prelude.{◌≡◌, Option, Some, None, IsSome, Result, IfErr, IsErrOf, OnOk, ℕ, List}
use Rattle.st_host.specs.declared.host.Host.{Ghosts}
use Rattle.st_model.specs.declared.dead.Dead.{Dead}
use Rattle.st_model.specs.Machine.{State}
use Rattle.st_model.specs.Table.{Table}
use Rattle.st_model.specs.Show.{Shows}
use Rattle.st_model.specs.View.{View}
use Rattle.st_frames.specs.inside.Shown.{IsReady, shown}
use Rattle.st_machine.specs.declared.machine.Machine.{Machine}
use Rattle.st_chunk.specs.Scripts.{Asked}
use Rattle.st_store.specs.Names.{IsNoFileOf}
use Rattle.st_protocol.specs.declared.status.Status.{Status}
use Rattle.st_protocol.specs.Courses.{Course}
use Rattle.st_protocol.specs.declared.status.Status.TheVariants.{OutOfMemory}
use Rattle.st_protocol.specs.inside.Obeying.{Obeys}
use Rattle.st_protocol.specs.Statuses.{Counts}
use Rattle.st_call.specs.inside.Telling.{IsOfServing}
use Rattle.st_recover.specs.inside.Archives.{ArchiveState, Holds}
use Rattle.st_recover.specs.Commits.{Commit, OpensAs}
use Rattle.st_session.specs.declared.kept.SessionState.{SessionState}
use Rattle.st_session.specs.Ends.{DidTold, DidSome}
use Rattle.st_session.specs.Points.{Being, Alive, Gone, Point}

-- a machine with this death, which shows this table, is this
abbrev pub IsBeing : Option Dead → State Table → Being → Type 0
IsBeing death c (Alive s) = (death ≡ None) × Shows c s
IsBeing death c (Gone cause) = death ≡ Some cause

module _ {M : Type 0} (view : M → View) where
  -- what it shows
  abbrev pub shown_by : Machine M → State Table
  shown_by m = shown (view m.memory) m.frame m.world

  -- it is dead, or ready to run
  abbrev pub MayRun : Machine M → Type 0
  MayRun m = m.death ≡ None → IsReady (view m.memory) m.frame m.world

  abbrev pub StandsAt : {C : Type 0} → Machine M → Point C → Type 0
  StandsAt m p = IsBeing m.death (shown_by m) p.being

  -- a session can go on: its machine is dead or ready, and its archive is open
  pub record MayGoOn (s : SessionState M) : Type 0 where
    pub may_run : MayRun s.machine
    pub is_open : IsSome s.archive.store

  module _ {D : Type 0} (host : Ghosts D) where
    -- The machine stands at this point, and the archive holds its commit.
    pub record IsAt (m : Machine M) (a : ArchiveState) (h : D) (p : Point Commit) : Type 0 where
      pub stands : StandsAt m p
      pub holds : Holds host h a p.kept

    -- From wherever the machine and the archive stand, the call does what the course from there says, and they stand where it
    -- leads. No file but the store's is touched.
    abbrev pub Follows : (Point Commit → Course Commit (Point Commit)) → SessionState M → D → Result Unit Status → SessionState M → D → Type 0
    Follows course s old result t new = (p : Point Commit) → IsAt s.machine s.archive old p
        → Obeys host (OpensAs s.archive.name) (IsNoFileOf s.archive.name) (IsAt t.machine t.archive new) (λ q. q.kept) p.kept (course p) result old new

    -- What a call does that answers what is asked for: it follows the course, and where it goes on the session can go on. Where there
    -- was no memory this stands; a call that takes none never says so.
    pub record Serves (course : Point Commit → Course Commit (Point Commit)) (stands : Type 0) (s : SessionState M) (old : D) (result : Result Unit Status) (t : SessionState M) (new : D) : Type 0 where
      pub go_on : OnOk result (MayGoOn t)
      pub named : t.archive.name ≡ s.archive.name
      pub follows : Follows course s old result t new
      -- no count of a fault fell, and a fault has its cause
      pub counts : Counts host ⊥ old new result
      -- it ends by a status that a session may end by
      pub served : IfErr result IsOfServing
      pub starved : IsErrOf result OutOfMemory → stands

    -- From wherever they stand, the deeds were done that the bytes of the script before those that are left tell.
    abbrev pub FollowsTold : (Point Commit → List ℕ → Course Commit (Point Commit)) → List ℕ → List ℕ → SessionState M → D → D → Type 0
    FollowsTold course script left s old new = (p : Point Commit) → IsAt s.machine s.archive old p
        → DidTold host (OpensAs s.archive.name) (IsNoFileOf s.archive.name) p.kept (course p) script left old new

    -- From wherever they stand, some first ones of these requests were answered, and nothing else was done.
    abbrev pub FollowsSome : (Point Commit → List Asked → Course Commit (Point Commit)) → List Asked → SessionState M → D → D → Type 0
    FollowsSome course asked s old new = (p : Point Commit) → IsAt s.machine s.archive old p
        → DidSome host (OpensAs s.archive.name) (IsNoFileOf s.archive.name) p.kept (course p) asked old new

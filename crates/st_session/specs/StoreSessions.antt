-- How a session over a store ends.
use Rattle.std.specs.Prelude.{◌≡◌, ◌≢◌, ◌⊎◌, ℕ, List, ◌∷◌, IsTrue, ⊤}
use Rattle.st_host.specs.Files.{Files}
use Rattle.st_host.specs.Runs.{LeavesOnly, ReadsAndSays, NarrowsBut, Spares, IsSynced, IsAtRest}
use Rattle.st_host.specs.Stops.{SaidPart}
use Rattle.st_host.specs.declared.host.Host.{Ghosts}
use Rattle.st_store.specs.Faults.{Settles}
use Rattle.st_store.specs.Names.{roots_file, IsNoFileOf}
use Rattle.st_store.specs.Stored.{Stored, Opens, IsOpening, IsReady}
use Rattle.st_store.specs.declared.fault.StoreFault.TheVariants as store
use Rattle.st_protocol.specs.declared.status.Status.{Status}
use Rattle.st_protocol.specs.declared.status.Status.TheVariants.{Done, Usage, Image, DiskFault, Store, Kernel, OutOfMemory}
use Rattle.st_protocol.specs.Acknowledged.{Promised}
use Rattle.st_protocol.specs.Courses.{Course, deeds_of, commits_of, IsEnd}
use Rattle.st_protocol.specs.Done.{RestsAsOne}
use Rattle.st_install.specs.Defining.{installed}
use Rattle.st_recover.specs.Commits.{Commit, OpensAs}
use Rattle.st_recover.specs.Openings.{Reopens, RefusesOpening, IsOfRoots, IsOfNamed}
use Rattle.st_recover.specs.Replays.{Replayed}
use Rattle.st_recover.specs.declared.fault.OpenFault.{OpenFault}
use Rattle.st_recover.specs.declared.fault.OpenFault.TheVariants as opening
use Rattle.st_call.specs.LastLines.{last_line, SaysLastLine}
use Rattle.st_session.specs.Commands.{opening_status}
use Rattle.st_session.specs.Ends.{IsCalm, NoCountFell, SessionEnds}
use Rattle.st_session.specs.Opening.{session_over, session_so_far_over, session_of_over}
use Rattle.st_session.specs.Points.{Point}
use Rattle.st_session.specs.Resting.{OpensFrom, RestsBroken, RestsAcknowledged}
use Rattle.st_session.specs.Sessions.{asked_in}

-- the course of a session over what a commit opens as
abbrev pub course_over : Commit → Replayed → List ℕ → Course Commit (Point Commit)
course_over c r script = session_over r.count r.lost r.state c script

-- the commit that is opened, and those of the session
abbrev pub commits_over : Commit → Replayed → List ℕ → List Commit
commits_over c r script = c ∷ commits_of (deeds_of (course_over c r script))

-- These files open as a commit, and the session over it follows the script to its end.
pub record IsWholeSession (name : List ℕ) (f : Files) (script : List ℕ) : Type 0 where
  pub commit : Commit
  pub opens : OpensAs name commit f
  pub replayed : Replayed
  pub reopens : Reopens installed commit replayed
  pub ends : IsEnd (course_over commit replayed script) Done

-- The statuses in which the command session can end, whatever the source tells. Where these are the files, a status that comes of
-- them is the one of their refusal.
abbrev pub IsOfSession : Type 0 → List ℕ → Files → Status → Type 0
IsOfSession told name f Usage = ⊥
IsOfSession told name f (Image fault) = told → RefusesOpening name f (opening.Image fault)
IsOfSession told name f (Store store.Missing) = told → RefusesOpening name f (opening.Store store.Missing)
IsOfSession told name f (Store (store.NotAStore place)) = told → RefusesOpening name f (opening.Store (store.NotAStore place))
IsOfSession told name f (Store _) = ⊥
IsOfSession told name f (Kernel chunk cause) = ⊥
IsOfSession told name f _ = ⊤

module _ {D : Type 0} (host : Ghosts D) (name : List ℕ) where
  -- The store isn't opened, and nothing but the last line is said. A stop at any moment leaves what it could leave before, or
  -- files that open as those that were read, and of every other file what it could leave. No other file is touched.
  pub record IsRefused (old new : D) (status : Status) : Type 0 where
    pub fault : OpenFault
    pub is : status ≡ opening_status fault
    pub why : RefusesOpening name (host.files old) fault
    pub line : SaysLastLine host status old new
    pub moments : LeavesOnly host old new (λ f s. SaidPart (host.said old) (last_line status) s × IsOpening host old name f)
    pub elsewhere : LeavesOnly host old new (λ f s. (n : List ℕ) → n ≢ roots_file name → host.may_leave old n (f n))
    -- where the image or the changes are refused, each state that a stop may leave behind it opens as what was read
    pub rests : IsOfNamed fault → (c : Stored) → Opens name c (host.files old) → IsAtRest host (Opens name) c new
    -- a roots file that is refused, or whose root is, was synced
    pub synced : IsOfRoots fault → IsSynced host (roots_file name) new
    -- If each root that could be chosen names what is firm: a stop leaves of the roots file no more than it could leave, and of every other
    -- file just what it could; or from a sync of the roots file on there is one answer, a commit or no store. After the opening nothing is
    -- done but that the last line is said.
    pub opened : D
    pub settles : IsReady host old name → Settles host name old opened
    pub behind : ReadsAndSays host (last_line status) opened new
    pub spares : Spares host (IsNoFileOf name) old new

  -- The store is opened as the commit that its files hold, and a session over this goes on, from where nothing was said yet. The
  -- last line is said behind it.
  pub record IsFollowed (script left : List ℕ) (old new : D) (status : Status) : Type 0 where
    pub commit : Commit
    pub opens : OpensAs name commit (host.files old)
    pub replayed : Replayed
    pub reopens : Reopens installed commit replayed
    -- Opening says nothing, and changes no file but the roots file. A stop meanwhile leaves what it could leave before, or files
    -- that open as those that were read.
    pub opened : D
    pub opening : NarrowsBut host (roots_file name) old opened
    pub meanwhile : LeavesOnly host old opened (λ f s. (s ≡ host.said old) × IsOpening host old name f)
    -- If each root that could be chosen names what is firm, the files open as the commit from the first good sync of the roots file on.
    pub settled : IsReady host old name → OpensFrom host (OpensAs name) name commit old opened
    pub closed : D
    pub counts : NoCountFell host opened closed
    pub ends : SessionEnds host (OpensAs name) (IsNoFileOf name) commit name (course_over commit replayed script)
        (session_so_far_over replayed.count replayed.lost replayed.state commit) (session_of_over replayed.count replayed.lost replayed.state commit)
        (asked_in script) script left opened closed status
    -- behind the session nothing else is done
    pub line : SaysLastLine host status closed new
    pub behind : ReadsAndSays host (last_line status) closed new

  -- At each moment the files open as the commit whose number is that of the commits acknowledged by then, or as the next. Behind
  -- it each state that a stop may leave opens as one of them, or, only where a fault of the disk came as the gate was written or synced,
  -- as one of two that follow each other. Where there was no memory it opens as the one whose number is that of the commits acknowledged: nothing else is kept.
  pub record KeepsPromise (commits : List Commit) (old new : D) (status : Status) : Type 0 where
    pub moments : LeavesOnly host old new (Promised (OpensAs name) commits (host.said old))
    pub rests : (status ≡ DiskFault → ⊥) → RestsAsOne host (OpensAs name) commits new
    pub broken : status ≡ DiskFault → RestsBroken host (OpensAs name) name commits new
    pub starved : status ≡ OutOfMemory → RestsAcknowledged host (OpensAs name) commits (host.said old) new

  -- How the command session ends, over the bytes of the script, of which the source still has `left`. `read` says that it tells
  -- these, and `reads` that it had a fault.
  pub record SessionCommandEnds (read reads : Type 0) (script left : List ℕ) (old new : D) (status : Status) : Type 0 where
    pub over : IsTrue host.is_told → read → IsRefused old new status ⊎ IsFollowed script left old new status
    -- where each state that a stop could leave before opens as one commit
    pub promise : IsTrue host.is_told → read → (c : Commit) → IsAtRest host (OpensAs name) c old
        → (r : Replayed) → Reopens installed c r → KeepsPromise (commits_over c r script) old new status
    -- without a fault of host and source a session that follows its script to the end is done, or there was no memory
    pub complete : IsTrue host.is_told → read → IsWholeSession name (host.files old) script → IsCalm host reads old new
        → (status ≡ Done) ⊎ (status ≡ OutOfMemory)
    pub kind : IsOfSession (IsTrue host.is_told) name (host.files old) status
    -- no other file is touched
    pub spares : read → Spares host (IsNoFileOf name) old new

-- How a session ends.
use Rattle.std.specs.Prelude.{◌≡◌, ◌⊎◌, ℕ, ◌≤◌, List, ◌∷◌, ◌++◌, IsTrue, Result, Ok, Err}
use Rattle.st_host.specs.Counts.{Rose}
use Rattle.st_host.specs.Files.{Files}
use Rattle.st_host.specs.Runs.{LeavesOnly, SaysAll, Spares}
use Rattle.st_host.specs.Stops.{SaidPart}
use Rattle.st_host.specs.declared.host.Host.{Ghosts}
use Rattle.st_protocol.specs.declared.status.Status.{Status}
use Rattle.st_protocol.specs.declared.status.Status.TheVariants.{Done, ReadFault, SayFault, DiskFault, OutOfMemory}
use Rattle.st_protocol.specs.Courses.{Course, deeds_of, said_of, commits_of, IsEnd}
use Rattle.st_protocol.specs.Acknowledged.{SaysLines, Promised}
use Rattle.st_protocol.specs.Done.{Did, RestsAsOne}
use Rattle.st_protocol.specs.Statuses.{IsFault}
use Rattle.st_chunk.specs.Scripts.{Asked}
use Rattle.st_session.specs.Resting.{RestsBroken, RestsAcknowledged}

-- the status that an answer stands for
abbrev pub status_in : Result Unit Status → Status
status_in (Ok u) = Done
status_in (Err status) = status

module _ {D : Type 0} (host : Ghosts D) where
  -- no count of a fault fell
  pub record NoCountFell (old new : D) : Type 0 where
    pub disk : host.disk_faults old ≤ host.disk_faults new
    pub say : host.say_faults old ≤ host.say_faults new

  -- no count of a fault rose
  pub record IsCalm (reads : Type 0) (old new : D) : Type 0 where
    pub disk : Rose (host.disk_faults old) (host.disk_faults new) → ⊥
    pub say : Rose (host.say_faults old) (host.say_faults new) → ⊥
    pub source : reads → ⊥

  module _ {C : Type 0} (opens : C → Files → Type 0) (spared : List ℕ → Type 0) (c : C) where
    -- the deeds were done that those bytes of a script tell which stand before the bytes that are left
    pub record DidTold {X : Type 0} (course : List ℕ → Course C X) (script left : List ℕ) (old new : D) : Type 0 where
      pub told : List ℕ
      pub all : script ≡ told ++ left
      pub did : Did host opens spared c (deeds_of (course told)) old new

    -- some first ones of these requests were answered, whole, and nothing else was done
    pub record DidSome {X : Type 0} (course : List Asked → Course C X) (asked : List Asked) (old new : D) : Type 0 where
      pub first : List Asked
      pub rest : List Asked
      pub all : asked ≡ first ++ rest
      pub did : Did host opens spared c (deeds_of (course first)) old new

    -- A session of this course, over the store of this name, which opens as commit c; `so_far` is its course after the first bytes of
    -- the script, and `answers` that of some requests, of which the script asks these; `left` are the bytes that the source still has.
    pub record SessionEnds {X Y Z : Type 0} (name : List ℕ) (course : Course C X) (so_far : List ℕ → Course C Y) (answers : List Asked → Course C Z)
        (asked : List Asked) (script left : List ℕ) (old new : D) (status : Status) : Type 0 where
      -- where no fault comes, the status is the session's, and all of its replies were said
      pub whole : (IsFault status → ⊥) → IsEnd course status × SaysAll host (said_of (deeds_of course)) old new
      -- whatever the status, no more was said than some first bytes of its replies
      pub part : IsTrue host.is_told → SaidPart (host.said old) (said_of (deeds_of course)) (host.said new)
      -- after a fault of the source these are the replies to all lines and methods whose end was told
      pub told : status ≡ ReadFault → DidTold so_far script left old new
      -- what was said ends with a whole line, unless the fault was one in saying
      pub lines : (status ≡ SayFault → ⊥) → IsTrue host.is_told → SaysLines (host.said old) (host.said new)
      -- each state that a stop may leave behind it opens as one of the commits, unless a fault of the disk came
      pub rests : (status ≡ DiskFault → ⊥) → IsTrue host.is_told → RestsAsOne host opens (c ∷ commits_of (deeds_of course)) new
      -- where there was no memory, as the one whose number is that of those acknowledged
      pub starved : status ≡ OutOfMemory → IsTrue host.is_told → RestsAcknowledged host opens (c ∷ commits_of (deeds_of course)) (host.said old) new
      -- and some first requests were answered, whole, and nothing else was done, or nothing at all
      pub answered : status ≡ OutOfMemory → IsTrue host.is_told → (new ≡ old) ⊎ DidSome answers asked old new
      -- after a fault of the disk as one of them, or, only where the gate failed, as one of two that follow each other
      pub broken : status ≡ DiskFault → IsTrue host.is_told → RestsBroken host opens name (c ∷ commits_of (deeds_of course)) new
      -- at each moment the files open as the commit whose number is that of the commits acknowledged by then, or as the next
      pub moments : IsTrue host.is_told → LeavesOnly host old new (Promised opens (c ∷ commits_of (deeds_of course)) (host.said old))
      -- no other file was touched
      pub spares : Spares host spared old new

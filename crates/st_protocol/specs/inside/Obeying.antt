-- That a call does what a course says.
use Rattle.std.specs.Prelude.{◌≡◌, ◌⊎◌, ℕ, List, Result, Ok, Err}
use Rattle.st_host.specs.Files.{Files}
use Rattle.st_host.specs.declared.host.Host.{Ghosts}
use Rattle.st_protocol.specs.declared.status.Status.{Status}
use Rattle.st_protocol.specs.Courses.{Course, Goes, Ends, last_of}
use Rattle.st_protocol.specs.Done.{Did, Began}
use Rattle.st_protocol.specs.Statuses.{IsFault}

module _ {D : Type 0} (host : Ghosts D) {C X : Type 0} (opens : C → Files → Type 0) (spared : List ℕ → Type 0) (at : X → Type 0) (commit : X → C) where
  -- Where the call answers Ok, the course goes on, `at` holds of where it leads, and the commit there is the last that was made.
  -- Where it answers a status, that is the course's, or a fault came on the way.
  abbrev pub Obeys : C → Course C X → Result Unit Status → D → D → Type 0
  Obeys c (Goes ds x) (Ok u) old new = at x × (commit x ≡ last_of c ds) × Did host opens spared c ds old new
  Obeys c (Goes ds x) (Err status) old new = IsFault status × Began host opens spared c ds status old new
  Obeys c (Ends ds end) (Ok u) old new = ⊥
  Obeys c (Ends ds end) (Err status) old new = (IsFault status × Began host opens spared c ds status old new) ⊎ ((status ≡ end) × Did host opens spared c ds old new)

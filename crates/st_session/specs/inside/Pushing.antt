-- That a call adds what a course says to what is still to be said.
use Rattle.std.specs.Prelude.{ℕ, List, Result, OnOk}
use Rattle.st_host.specs.declared.host.Host.{Ghosts}
use Rattle.st_call.specs.inside.Saying.{Pushes}
use Rattle.st_protocol.specs.Courses.{Course, Goes, Ends, deeds_of, said_of}

-- the course leads somewhere, of which this holds
abbrev pub LeadsTo : {C X : Type 0} → (X → Type 0) → Course C X → Type 0
LeadsTo at (Goes ds x) = at x
LeadsTo at (Ends ds status) = ⊥

pub record PushesCourse {D E C X : Type 0} (host : Ghosts D) (at : X → Type 0) (course : Course C X) (old new : D) (before after : List ℕ) (result : Result Unit E) : Type 0 where
  pub pushes : Pushes host (said_of (deeds_of course)) old new before after result
  pub leads : OnOk result (LeadsTo at course)

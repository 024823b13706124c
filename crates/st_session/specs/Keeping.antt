-- How a session keeps what it does.
use Rattle.std.specs.Prelude.{ℕ, List, [], ◌∷◌, length, Option, None}
use Rattle.st_model.specs.Machine.{State, Transition, Died, Went}
use Rattle.st_model.specs.Births.{Births, births}
use Rattle.st_model.specs.Saving.{save}
use Rattle.st_model.specs.Show.{show}
use Rattle.st_model.specs.Text.{dead_text}
use Rattle.st_model.specs.View.{View}
use Rattle.st_chunk.specs.Asks.{Side}
use Rattle.st_chunk.specs.Definitions.{Definition}
use Rattle.st_protocol.specs.Courses.{Course, Reply, Keep, Goes, and_then, replies}
use Rattle.st_recover.specs.Commits.{Commit, all_of, imaged, image_with, accepting}
use Rattle.st_session.specs.Points.{Point, alive, gone}
use Rattle.st_session.specs.Sources.{shown_text}
use Rattle.st_call.specs.Replies.{snapshot_text}

pub record Keeping (C : Type 0) : Type 0 where
  -- the text that is shown of a class's method, where this is the memory
  pub source : View → C → Side → List ℕ → Option (List ℕ)
  -- a definition that isn't refused is kept
  pub accepts : C → Definition → Course C C
  -- a bytecode asked for a snapshot, with which so many cycles of the line are finished
  pub snapshot : ℕ → State Births → C → Course C (Point C)

-- Where an image alone is run nothing is kept, and a snapshot is passed over.
abbrev pub keeps_nothing : Keeping (Unit {0})
keeps_nothing = record {
  source = λ v c side selector. None;
  accepts = λ c d. Goes [] c;
  snapshot = λ n s c. Goes [] (alive s c);
}

-- the image of a state
abbrev pub image_of : State Births → List ℕ
image_of s = image_with (show s).memory (show s).head

-- an image is kept before it is acknowledged
abbrev pub imaging : Commit → List ℕ → Course Commit Commit
imaging c image = Goes (Keep (imaged c image) ∷ Reply (snapshot_text (length image)) ∷ []) (imaged c image)

-- A snapshot of what saving comes to, where so many cycles of the line are finished. A save that dies keeps nothing.
abbrev pub saved : ℕ → Transition (State Births) Unit → Commit → Course Commit (Point Commit)
saved n (Died cause) c = replies (dead_text n cause) (gone cause c)
saved n (Went u s) c = and_then (imaging c (image_of s)) (λ d. Goes [] (alive s d))

-- In a store definitions and snapshots are kept, and their texts are shown; of another method one that is made of its code.
abbrev pub in_a_store : Keeping Commit
in_a_store = record {
  source = λ v c. shown_text v (all_of c);
  accepts = accepting;
  snapshot = λ n s c. saved n (save births s) c;
}

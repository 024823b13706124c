-- A session over a store that was opened.
use Rattle.std.specs.Prelude.{ℕ, List}
use Rattle.st_model.specs.Machine.{State}
use Rattle.st_model.specs.Births.{Births}
use Rattle.st_protocol.specs.Courses.{Course}
use Rattle.st_install.specs.Defining.{installed}
use Rattle.st_recover.specs.Commits.{Commit}
use Rattle.st_recover.specs.Replays.{Loss}
use Rattle.st_session.specs.Keeping.{in_a_store}
use Rattle.st_session.specs.Points.{Point, alive}
use Rattle.st_chunk.specs.Scripts.{Asked}
use Rattle.st_session.specs.Sessions.{session, session_so_far, session_of}

-- the session over a script from there, where so many definitions were replayed and these were lost
abbrev pub session_over : ℕ → List Loss → State Births → Commit → List ℕ → Course Commit (Point Commit)
session_over replayed lost s c script = session in_a_store installed replayed lost (alive s c) script

-- after the first bytes of a script
abbrev pub session_so_far_over : ℕ → List Loss → State Births → Commit → List ℕ → Course Commit (Point Commit)
session_so_far_over replayed lost s c front = session_so_far in_a_store installed replayed lost (alive s c) front

-- these requests
abbrev pub session_of_over : ℕ → List Loss → State Births → Commit → List Asked → Course Commit (Point Commit)
session_of_over replayed lost s c asked = session_of in_a_store installed replayed lost (alive s c) asked

-- A file that is written from one place on.
use Rattle.std.specs.Prelude.{ℕ, ◌≤◌, List, length, IsTrue}
use Rattle.st_host.specs.Files.{bytes_of}
use Rattle.st_host.specs.Runs.{WritesAbove}
use Rattle.st_host.specs.declared.host.Host.{Ghosts}

-- A run of calls that changes one file: at each of its moments any first bytes that the file read as, up to this place, are
-- as they were, also of a state that a stop may leave and that has no more. Every other file is as before, and nothing
-- is said.
pub record WritesBehind {D : Type 0} (host : Ghosts D) (name : List ℕ) (at : ℕ) (old new : D) : Type 0 where
  pub above : (floor : ℕ) → floor ≤ at → (IsTrue host.is_told → floor ≤ length (bytes_of (host.files old name)))
      → WritesAbove host floor name old new

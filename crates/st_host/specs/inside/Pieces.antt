-- A file that is written from one place on, the last bytes of which are still held back.
use Rattle.std.specs.Prelude.{◌≡◌, ℕ, ◌+◌, ◌≤◌, List, ◌++◌, length, take, Option, Result, IsTrue, OnOk}
use Rattle.st_host.specs.Counts.{HasCause}
use Rattle.st_host.specs.Files.{bytes_of}
use Rattle.st_host.specs.Runs.{WritesAbove}
use Rattle.st_host.specs.declared.host.Host.{Ghosts}

-- bytes that are still to be written to a file, and the place in it at which they begin
pub record Held : Type 0 where
  pub at : ℕ
  pub bytes : List ℕ

-- the place in the file at which they end
abbrev pub end_of : Held → ℕ
end_of p = p.at + length p.bytes

-- The file up to the place at which the bytes begin, and then they, are this text.
pub record Holds (file : Option (List ℕ)) (p : Held) (text : List ℕ) : Type 0 where
  pub there : p.at ≤ length (bytes_of file)
  pub is : take p.at (bytes_of file) ++ p.bytes ≡ text

-- The text has grown by these bytes, and the place at which those that are held back begin is no earlier.
pub record Adds {D : Type 0} (host : Ghosts D) (name bytes : List ℕ) (old new : D) (p q : Held) : Type 0 where
  pub on : p.at ≤ q.at
  pub end : end_of q ≡ end_of p + length bytes
  pub text : IsTrue host.is_told → (t : List ℕ) → Holds (host.files old name) p t → Holds (host.files new name) q (t ++ bytes)

-- A run of calls that changes a file which reaches up to the place of what is held back: at each of its moments the
-- bytes before that place, or the first of them, are as they were. Every other file is as before, and nothing is said.
pub record WritesFrom {D : Type 0} (host : Ghosts D) (p : Held) (name : List ℕ) (old new : D) : Type 0 where
  pub above : (floor : ℕ) → floor ≤ p.at → (IsTrue host.is_told → p.at ≤ length (bytes_of (host.files old name)))
      → WritesAbove host floor name old new

-- A run of calls that adds bytes to a file, or fails.
pub record Pushes {D E : Type 0} (host : Ghosts D) (name bytes : List ℕ) (old new : D) (p q : Held) (result : Result Unit E) : Type 0 where
  pub adds : OnOk result (Adds host name bytes old new p q)
  pub writes : WritesFrom host p name old new
  pub cause : HasCause (host.disk_faults old) (host.disk_faults new) result

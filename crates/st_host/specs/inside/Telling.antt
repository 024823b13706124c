-- What a call does that says a text.
use Rattle.std.specs.Prelude.{◌≡◌, ℕ, List}
use Rattle.st_host.specs.Runs.{ReadsAlike, ReadsAndSays}
use Rattle.st_host.specs.declared.host.Host.{Ghosts}

-- The text, or no more than some first bytes of it, was said. No file changes, and no fault of the disk is counted.
pub record Says {D : Type 0} (host : Ghosts D) (text : List ℕ) (old new : D) : Type 0 where
  pub part : ReadsAndSays host text old new
  pub alike : ReadsAlike host old new
  pub disk_count : host.disk_faults new ≡ host.disk_faults old

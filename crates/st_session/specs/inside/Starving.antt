-- A call that says a text, or starves.
use Rattle.std.specs.Prelude.{◌≡◌, ◌⊎◌, ℕ, List, Result, Err}
use Rattle.st_call.specs.inside.Telling.{Tells}
use Rattle.st_host.specs.declared.host.Host.{Ghosts}
use Rattle.st_protocol.specs.declared.status.Status.{Status}
use Rattle.st_protocol.specs.declared.status.Status.TheVariants.{OutOfMemory}

-- a call that says a text and takes memory: without this it says nothing
abbrev pub TellsOrStarves : {D : Type 0} → Ghosts D → List ℕ → (old new : D) → Result Unit Status → Type 0
TellsOrStarves host text old new result = Tells host text old new result ⊎ ((result ≡ Err OutOfMemory) × (new ≡ old))

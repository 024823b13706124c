-- What a call does that answers what is asked of an image.
use Rattle.std.specs.Prelude.{◌≡◌, ℕ, List, [], Option, Bool, Result, IfOk, OnOk, is_some, unwrap_or}
use Rattle.st_host.specs.Runs.{SaysAll}
use Rattle.st_host.specs.inside.Telling.{Says}
use Rattle.st_host.specs.declared.host.Host.{Ghosts}

-- A call that says what is answered, and whether it is there: where it is missing, nothing is said.
pub record Answers {D E : Type 0} (host : Ghosts D) (answer : Option (List ℕ)) (old new : D) (result : Result Bool E) : Type 0 where
  pub there : IfOk result (λ b. b ≡ is_some answer)
  pub all : OnOk result (SaysAll host (unwrap_or answer []) old new)
  pub says : Says host (unwrap_or answer []) old new

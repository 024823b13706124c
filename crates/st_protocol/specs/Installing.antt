-- What comes of installing a definition.
use Rattle.std.specs.Prelude.{ℕ, List}
use Rattle.st_model.specs.Machine.{State}
use Rattle.st_model.specs.Births.{Births}
use Rattle.st_chunk.specs.Definitions.{Definition}
use Rattle.st_protocol.specs.declared.refusal.Refusal.{Refusal}

-- it is refused, and nothing has changed; or its method's selector, and the state with the method
pub data Installed : Type 0 where
  Refused : Refusal → Installed
  Accepted : List ℕ → State Births → Installed

-- what installs definitions
abbrev pub Install : Type 0
Install = Definition → State Births → Installed

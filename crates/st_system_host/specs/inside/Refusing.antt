-- What the guard of stores has refused once stays refused.
use Rattle.std.specs.Prelude.{◌≡◌, Option, IsSome, Result, IsErr}
use Rattle.st_system_host.specs.declared.guard.Refusal.{Refusal}

-- After a refusal the call fails, and the refusal stands.
pub record StaysRefused {T E : Type 0} (before now : Option Refusal) (result : Result T E) : Type 0 where
  pub fails : IsSome before → IsErr result
  pub same : IsSome before → now ≡ before

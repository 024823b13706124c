-- Texts that are said, or not.
use Rattle.std.proofs.Common.{◌≡◌, List, ℕ, refl, arith}
use Rattle.std.specs.Prelude.{Ok, Err}
use Rattle.st_host.specs.declared.host.Host.{Ghosts}
use Rattle.st_host.specs.declared.host.SayFault.{SayFault}
use Rattle.st_host.specs.Counts.{HasCause}
use Rattle.st_host.specs.Runs.{SaysAll}
use Rattle.st_host.specs.inside.Telling.{Says}
use Rattle.st_protocol.specs.declared.status.Status.TheVariants as status
use Rattle.st_call.specs.inside.Telling.{Tells}

module _ {D : Type 0} (host : Ghosts D) where
  -- all of it was said
  pub tells_all : (text : List ℕ) (old new : D) → SaysAll host text old new → Says host text old new → Tells host text old new (Ok tt)
  tells_all text old new all says = record {
    all = all;
    says = says;
    fault = tt;
    counts = record { disk = omega (arith, says.disk_count); say = says.part.say; cause = tt };
    served = tt;
  }

  -- or not
  pub tells_part : (text : List ℕ) (old new : D) (fault : SayFault) → Says host text old new → HasCause {T = Unit {0}} {E = SayFault} (host.say_faults old) (host.say_faults new) (Err fault) → Tells host text old new (Err status.SayFault)
  tells_part text old new fault says cause = record {
    all = tt;
    says = says;
    fault = refl;
    counts = record { disk = omega (arith, says.disk_count); say = says.part.say; cause = cause.rose refl };
    served = tt;
  }

-- Runs of calls that add bytes, and may fail for want of memory.
use Rattle.std.proofs.Common.{ℕ, List, Ok, Err, refl}
use Rattle.std.specs.Prelude.{Result, IsErr}
use Rattle.st_host.specs.inside.Pieces.{Held, Pushes}
use Rattle.st_host.specs.declared.host.Host.{Ghosts}
use Rattle.st_host.proofs.Joining.{on_err}
use Rattle.st_host.proofs.Pushing.{push_cut}
use Rattle.st_host.specs.declared.file_fault.FileFault.{FileFault}
use Rattle.st_changes.specs.inside.Writing.{Extends}

pub extends_cut : {D T E : Type 0} (host : Ghosts D) (name t a b : List ℕ) (old mid new : D) (p q r : Held) (fault : E) (result : Result T FileFault) → IsErr result
    → Pushes {E = E} host name a old mid p q (Ok tt) → Pushes {E = E} host name b mid new q r (Err fault) → Extends host name t old new p r result
extends_cut host name t a b old mid new p q r fault result err first second =
    let run = push_cut host name t a b old mid new p q r fault (Err fault) refl first second in
    record {
      adds = on_err result _ err;
      writes = run.writes;
      cause = record { later = run.cause.later; rose = λ e. run.cause.rose refl };
    }

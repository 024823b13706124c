-- Nothing is done where no memory is there.
use Rattle.std.proofs.Common.{ℕ, List, refl, inl, arith}
use Rattle.st_host.specs.Stops.{Here, comes}
use Rattle.st_host.specs.Runs.{WritesAbove}
use Rattle.st_host.specs.declared.host.Host.{Ghosts}
use Rattle.st_host.proofs.Telling.{OnlyNow}
use Rattle.st_host.proofs.Touching.{keeps_same}

-- no call writes nothing
pub above_none : {D : Type 0} (host : Ghosts D) (floor : ℕ) (name : List ℕ) (old : D) → OnlyNow host old → WritesAbove host floor name old old
above_none host floor name old only = record {
  run = record {
    disk = omega arith;
    say = refl;
    others = λ told. record { files = λ n is. refl; fewer = λ n c is can. can; more = λ n c is could. could };
    quiet = λ told. refl;
    own = λ told c can. comes c can (keeps_same floor c);
    moments = λ told. record {
      later = omega arith;
      each = λ f s left. let now = only f s told left in record {
        others = λ n is. now.0 n;
        own = comes (f name) (now.0 name) (keeps_same floor (f name));
        quiet = now.1;
      };
      before = λ t f s le left. inl left;
    };
  };
}

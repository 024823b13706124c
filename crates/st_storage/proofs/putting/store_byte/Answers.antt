use Rattle.std.proofs.Common.{rules, ◌≡◌, Err, refl}
use Rattle.st_model.proofs.Leaving.{byte-left, byte-unleft}
use Rattle.st_frames.proofs.Doing.{row-memory}
use Rattle.st_frames.proofs.Leaves.{leaves-died}
use Rattle.st_storage.proofs.putting.store_byte.Goals as goal

pub returns-in_err-fetch_byte : goal.returns-in_err-fetch_byte
returns-in_err-fetch_byte g c =
    let e : c.from_residual.result ≡ Err c.in_err-fetch_byte.field-0.0 = search rules in
    record { does = leaves-died _ _ _ _ _ _ _ _ _ _ e refl (byte-unleft g.O.Objects.names g.met.O.Objects.tabular _ _ _ _ _ (c.in_err-fetch_byte.ensures _ (row-memory _ _ _))); plain = search rules }

pub returns : goal.returns
returns g c = record {
  does = record {
    does = byte-left g.O.Objects.names g.met.O.Objects.tabular _ _ _ _ _ (c.in_ok-fetch_byte.ensures _ (row-memory _ _ _));
    world = refl;
  };
  plain = refl;
}

use Rattle.std.proofs.Common.{rules, ◌≡◌, Err, true, refl, arith}
use Rattle.std.specs.Prelude.{nat_le}
use Rattle.std.proofs.lemmas.Bool.Decides.{nat_tests}
use Rattle.st_bitblt.specs.inside.Reading.{copy_in}
use Rattle.st_frames.specs.inside.Rows.{row_state}
use Rattle.st_frames.proofs.Leaves.{leaves-died}
use Rattle.st_storage.proofs.CopyingTries.{bits-unseen, copy-left, copy-refused}
use Rattle.st_storage.proofs.copying.primitive_copy_bits.Goals as goal

pub returns-in_err-receiver : goal.returns-in_err-receiver
returns-in_err-receiver g c =
    let e : c.from_residual.result ≡ Err c.in_err-receiver.field-0.0 = search rules in
    record { does = leaves-died _ _ _ _ _ _ _ _ _ _ e refl (bits-unseen g.O.Objects.names _ _ c.in_err-receiver.ensures.does) }

pub returns-else-r-gt16388 : goal.returns-else-r-gt16388
unfolding row_state
returns-else-r-gt16388 g c =
    let low : nat_le c.args.r.now.sp 16388 ≡ true = grind (arith, nat_tests) in
    record { does = copy-left g.O.Objects c.args.m.now c.args.r.now c.in_ok-receiver.receiver c.in_ok-receiver.ensures.does (copy_in (g.O.Objects.table c.args.m.now)) g.met.O.Objects.tabular c.in-Ok.field-0 c.in-Ok.ensures.does low _ refl refl refl }

pub returns-in-Err : goal.returns-in-Err
returns-in-Err g c = record { does = copy-refused g.O.Objects c.args.m.now c.args.r.now c.in_ok-receiver.receiver c.in_ok-receiver.ensures.does (copy_in (g.O.Objects.table c.args.m.now)) c.in-Err.field-0 c.in-Err.ensures.does }

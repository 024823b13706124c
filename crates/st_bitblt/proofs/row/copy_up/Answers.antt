use Rattle.std.proofs.Common.{arith, refl}
use Rattle.st_bitblt.proofs.Parts.{copied_none, copied_up}
use Rattle.st_bitblt.proofs.row.copy_up.Goals as goal

pub loop-done-init : goal.loop-done-init
loop-done-init g c = record {
  within = omega arith;
  copied = copied_none _ _ _ _ _ _ _ _ c.requires.can.dest refl;
}

pub loop-done-preserved : goal.loop-done-preserved
loop-done-preserved g c =
    let count = c.min-count.ensures in
    let t = c.loop-done-test.true in
    record {
      within = omega (arith, count, t);
      copied = copied_up _ _ _ _ _ _ _ _ _ _ _ c.requires.can.dest c.requires.order c.loop-done.invariant.copied c.copy_stretch.ensures;
    }

use Rattle.std.proofs.Common.{◌-◌, ◌+◌, arith}
use Rattle.st_bitblt.proofs.Parts.{copied_none, copied_down_at}
use Rattle.st_bitblt.proofs.row.copy_down.Goals as goal

pub loop-left-init : goal.loop-left-init
loop-left-init g c = record {
  within = omega arith;
  copied = copied_none _ _ _ _ _ _ _ _ c.requires.can.dest (omega arith);
}

pub loop-left-preserved : goal.loop-left-preserved
loop-left-preserved g c =
    let count = c.min-count.ensures in
    let f = c.loop-left.invariant.within in
    let k = c.loop-left.left - c.min-count.result in
    record {
      within = omega (arith, f);
      copied = copied_down_at _ _ _ _ _ _ _ (c.args.a.p + k) (c.args.a.q + k) c.min-count.result (c.args.a.n - c.loop-left.left) (c.args.a.p + c.loop-left.left) (c.args.a.q + c.loop-left.left) (c.args.a.n - k) c.requires.can.dest
          (omega (arith, count)) (omega (arith, count)) (omega (arith, count, f))
          (λ s. let d = c.requires.order s in omega (arith, d)) c.loop-left.invariant.copied c.copy_stretch.ensures;
    }

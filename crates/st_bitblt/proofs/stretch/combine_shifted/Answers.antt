use Rattle.std.proofs.Common.{length, arith}
use Rattle.st_bitblt.proofs.Stretches.{one_combined, none_combined, all_combined}
use Rattle.st_bitblt.proofs.stretch.combine_shifted.Goals as goal

pub loop-j-init : goal.loop-j-init
loop-j-init c = record { combined = none_combined c.args.rule.now c.args.tone c.args.source.now c.args.skip c.args.dest.now }

pub loop-j-preserved : goal.loop-j-preserved
loop-j-preserved c =
    let t = c.loop-j-test.true in
    let long = c.loop-j.auto.dest in
    record {
      combined = one_combined c.args.rule.now c.args.tone c.args.source.now c.args.skip c.args.dest.now c.loop-j.dest c.loop-j.j c.joined.result c.combined.result c.requires.skip (omega (arith, t, long))
          c.joined.ensures.left c.joined.ensures.right c.combined.ensures c.loop-j.invariant.combined;
    }

pub returns : goal.returns
returns c =
    let f = c.loop-j-test.false in
    let e = c.loop-j.auto.j-end in
    all_combined c.args.rule.now c.args.tone c.args.source.now c.args.skip c.args.dest.now c.loop-j.dest c.loop-j.j (length c.args.dest.now) (omega (arith, f, e)) c.loop-j.invariant.combined

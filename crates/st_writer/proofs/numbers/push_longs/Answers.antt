use Rattle.std.proofs.Common.{arith}
use Rattle.st_writer.proofs.Adding.{added_none, added_next, added_cut}
use Rattle.st_writer.proofs.Places.{longs_more}
use Rattle.st_writer.proofs.numbers.push_longs.Goals as goal

pub loop-number-init : goal.loop-number-init
loop-number-init g c = added_none g.H.Host c.args.name.now c.args.host.now c.args.piece.now (λ told f s left. g.met.H.Host.only_now c.args.host.now f s told left)

pub returns-in_err-push_long : goal.returns-in_err-push_long
returns-in_err-push_long g c = added_cut g.H.Host c.args.name.now _ _ _ _ _ _ _ _ _ _ _ _ c.from_residual.ensures.0 c.loop-number.invariant c.in_err-push_long.ensures

pub loop-number-preserved : goal.loop-number-preserved
loop-number-preserved g c = added_next g.H.Host c.args.name.now _ _ _ _ _ _ _ _ _ _ _ c.loop-number.invariant c.in_ok-push_long.ensures (longs_more _ _ c.loop-number-test.true) (omega arith)

use Rattle.std.proofs.Common.{arith}
use Rattle.st_writer.proofs.Adding.{added_none, added_next, added_cut}
use Rattle.st_writer.proofs.Places.{most_bytes, space_more}
use Rattle.st_writer.proofs.table.push_objects.Goals as goal

pub loop-k-init : goal.loop-k-init
loop-k-init g c = added_none g.H.Host c.args.name.now c.args.host.now c.args.piece.now (λ told f s left. g.met.H.Host.only_now c.args.host.now f s told left)

pub returns-in_err-push_place : goal.returns-in_err-push_place
returns-in_err-push_place g c = added_cut g.H.Host c.args.name.now _ _ _ _ _ _ _ _ _ _ _ _ c.from_residual.ensures.0 c.loop-k.invariant c.in_err-push_place.ensures

pub loop-k-preserved : goal.loop-k-preserved
loop-k-preserved g c = added_next g.H.Host c.args.name.now _ _ _ _ _ _ _ _ _ _ _ c.loop-k.invariant c.in_ok-push_place.ensures (space_more (g.M.Memory.view c.args.m.now).objects c.loop-k.k) (omega (arith, most_bytes _ c.loop-k.k (g.met.M.Memory.whole c.args.m.now)))

use Rattle.std.proofs.Common.{◌<◌, length, arith}
use Rattle.st_call.proofs.Pushing.{push_none, push_next, push_stopped, mapped_at}
use Rattle.st_recover.specs.inside.Replayings.{loss_of, losses_of}
use Rattle.st_session.specs.FirstLines.{lost_text}
use Rattle.st_session.proofs.first_lines.push_all_lost.Goals as goal

pub loop-each-init : goal.loop-each-init
loop-each-init g c = push_none g.H.Host c.args.host.now (g.met.H.Host.only_now c.args.host.now)

pub returns-in_err-push_lost : goal.returns-in_err-push_lost
returns-in_err-push_lost g c =
    let below : c.loop-each.each-index < length c.args.lost.now = omega arith in
    push_stopped lost_text (losses_of c.args.lost.now) c.loop-each.each-index c.from_residual.ensures.0 (mapped_at loss_of c.args.lost.now c.loop-each.each-index _ below) c.loop-each.invariant c.in_err-push_lost.ensures

pub loop-each-preserved : goal.loop-each-preserved
loop-each-preserved g c =
    let below : c.loop-each.each-index < length c.args.lost.now = omega arith in
    push_next lost_text (losses_of c.args.lost.now) c.loop-each.each-index (mapped_at loss_of c.args.lost.now c.loop-each.each-index _ below) c.loop-each.invariant c.in_ok-push_lost.ensures

use Rattle.std.proofs.Common.{◌<◌, ◌+◌, length, drop, sym, arith}
use Rattle.st_call.proofs.Pushing.{push_none, push_then, push_begun, push_as, byte_more, bytes_left}
use Rattle.st_call.proofs.output.Output.push.Goals as goal

pub loop-byte-init : goal.loop-byte-init
loop-byte-init g c = push_none g.H.Host c.args.host.now (g.met.H.Host.only_now c.args.host.now)

pub returns-in_err-push_byte : goal.returns-in_err-push_byte
returns-in_err-push_byte g c =
    let below : c.loop-byte.byte-index < length c.args.bytes.now = omega arith in
    push_as (push_then c.loop-byte.invariant (push_begun (drop (c.loop-byte.byte-index + 1) c.args.bytes.now) c.from_residual.ensures.0 c.in_err-push_byte.ensures)) (sym (bytes_left c.args.bytes.now c.loop-byte.byte-index below))

pub loop-byte-preserved : goal.loop-byte-preserved
loop-byte-preserved g c =
    let below : c.loop-byte.byte-index < length c.args.bytes.now = omega arith in
    push_as (push_then c.loop-byte.invariant c.in_ok-push_byte.ensures) (sym (byte_more c.args.bytes.now c.loop-byte.byte-index below))

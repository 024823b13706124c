use Rattle.std.proofs.Common.{◌<◌, length, arith}
use Rattle.std.proofs.lemmas.Option.{slice_get-get_or}
use Rattle.st_call.proofs.Pushing.{push_none, push_next, push_stopped}
use Rattle.st_browse.specs.Sources.{source_byte}
use Rattle.st_browse.proofs.source.push_source_bytes.Goals as goal

pub loop-byte-init : goal.loop-byte-init
loop-byte-init g c = push_none g.H.Host c.args.host.now (g.met.H.Host.only_now c.args.host.now)

pub returns-in_err-push_source_byte : goal.returns-in_err-push_source_byte
returns-in_err-push_source_byte g c =
    let below : c.loop-byte.byte-index < length c.args.text.now = omega arith in
    push_stopped source_byte c.args.text.now c.loop-byte.byte-index c.from_residual.ensures.0 (slice_get-get_or c.args.text.now c.loop-byte.byte-index 0 below) c.loop-byte.invariant c.in_err-push_source_byte.ensures

pub loop-byte-preserved : goal.loop-byte-preserved
loop-byte-preserved g c =
    let below : c.loop-byte.byte-index < length c.args.text.now = omega arith in
    push_next source_byte c.args.text.now c.loop-byte.byte-index (slice_get-get_or c.args.text.now c.loop-byte.byte-index 0 below) c.loop-byte.invariant c.in_ok-push_source_byte.ensures

use Rattle.std.proofs.Common.{◌<◌, ◌++◌, length, arith}
use Rattle.std.specs.Prelude.{codes}
use Rattle.std.specs.Fmt.{decimal}
use Rattle.std.proofs.lemmas.Option.{slice_get-get_or}
use Rattle.st_call.proofs.Pushing.{push_none, push_next, push_stopped}
use Rattle.st_call.proofs.lines.push_numbers.Goals as goal

pub loop-n-init : goal.loop-n-init
loop-n-init g c = push_none g.H.Host c.args.host.now (g.met.H.Host.only_now c.args.host.now)

pub returns-in_err-push_number : goal.returns-in_err-push_number
returns-in_err-push_number g c =
    let below : c.loop-n.n-index < length c.args.numbers.now = omega arith in
    push_stopped (λ n. codes " " ++ decimal n) c.args.numbers.now c.loop-n.n-index c.from_residual.ensures.0 (slice_get-get_or c.args.numbers.now c.loop-n.n-index 0 below) c.loop-n.invariant c.in_err-push_number.ensures

pub loop-n-preserved : goal.loop-n-preserved
loop-n-preserved g c =
    let below : c.loop-n.n-index < length c.args.numbers.now = omega arith in
    push_next (λ n. codes " " ++ decimal n) c.args.numbers.now c.loop-n.n-index (slice_get-get_or c.args.numbers.now c.loop-n.n-index 0 below) c.loop-n.invariant c.in_ok-push_number.ensures

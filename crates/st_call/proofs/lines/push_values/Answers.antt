use Rattle.std.proofs.Common.{◌<◌, ◌++◌, length, map, arith}
use Rattle.std.specs.Prelude.{codes}
use Rattle.st_model.specs.Values.{value}
use Rattle.st_model.specs.Text.{value_text}
use Rattle.st_call.proofs.Pushing.{push_none, push_next, push_stopped, mapped_at}
use Rattle.st_call.proofs.lines.push_values.Goals as goal

pub loop-o-init : goal.loop-o-init
loop-o-init g c = push_none g.H.Host c.args.host.now (g.met.H.Host.only_now c.args.host.now)

pub returns-in_err-push_value : goal.returns-in_err-push_value
returns-in_err-push_value g c =
    let below : c.loop-o.o-index < length c.args.values.now = omega arith in
    push_stopped (λ v. codes " " ++ value_text v) (map value c.args.values.now) c.loop-o.o-index c.from_residual.ensures.0 (mapped_at value c.args.values.now c.loop-o.o-index _ below) c.loop-o.invariant c.in_err-push_value.ensures

pub loop-o-preserved : goal.loop-o-preserved
loop-o-preserved g c =
    let below : c.loop-o.o-index < length c.args.values.now = omega arith in
    push_next (λ v. codes " " ++ value_text v) (map value c.args.values.now) c.loop-o.o-index (mapped_at value c.args.values.now c.loop-o.o-index _ below) c.loop-o.invariant c.in_ok-push_value.ensures

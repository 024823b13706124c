use Rattle.std.proofs.Common.{◌++◌}
use Rattle.std.specs.Prelude.{codes}
use Rattle.st_model.specs.Text.{value_text}
use Rattle.st_model.specs.Values.{value}
use Rattle.st_model.specs.View.{object_of}
use Rattle.st_call.proofs.Pushing.{push_none, push_next, push_stopped}
use Rattle.st_call.proofs.objects.push_fields.Goals as goal

pub loop-i-init : goal.loop-i-init
loop-i-init g c = push_none g.H.Host c.args.host.now (g.met.H.Host.only_now c.args.host.now)

pub returns-in_err-push_value : goal.returns-in_err-push_value
returns-in_err-push_value g c =
    let xs = (object_of (g.M.Memory.view c.args.m.now).objects (value c.args.o)).fields in
    push_stopped (λ v. codes " " ++ value_text v) xs c.loop-i.i c.from_residual.ensures.0 c.pointer.ensures.field c.loop-i.invariant c.in_err-push_value.ensures

pub loop-i-preserved : goal.loop-i-preserved
loop-i-preserved g c =
    let xs = (object_of (g.M.Memory.view c.args.m.now).objects (value c.args.o)).fields in
    push_next (λ v. codes " " ++ value_text v) xs c.loop-i.i c.pointer.ensures.field c.loop-i.invariant c.in_ok-push_value.ensures

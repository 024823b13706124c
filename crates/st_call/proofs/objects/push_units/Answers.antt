use Rattle.std.proofs.Common.{◌++◌}
use Rattle.std.specs.Prelude.{codes}
use Rattle.std.specs.Fmt.{decimal}
use Rattle.st_model.specs.Values.{value}
use Rattle.st_model.specs.View.{object_of}
use Rattle.st_call.proofs.Pushing.{push_none, push_next, push_stopped}
use Rattle.st_call.proofs.objects.push_units.Goals as goal

pub loop-i-init : goal.loop-i-init
loop-i-init g c = push_none g.H.Host c.args.host.now (g.met.H.Host.only_now c.args.host.now)

pub returns-in_err-push_number : goal.returns-in_err-push_number
returns-in_err-push_number g c =
    let xs = (object_of (g.M.Memory.view c.args.m.now).objects (value c.args.o)).units in
    push_stopped (λ n. codes " " ++ decimal n) xs c.loop-i.i c.from_residual.ensures.0 c.unit_at.ensures c.loop-i.invariant c.in_err-push_number.ensures

pub loop-i-preserved : goal.loop-i-preserved
loop-i-preserved g c =
    let xs = (object_of (g.M.Memory.view c.args.m.now).objects (value c.args.o)).units in
    push_next (λ n. codes " " ++ decimal n) xs c.loop-i.i c.unit_at.ensures c.loop-i.invariant c.in_ok-push_number.ensures

use Rattle.std.proofs.Common.{◌++◌, take, drop, ap}
use Rattle.std.specs.Prelude.{codes}
use Rattle.std.specs.Fmt.{decimal}
use Rattle.st_model.specs.Values.{value}
use Rattle.st_model.specs.View.{object_of}
use Rattle.st_model.specs.Text.{numbers_text}
use Rattle.st_call.proofs.Pushing.{push_none, push_next, push_stopped, push_as}
use Rattle.st_browse.proofs.Parting.{unit_of, taken_all}
use Rattle.st_browse.proofs.codes.push_units.Goals as goal

pub loop-i-init : goal.loop-i-init
loop-i-init g c = push_none g.H.Host c.args.host.now (g.met.H.Host.only_now c.args.host.now)

pub returns-in_err-push_number : goal.returns-in_err-push_number
returns-in_err-push_number g c =
    let us = (object_of (g.M.Memory.view c.args.m.now).objects (value c.args.body.method)).units in
    push_stopped (λ n. codes " " ++ decimal n) (take c.args.count (drop c.args.from us)) c.loop-i.i c.from_residual.ensures.0
    (unit_of us c.args.from c.args.count c.loop-i.i c.unit.result c.loop-i-test.true c.unit.ensures) c.loop-i.invariant c.in_err-push_number.ensures

pub loop-i-preserved : goal.loop-i-preserved
loop-i-preserved g c =
    let us = (object_of (g.M.Memory.view c.args.m.now).objects (value c.args.body.method)).units in
    push_next (λ n. codes " " ++ decimal n) (take c.args.count (drop c.args.from us)) c.loop-i.i
    (unit_of us c.args.from c.args.count c.loop-i.i c.unit.result c.loop-i-test.true c.unit.ensures) c.loop-i.invariant c.in_ok-push_number.ensures

pub returns : goal.returns
returns g c =
    let us = (object_of (g.M.Memory.view c.args.m.now).objects (value c.args.body.method)).units in
    push_as c.loop-i.invariant (ap numbers_text (taken_all us c.args.from c.args.count c.loop-i.i c.loop-i-test.false))

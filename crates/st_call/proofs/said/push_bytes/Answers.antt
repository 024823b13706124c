use Rattle.st_model.specs.Text.{escaped_byte}
use Rattle.st_model.specs.Values.{value}
use Rattle.st_model.specs.View.{object_of}
use Rattle.st_call.proofs.Pushing.{push_none, push_next, push_stopped}
use Rattle.st_call.proofs.Escaping.{unit_is}
use Rattle.st_call.proofs.said.push_bytes.Goals as goal

pub loop-i-init : goal.loop-i-init
loop-i-init g c = push_none g.H.Host c.args.host.now (g.met.H.Host.only_now c.args.host.now)

pub returns-in_err-push_escaped : goal.returns-in_err-push_escaped
returns-in_err-push_escaped g c =
    let xs = (object_of (g.M.Memory.view c.args.m.now).objects (value c.args.o)).units in
    let at = unit_is (g.met.M.Memory.whole c.args.m.now) (value c.args.o) c.requires.live c.requires.kind c.loop-i.i c.byte.result c.byte.ensures in
    push_stopped escaped_byte xs c.loop-i.i c.from_residual.ensures.0 at c.loop-i.invariant c.in_err-push_escaped.ensures

pub loop-i-preserved : goal.loop-i-preserved
loop-i-preserved g c =
    let xs = (object_of (g.M.Memory.view c.args.m.now).objects (value c.args.o)).units in
    let at = unit_is (g.met.M.Memory.whole c.args.m.now) (value c.args.o) c.requires.live c.requires.kind c.loop-i.i c.byte.result c.byte.ensures in
    push_next escaped_byte xs c.loop-i.i at c.loop-i.invariant c.in_ok-push_escaped.ensures

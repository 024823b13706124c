use Rattle.std.proofs.Common.{◌≡◌, ap, ◌∙◌, arith}
use Rattle.st_model.specs.Values.{value}
use Rattle.st_model.specs.View.{object_of}
use Rattle.st_scope.specs.inside.Meanings.{values}
use Rattle.st_parts.proofs.Taking.{next_value, all_taken}
use Rattle.st_parts.proofs.bodies.fields_of.Goals as goal

pub loop-i-preserved : goal.loop-i-preserved
loop-i-preserved g c =
    let fields = (object_of (g.M.Memory.view c.args.m.now).objects (value c.args.o)).fields in
    ap values c.in_ok-push.ensures.items ∙ next_value fields c.loop-i.fields.items c.loop-i.i c.pointer.result c.pointer.ensures.field c.loop-i.invariant

pub returns : goal.returns
returns g c =
    let fields = (object_of (g.M.Memory.view c.args.m.now).objects (value c.args.o)).fields in
    let n = c.count_fields-i-end.ensures in
    let l = c.loop-i-test.false in
    all_taken fields (values c.loop-i.fields.items) c.loop-i.i (omega (arith, n, l)) c.loop-i.invariant

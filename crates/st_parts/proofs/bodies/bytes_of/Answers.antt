use Rattle.std.proofs.Common.{◌≡◌, ◌+◌, ◌*◌, ◌-◌, length, sym, ap, ◌∙◌, arith}
use Rattle.std.specs.Prelude.{slice_get, Some}
use Rattle.st_model.specs.Values.{value}
use Rattle.st_model.specs.View.{object_of}
use Rattle.st_parts.proofs.Taking.{next_taken, all_taken}
use Rattle.st_parts.proofs.bodies.bytes_of.Goals as goal

pub loop-i-preserved : goal.loop-i-preserved
loop-i-preserved g c =
    let o = object_of (g.M.Memory.view c.args.m.now).objects (value c.args.o) in
    let n = c.count_fields-fields.ensures in
    let place : (2 * c.count_fields-fields.result + c.loop-i.i) - 2 * length o.fields ≡ c.loop-i.i = omega (arith, n) in
    let byte : slice_get o.units c.loop-i.i ≡ Some c.byte.result = sym (ap (slice_get o.units) place) ∙ c.byte.ensures in
    c.in_ok-push.ensures.items ∙ next_taken o.units c.loop-i.bytes.items c.loop-i.i c.byte.result byte c.loop-i.invariant

pub returns : goal.returns
returns g c =
    let o = object_of (g.M.Memory.view c.args.m.now).objects (value c.args.o) in
    let n = c.count_units-i-end.ensures in
    let l = c.loop-i-test.false in
    all_taken o.units c.loop-i.bytes.items c.loop-i.i (omega (arith, n, l)) c.loop-i.invariant

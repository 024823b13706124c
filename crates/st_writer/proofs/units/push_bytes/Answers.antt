use Rattle.std.proofs.Common.{◌≡◌, ◌-◌, length, ap, ◌∙◌, ◌+◌, ◌*◌, arith}
use Rattle.std.specs.Prelude.{slice_get}
use Rattle.st_memory.proofs.Bodies.{most_units}
use Rattle.st_model.specs.Values.{value}
use Rattle.st_model.specs.View.{object_of}
use Rattle.st_writer.proofs.Adding.{added_none, added_next, added_cut}
use Rattle.st_writer.proofs.Places.{bytes_more}
use Rattle.st_writer.proofs.units.push_bytes.Goals as goal

pub loop-i-init : goal.loop-i-init
loop-i-init g c = added_none g.H.Host c.args.name.now c.args.host.now c.args.piece.now (λ told f s left. g.met.H.Host.only_now c.args.host.now f s told left)

pub returns-in_err-push : goal.returns-in_err-push
returns-in_err-push g c = added_cut g.H.Host c.args.name.now _ _ _ _ _ _ _ _ _ _ _ _ c.from_residual.ensures.0 c.loop-i.invariant c.in_err-push.ensures

pub loop-i-preserved : goal.loop-i-preserved
loop-i-preserved g c =
    let object = object_of (g.M.Memory.view c.args.m.now).objects (value c.args.o) in
    let i = c.loop-i.i in
    let at : i ≡ 2 * c.count_fields-fields.result + i - 2 * length object.fields = let f = c.count_fields-fields.ensures in omega arith in
    added_next g.H.Host c.args.name.now _ _ _ _ _ _ _ _ _ _ _ c.loop-i.invariant c.in_ok-push.ensures
    (bytes_more object.units i _ (ap (slice_get object.units) at ∙ c.byte.ensures)) (omega arith)

pub overflow_mul-fields : goal.overflow_mul-fields
overflow_mul-fields g c = omega (arith, c.count_fields-fields.ensures, most_units {v = g.M.Memory.view c.args.m.now} (value c.args.o) (g.met.M.Memory.whole c.args.m.now) c.requires.live)

pub overflow_add-fields : goal.overflow_add-fields
overflow_add-fields g c = omega (arith, c.count_fields-fields.ensures, most_units {v = g.M.Memory.view c.args.m.now} (value c.args.o) (g.met.M.Memory.whole c.args.m.now) c.requires.live)

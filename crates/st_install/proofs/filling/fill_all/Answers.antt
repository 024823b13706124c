use Rattle.std.proofs.Common.{◌+◌, ◌≤◌, sym, subst, length, slice_index_or, arith}
use Rattle.st_model.specs.declared.oop.Oop.{Oop}
use Rattle.st_model.specs.Values.{value}
use Rattle.st_install.specs.declared.plan.NewObject.{NewObject}
use Rattle.st_install.specs.inside.Carried.{IsPlannable, IsShaped}
use Rattle.st_install.specs.inside.Readies.{object_of as planned_of}
use Rattle.st_scope.specs.inside.Meanings.{values}
use Rattle.st_install.proofs.Going.{left_goes, left_next, left_done}
use Rattle.st_install.proofs.Filled.{objects_from, objects_step, objects_end, plannable_at, shaped_at}
use Rattle.st_install.proofs.filling.fill_all.Goals as goal

pub fill-requires-clause-goes : goal.fill-requires-clause-goes
fill-requires-clause-goes g c =
    let from = objects_from (values c.args.made.now) c.args.made.now c.args.objects.now in
    let l = c.loop-i-test.true in
    let e = c.requires.each in
    left_goes (from 0) (from c.loop-i.i) (g.M.Memory.view c.args.m.now) (g.M.Memory.view c.loop-i.m) c.loop-i.invariant _ (from (c.loop-i.i + 1))
    (objects_step (values c.args.made.now) c.args.made.now c.args.objects.now c.loop-i.i (record { 0 = 0 }) c.index-objects-i.result (omega (arith, l, e)) (omega (arith, l)) c.index-objects-i.is) c.requires.goes

pub fill-requires-clause-plannable : goal.fill-requires-clause-plannable
fill-requires-clause-plannable g c =
    let l = c.loop-i-test.true in
    subst (λ (n : NewObject). IsPlannable (planned_of n)) (sym c.index-objects-i.is) (plannable_at c.args.objects.now c.loop-i.i c.index-objects-i.result (omega (arith, l)) c.requires.plannable)

pub fill-requires-clause-shaped : goal.fill-requires-clause-shaped
fill-requires-clause-shaped g c =
    let l = c.loop-i-test.true in
    let e = c.requires.each in
    let u = (g.M.Memory.view c.loop-i.m).objects in
    let o : Oop = record { 0 = 0 } in
    subst (λ (n : NewObject). IsShaped u (value (slice_index_or c.args.made.now c.loop-i.i o)) (planned_of n)) (sym c.index-objects-i.is)
    (shaped_at (g.M.Memory.view c.args.m.now).objects u c.args.made.now c.args.objects.now c.loop-i.i o c.index-objects-i.result (omega (arith, l, e)) (omega (arith, l)) c.requires.shaped c.loop-i.invariant.fields)

pub loop-i-preserved : goal.loop-i-preserved
loop-i-preserved g c =
    let from = objects_from (values c.args.made.now) c.args.made.now c.args.objects.now in
    let l = c.loop-i-test.true in
    let e = c.requires.each in
    left_next (from 0) (from c.loop-i.i) (g.M.Memory.view c.args.m.now) (g.M.Memory.view c.loop-i.m) c.loop-i.invariant _ (from (c.loop-i.i + 1)) (g.M.Memory.view c.fill.new.m)
    (objects_step (values c.args.made.now) c.args.made.now c.args.objects.now c.loop-i.i (record { 0 = 0 }) c.index-objects-i.result (omega (arith, l, e)) (omega (arith, l)) c.index-objects-i.is) c.fill.ensures.becomes c.fill.ensures.fields

pub returns : goal.returns
returns g c =
    let from = objects_from (values c.args.made.now) c.args.made.now c.args.objects.now in
    let l = c.loop-i-test.false in
    let last : length c.args.objects.now ≤ c.loop-i.i = omega (arith, l) in
    record { becomes = left_done (from 0) (from c.loop-i.i) (g.M.Memory.view c.args.m.now) (g.M.Memory.view c.loop-i.m) c.loop-i.invariant (objects_end (values c.args.made.now) c.args.made.now c.args.objects.now c.loop-i.i last) }

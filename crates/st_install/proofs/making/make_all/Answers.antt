use Rattle.std.proofs.Common.{◌≤◌, length, sym, subst, arith}
use Rattle.st_install.specs.declared.plan.NewObject.{NewObject}
use Rattle.st_install.specs.inside.Carried.{IsPlannable}
use Rattle.st_install.specs.inside.Readies.{object_of as planned_of}
use Rattle.st_install.proofs.Filled.{plannable_at}
use Rattle.st_install.proofs.Makings.{none_made, new_goes, one_room, one_made, made_all, all_shaped}
use Rattle.st_install.proofs.making.make_all.Goals as goal

pub loop-i-init : goal.loop-i-init
loop-i-init g c = none_made c.args.objects.now c.args.made.now (g.M.Memory.view c.args.m.now) c.requires.each c.requires.room

pub make_new-requires-clause-goes : goal.make_new-requires-clause-goes
make_new-requires-clause-goes g c =
    new_goes c.args.objects.now c.loop-i.i c.loop-i.made (g.M.Memory.view c.args.m.now) (g.M.Memory.view c.loop-i.m) c.loop-i.invariant c.index-objects-i.result c.loop-i-test.true c.index-objects-i.is c.requires.goes

pub make_new-requires-clause-plannable : goal.make_new-requires-clause-plannable
make_new-requires-clause-plannable g c =
    subst (λ (n : NewObject). IsPlannable (planned_of n)) (sym c.index-objects-i.is) (plannable_at c.args.objects.now c.loop-i.i c.index-objects-i.result c.loop-i-test.true c.requires.plannable)

pub make_new-requires-clause-room : goal.make_new-requires-clause-room
make_new-requires-clause-room g c =
    one_room c.args.objects.now c.loop-i.i c.loop-i.made (g.M.Memory.view c.args.m.now) (g.M.Memory.view c.loop-i.m) c.loop-i.invariant c.index-objects-i.result c.loop-i-test.true c.index-objects-i.is

pub loop-i-preserved : goal.loop-i-preserved
loop-i-preserved g c =
    one_made c.args.objects.now c.loop-i.i c.loop-i.made (g.M.Memory.view c.args.m.now) (g.M.Memory.view c.loop-i.m) c.loop-i.invariant c.index-objects-i.result c.loop-i-test.true c.index-objects-i.is
    c.make_new.result (g.M.Memory.view c.make_new.new.m) c.make_new.ensures.becomes c.make_new.ensures.makes

pub returns-clause-becomes : goal.returns-clause-becomes
returns-clause-becomes g c =
    let l = c.loop-i-test.false in
    let last : length c.args.objects.now ≤ c.loop-i.i = omega (arith, l) in
    made_all c.args.objects.now c.loop-i.i c.loop-i.made (g.M.Memory.view c.args.m.now) (g.M.Memory.view c.loop-i.m) c.loop-i.invariant last

pub returns-clause-shaped : goal.returns-clause-shaped
returns-clause-shaped g c =
    let l = c.loop-i-test.false in
    let last : length c.args.objects.now ≤ c.loop-i.i = omega (arith, l) in
    all_shaped c.args.objects.now c.loop-i.i c.loop-i.made (g.M.Memory.view c.args.m.now) (g.M.Memory.view c.loop-i.m) c.loop-i.invariant last

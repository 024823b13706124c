use Rattle.std.proofs.Common.{◌≡◌, ◌∙◌, ap, List, length, sym, subst, true}
use Rattle.std.specs.List.{AllByRecursion}
use Rattle.std.proofs.lemmas.List.{with_items_is}
use Rattle.st_model.specs.Table.{bounded_table}
use Rattle.st_model.specs.View.{fits}
use Rattle.st_install.specs.declared.plan.NewObject.{NewObject}
use Rattle.st_install.specs.inside.Carried.{Goes, IsPlannable}
use Rattle.st_install.specs.Installing.{make_all}
use Rattle.st_install.specs.Plans.{demand_of_all}
use Rattle.st_install.specs.inside.Readies.{objects_of, plan_of}
use Rattle.st_install.proofs.Carryings.{make_goes, made_rest_goes, made_installed, ready_goes, ready_plannable, ready_room}
use Rattle.st_install.proofs.installing.make_and_store.Goals as goal

pub make_all-requires-clause-goes : goal.make_all-requires-clause-goes
make_all-requires-clause-goes g c =
    let p = plan_of c.args.ready in
    let v = g.M.Memory.view c.args.m.now in
    subst (λ (os : List NewObject). Goes (make_all bounded_table (objects_of os)) v) (sym c.deref.ensures.value) (make_goes p v (ready_goes p v (g.met.M.Memory.whole c.args.m.now) c.requires.ready))

pub make_all-requires-clause-plannable : goal.make_all-requires-clause-plannable
make_all-requires-clause-plannable g c =
    subst (λ (os : List NewObject). AllByRecursion IsPlannable (objects_of os)) (sym c.deref.ensures.value)
    (ready_plannable (plan_of c.args.ready) (g.M.Memory.view c.args.m.now) (g.met.M.Memory.whole c.args.m.now) c.requires.ready c.requires.bodies)

pub make_all-requires-clause-room : goal.make_all-requires-clause-room
make_all-requires-clause-room g c =
    let v = g.M.Memory.view c.args.m.now in
    subst (λ (os : List NewObject). fits v (demand_of_all (objects_of os)) ≡ true) (sym c.deref.ensures.value) (ready_room (plan_of c.args.ready) v (g.met.M.Memory.whole c.args.m.now) c.requires.ready)

pub fill_and_store-requires-clause-goes : goal.fill_and_store-requires-clause-goes
fill_and_store-requires-clause-goes g c =
    let len : length c.make_all.new.made ≡ c.args.ready.made.len =
    c.make_all.ensures.each ∙ (ap length c.deref.ensures.value ∙ (sym c.requires.room ∙ sym c.args.ready.made.ok.0)) in
    let pointers = c.deref-2.ensures.value ∙ with_items_is c.args.ready.made c.make_all.new.made len in
    made_rest_goes c.args.ready (g.M.Memory.view c.args.m.now) (g.met.M.Memory.whole c.args.m.now) c.requires.ready _ c.deref.ensures.value c.make_all.new.made (g.M.Memory.view c.make_all.new.m) c.make_all.ensures.becomes _ pointers

pub fill_and_store-requires-clause-plannable : goal.fill_and_store-requires-clause-plannable
fill_and_store-requires-clause-plannable g c =
    ready_plannable (plan_of c.args.ready) (g.M.Memory.view c.args.m.now) (g.met.M.Memory.whole c.args.m.now) c.requires.ready c.requires.bodies

pub returns : goal.returns
returns g c =
    let len : length c.make_all.new.made ≡ c.args.ready.made.len =
    c.make_all.ensures.each ∙ (ap length c.deref.ensures.value ∙ (sym c.requires.room ∙ sym c.args.ready.made.ok.0)) in
    let pointers = c.deref-2.ensures.value ∙ with_items_is c.args.ready.made c.make_all.new.made len in
    made_installed c.args.ready (g.M.Memory.view c.args.m.now) (g.met.M.Memory.whole c.args.m.now) c.requires.ready _ c.deref.ensures.value c.make_all.new.made (g.M.Memory.view c.make_all.new.m) c.make_all.ensures.becomes _ pointers (g.M.Memory.view c.fill_and_store.new.m) c.fill_and_store.ensures

use Rattle.std.proofs.Common.{List, sym, subst}
use Rattle.st_model.specs.Values.{value}
use Rattle.st_model.specs.Objects.{nil}
use Rattle.st_model.specs.Table.{table}
use Rattle.st_install.specs.declared.plan.NewObject.{NewObject}
use Rattle.st_install.specs.inside.Carried.{Goes}
use Rattle.st_install.specs.Installing.{fill_all}
use Rattle.st_scope.specs.inside.Meanings.{values}
use Rattle.st_install.specs.inside.Readies.{objects_of, plan_of}
use Rattle.st_install.proofs.Carryings.{fill_goes, dictionary_goes, selector_goes, planned_go, planned_done}
use Rattle.st_install.proofs.installing.fill_and_store.Goals as goal

pub fill_all-requires-clause-goes : goal.fill_all-requires-clause-goes
fill_all-requires-clause-goes g c =
    let vs = values c.args.made.now in
    let v = g.M.Memory.view c.args.m.now in
    subst (λ (os : List NewObject). Goes (fill_all table nil vs vs (objects_of os)) v) (sym c.deref.ensures.value) (fill_goes vs (plan_of c.args.ready.now) v c.requires.goes)

pub target-dictionary-requires : goal.target-dictionary-requires
target-dictionary-requires g c = dictionary_goes (values c.args.made.now) c.args.ready.now (g.M.Memory.view c.args.m.now) c.requires.goes _ c.deref.ensures.value (g.M.Memory.view c.fill_all.new.m) c.fill_all.ensures.becomes

pub find_place-placing-requires : goal.find_place-placing-requires
find_place-placing-requires g c =
    selector_goes (values c.args.made.now) c.args.ready.now (g.M.Memory.view c.args.m.now) c.requires.goes _ c.deref.ensures.value (g.M.Memory.view c.fill_all.new.m) c.fill_all.ensures.becomes (value c.target-dictionary.result) (g.M.Memory.view c.target-dictionary.new.m) c.target-dictionary.ensures _ c.part_value-selector.ensures

pub store_planned-requires-clause-goes : goal.store_planned-requires-clause-goes
store_planned-requires-clause-goes g c =
    planned_go (values c.args.made.now) c.args.ready.now (g.M.Memory.view c.args.m.now) c.requires.goes _ c.deref.ensures.value (g.M.Memory.view c.fill_all.new.m) c.fill_all.ensures.becomes (value c.target-dictionary.result) (g.M.Memory.view c.target-dictionary.new.m) c.target-dictionary.ensures _ c.part_value-selector.ensures c.find_place-placing.result c.find_place-placing.ensures.finds

pub returns : goal.returns
returns g c =
    planned_done (values c.args.made.now) c.args.ready.now (g.M.Memory.view c.args.m.now) c.requires.goes _ c.deref.ensures.value (g.M.Memory.view c.fill_all.new.m) c.fill_all.ensures.becomes (value c.target-dictionary.result) (g.M.Memory.view c.target-dictionary.new.m) c.target-dictionary.ensures _ c.part_value-selector.ensures c.find_place-placing.result c.find_place-placing.ensures.finds (g.M.Memory.view c.store_planned.new.m) c.store_planned.ensures

use Rattle.std.proofs.Common.{List, sym, subst}
use Rattle.st_model.specs.Objects.{nil}
use Rattle.st_model.specs.Machine.{Step}
use Rattle.st_model.specs.Table.{Table, table}
use Rattle.st_install.specs.declared.plan.SymbolStore.{SymbolStore}
use Rattle.st_install.specs.inside.Carried.{Goes, Becomes}
use Rattle.st_install.specs.Installing.{store_all, add_at}
use Rattle.st_install.specs.inside.Endings.{ending_of}
use Rattle.st_scope.specs.inside.Meanings.{values}
use Rattle.st_install.specs.inside.Placings.{placing_of}
use Rattle.st_install.specs.inside.Readies.{plan_of, stores_of}
use Rattle.st_install.proofs.Stores.{planned_first, planned_second, planned_third, planned_all}
use Rattle.st_install.proofs.storing.store_planned.Goals as goal

pub store_all-requires : goal.store_all-requires
store_all-requires g c =
    let vs = values c.args.made.now in
    let v = g.M.Memory.view c.args.m.now in
    subst (λ (ss : List SymbolStore). Goes (store_all table nil vs (stores_of ss)) v) (sym c.deref.ensures.value) (planned_first vs (plan_of c.args.ready.now) (placing_of c.args.placing) v c.requires.goes)

pub adopt-requires : goal.adopt-requires
adopt-requires g c =
    let vs = values c.args.made.now in
    let v = g.M.Memory.view c.args.m.now in
    let w = g.M.Memory.view c.store_all.new.m in
    planned_second vs (plan_of c.args.ready.now) (placing_of c.args.placing) v c.requires.goes w (subst (λ (ss : List SymbolStore). Becomes (store_all table nil vs (stores_of ss)) v tt w) c.deref.ensures.value c.store_all.ensures)

pub add_at-requires-clause-goes : goal.add_at-requires-clause-goes
add_at-requires-clause-goes g c =
    let vs = values c.args.made.now in
    let v = g.M.Memory.view c.args.m.now in
    let w = g.M.Memory.view c.store_all.new.m in
    let u = g.M.Memory.view c.adopt.new.m in
    let first = subst (λ (ss : List SymbolStore). Becomes (store_all table nil vs (stores_of ss)) v tt w) c.deref.ensures.value c.store_all.ensures in
    subst (λ (m : Step Table Unit). Goes m u) (λ i. add_at table (placing_of c.args.placing) (sym c.part_value-selector.ensures i) (sym c.part_value-method.ensures i) (ending_of c.args.placing.place))
    (planned_third vs (plan_of c.args.ready.now) (placing_of c.args.placing) v c.requires.goes w first u c.adopt.ensures)

pub returns : goal.returns
returns g c =
    let vs = values c.args.made.now in
    let v = g.M.Memory.view c.args.m.now in
    let w = g.M.Memory.view c.store_all.new.m in
    let u = g.M.Memory.view c.adopt.new.m in
    let x = g.M.Memory.view c.add_at.new.m in
    let first = subst (λ (ss : List SymbolStore). Becomes (store_all table nil vs (stores_of ss)) v tt w) c.deref.ensures.value c.store_all.ensures in
    planned_all vs (plan_of c.args.ready.now) (placing_of c.args.placing) v c.requires.goes w first u c.adopt.ensures x
    (subst (λ (m : Step Table Unit). Becomes m u tt x) (λ i. add_at table (placing_of c.args.placing) (c.part_value-selector.ensures i) (c.part_value-method.ensures i) (ending_of c.args.placing.place)) c.add_at.ensures)

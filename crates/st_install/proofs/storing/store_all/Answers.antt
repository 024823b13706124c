use Rattle.std.proofs.Common.{◌+◌, ◌≤◌, sym, subst, length, slice_index_or, arith}
use Rattle.st_model.specs.Machine.{Step}
use Rattle.st_model.specs.Table.{Table, table}
use Rattle.st_model.specs.Steps.{store_field}
use Rattle.st_install.specs.declared.plan.SymbolStore.{SymbolStore}
use Rattle.st_install.specs.declared.plan.PlannedValue.TheVariants as part
use Rattle.st_install.specs.inside.Carried.{Goes, Becomes}
use Rattle.st_scope.specs.inside.Meanings.{values}
use Rattle.st_install.proofs.Going.{part_goes, remains_next, all_done}
use Rattle.st_install.proofs.Stores.{stores_from, stores_turn, stores_end}
use Rattle.st_install.proofs.storing.store_all.Goals as goal

abbrev none : SymbolStore
none = record { object = part.There (record { 0 = 0 }); field = 0; value = part.There (record { 0 = 0 }) }

pub store_field-requires : goal.store_field-requires
store_field-requires g c =
    let from = stores_from (values c.args.made.now) c.args.stores.now in
    let field = (slice_index_or c.args.stores.now c.loop-i.i none).field in
    let w = g.M.Memory.view c.loop-i.m in
    subst (λ (m : Step Table Unit). Goes m w) (λ i. store_field table (sym c.part_value-object.ensures i) field (sym c.part_value-x.ensures i))
    (part_goes (from 0) (from c.loop-i.i) (g.M.Memory.view c.args.m.now) w c.loop-i.invariant _ (from (c.loop-i.i + 1)) (stores_turn (values c.args.made.now) c.args.stores.now c.loop-i.i none c.loop-i-test.true) c.requires)

pub loop-i-preserved : goal.loop-i-preserved
loop-i-preserved g c =
    let from = stores_from (values c.args.made.now) c.args.stores.now in
    let field = (slice_index_or c.args.stores.now c.loop-i.i none).field in
    let w = g.M.Memory.view c.loop-i.m in
    let u = g.M.Memory.view c.store_field.new.m in
    remains_next (from 0) (from c.loop-i.i) (g.M.Memory.view c.args.m.now) w c.loop-i.invariant _ (from (c.loop-i.i + 1)) u (stores_turn (values c.args.made.now) c.args.stores.now c.loop-i.i none c.loop-i-test.true)
    (subst (λ (m : Step Table Unit). Becomes m w tt u) (λ i. store_field table (c.part_value-object.ensures i) field (c.part_value-x.ensures i)) c.store_field.ensures.becomes)

pub returns : goal.returns
returns g c =
    let from = stores_from (values c.args.made.now) c.args.stores.now in
    let l = c.loop-i-test.false in
    let last : length c.args.stores.now ≤ c.loop-i.i = omega (arith, l) in
    all_done (from 0) (from c.loop-i.i) (g.M.Memory.view c.args.m.now) (g.M.Memory.view c.loop-i.m) c.loop-i.invariant (stores_end (values c.args.made.now) c.args.stores.now c.loop-i.i last)

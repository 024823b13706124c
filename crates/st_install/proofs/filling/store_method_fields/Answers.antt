use Rattle.std.proofs.Common.{◌∙◌, arith}
use Rattle.st_model.specs.Values.{value}
use Rattle.st_model.specs.Table.{Table, table}
use Rattle.st_model.specs.Steps.{store_method_field}
use Rattle.st_install.specs.Installing.{store_method_fields}
use Rattle.st_scope.specs.inside.Meanings.{values}
use Rattle.st_install.proofs.InTurn.{method_in_turn}
use Rattle.st_install.proofs.Filled.{next_goes, next_left, fields_done, headed}
use Rattle.st_install.proofs.filling.store_method_fields.Goals as goal

pub store_method_field-requires-clause-goes : goal.store_method_field-requires-clause-goes
store_method_field-requires-clause-goes g c =
    next_goes (store_method_field table (value c.args.o)) (store_method_fields table (value c.args.o)) (method_in_turn Table table (value c.args.o)) (values c.args.made.now) c.args.parts.now (g.M.Memory.view c.args.m.now) (g.M.Memory.view c.loop-i.m) c.loop-i.i c.loop-i.invariant _ (let l = c.loop-i-test.true in omega (arith, l)) (value c.part_value-x.result) c.part_value-x.ensures c.requires.goes

pub store_method_field-requires-clause-header : goal.store_method_field-requires-clause-header
store_method_field-requires-clause-header g c = λ m z.
    headed (values c.args.made.now) c.args.parts.now c.loop-i.i _ (value c.part_value-x.result) _ c.requires.headed z (let l = c.loop-i-test.true in omega (arith, l)) c.part_value-x.ensures
    (c.loop-i.invariant.fields (value c.args.o) ∙ c.requires.shaped)

pub loop-i-preserved : goal.loop-i-preserved
loop-i-preserved g c =
    next_left (store_method_field table (value c.args.o)) (store_method_fields table (value c.args.o)) (method_in_turn Table table (value c.args.o)) (values c.args.made.now) c.args.parts.now (g.M.Memory.view c.args.m.now) (g.M.Memory.view c.loop-i.m) c.loop-i.i c.loop-i.invariant _ (let l = c.loop-i-test.true in omega (arith, l)) (value c.part_value-x.result) c.part_value-x.ensures (g.M.Memory.view c.store_method_field.new.m) c.store_method_field.ensures.becomes c.store_method_field.ensures.fields

pub returns-clause-becomes : goal.returns-clause-becomes
returns-clause-becomes g c = fields_done (store_method_field table (value c.args.o)) (store_method_fields table (value c.args.o)) (method_in_turn Table table (value c.args.o)) (values c.args.made.now) c.args.parts.now (g.M.Memory.view c.args.m.now) (g.M.Memory.view c.loop-i.m) c.loop-i.i c.loop-i.invariant (let l = c.loop-i-test.false in omega (arith, l))

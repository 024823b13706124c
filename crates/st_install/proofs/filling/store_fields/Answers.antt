use Rattle.std.proofs.Common.{arith}
use Rattle.st_model.specs.Values.{value}
use Rattle.st_model.specs.Table.{Table, table}
use Rattle.st_model.specs.Steps.{store_field, store_fields}
use Rattle.st_scope.specs.inside.Meanings.{values}
use Rattle.st_install.proofs.InTurn.{fields_in_turn}
use Rattle.st_install.proofs.Filled.{next_goes, next_left, fields_done}
use Rattle.st_install.proofs.filling.store_fields.Goals as goal

pub store_field-requires : goal.store_field-requires
store_field-requires g c =
    next_goes (store_field table (value c.args.o)) (store_fields table (value c.args.o)) (fields_in_turn Table table (value c.args.o)) (values c.args.made.now) c.args.parts.now (g.M.Memory.view c.args.m.now) (g.M.Memory.view c.loop-i.m) c.loop-i.i c.loop-i.invariant _ (let l = c.loop-i-test.true in omega (arith, l)) (value c.part_value-x.result) c.part_value-x.ensures c.requires.goes

pub loop-i-preserved : goal.loop-i-preserved
loop-i-preserved g c =
    next_left (store_field table (value c.args.o)) (store_fields table (value c.args.o)) (fields_in_turn Table table (value c.args.o)) (values c.args.made.now) c.args.parts.now (g.M.Memory.view c.args.m.now) (g.M.Memory.view c.loop-i.m) c.loop-i.i c.loop-i.invariant _ (let l = c.loop-i-test.true in omega (arith, l)) (value c.part_value-x.result) c.part_value-x.ensures (g.M.Memory.view c.store_field.new.m) c.store_field.ensures.becomes c.store_field.ensures.fields

pub returns-clause-becomes : goal.returns-clause-becomes
returns-clause-becomes g c = fields_done (store_field table (value c.args.o)) (store_fields table (value c.args.o)) (fields_in_turn Table table (value c.args.o)) (values c.args.made.now) c.args.parts.now (g.M.Memory.view c.args.m.now) (g.M.Memory.view c.loop-i.m) c.loop-i.i c.loop-i.invariant (let l = c.loop-i-test.false in omega (arith, l))

use Rattle.st_model.specs.Values.{value}
use Rattle.st_model.specs.Steps.{store_field, store_fields}
use Rattle.st_model.specs.Table.{Table, table}
use Rattle.st_scope.specs.inside.Meanings.{values}
use Rattle.st_install.proofs.Going.{Left}
use Rattle.st_install.proofs.InTurn.{fields_in_turn}
use Rattle.st_install.proofs.Filled.{fields_from}
use Rattle.st_install.proofs.filling.store_fields.Given as goal

-- the parts from one on are left
abbrev pub invariant-loop-i : goal.invariant-loop-i
invariant-loop-i g l =
    let from = fields_from (store_field table (value l.o)) (store_fields table (value l.o)) (fields_in_turn Table table (value l.o)) (values l.made) l.parts in
    Left (from 0) (from l.i) (g.M.Memory.view l.fn.m) (g.M.Memory.view l.m)

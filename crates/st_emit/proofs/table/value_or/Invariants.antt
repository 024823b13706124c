use Rattle.std.proofs.Common.{◌≡◌, drop}
use Rattle.st_emit.specs.inside.Tables.{table_now, value_or}
use Rattle.st_emit.proofs.table.value_or.Given as goal

abbrev pub invariant-loop-name : goal.invariant-loop-name
invariant-loop-name g l = value_or (table_now (drop l.name-index l.table)) l.text l.otherwise ≡ value_or (table_now l.table) l.text l.otherwise

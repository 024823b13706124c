use Rattle.std.proofs.Common.{◌≡◌, drop}
use Rattle.std.specs.Map.{lookup}
use Rattle.st_kernel_text.specs.Words.{is_word}
use Rattle.st_kernel_text.specs.inside.Tables.{table_now}
use Rattle.st_kernel_text.proofs.table.value_named.Given as goal

abbrev pub invariant-loop-name : goal.invariant-loop-name
invariant-loop-name g l = lookup (is_word l.word) (table_now (drop l.name-index l.table)) ≡ lookup (is_word l.word) (table_now l.table)
